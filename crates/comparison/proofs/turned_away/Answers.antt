-- `turned_away`: the refusal's line.
use mathlib.Core.Path.{ap}
use Rattle.model.specs.Console.{refused_line}
use Rattle.text.proofs.Appending.{same}
use Rattle.comparison.proofs.turned_away.Goals as goal

pub returns : goal.returns
returns c =
    same c.refused_line.ensures.0 (ap refused_line c.refusal_number.ensures)
