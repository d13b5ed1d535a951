-- `refuse`: the line of the refusal's number.
use mathlib.Core.Path.{ap}
use Rattle.model.specs.Console.{refused_line}
use Rattle.text.proofs.Appending.{same}
use Rattle.program.proofs.refuse.Goals as goal

pub returns : goal.returns
returns c =
    same c.refused_line.ensures.0 (ap refused_line c.refusal_number.ensures)
