-- `refused`: the line of the refusal's number.
use mathlib.Core.Path.{refl, ap}
use Rattle.model.specs.Console.{refused_line}
use Rattle.text.proofs.Appending.{same}
use Rattle.workshop.proofs.refused.Goals as goal

pub returns : goal.returns
returns c =
    (refl, same c.refused_line.ensures.0 (ap refused_line c.refusal_number.ensures))
