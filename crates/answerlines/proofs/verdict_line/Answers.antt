-- `verdict_line`: refused, or granted.
use mathlib.Core.Path.{refl}
use Rattle.text.proofs.Appending.{same}
use Rattle.answerlines.proofs.Refused.{verdict_refused, verdict_granted}
use Rattle.answerlines.proofs.verdict_line.Goals as goal

pub returns-in-Err : goal.returns-in-Err
returns-in-Err c =
    same c.refused_line.ensures.0 (verdict_refused c.args.v _ refl _ c.in-Err.is c.refusal_number.ensures)

pub returns-in-Ok : goal.returns-in-Ok
returns-in-Ok c =
    same c.hex_line.ensures (verdict_granted c.args.v _ refl _ c.in-Ok.is)
