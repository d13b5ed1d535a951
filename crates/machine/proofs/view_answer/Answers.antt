-- `view_answer`: the verdict's number.
use Rattle.machine.proofs.Outcomes.{view_number}
use Rattle.machine.proofs.view_answer.Goals as goal

pub returns : goal.returns
returns c = view_number _ _ _ c.view_verdict.ensures
