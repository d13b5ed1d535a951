-- `answer_sizes::put_assembled`: the length of what was assembled, or the line and the column.
use Rattle.capi.proofs.Numbers.{assembled, not_assembled}
use Rattle.capi.proofs.answer_sizes.put_assembled.Goals as goal

pub returns-in-Ok : goal.returns-in-Ok
returns-in-Ok c = assembled _ _ c.in-Ok.is _ c.put_three.ensures

pub returns-in-Err : goal.returns-in-Err
returns-in-Err c =
    not_assembled _ _ c.in-Err.is _ c.refusal_number.ensures _
    c.put_three-in-Err.ensures
