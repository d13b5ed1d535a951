-- `answer_sizes::put_listed`: the length of what was listed, or a zero.
use Rattle.capi.proofs.Numbers.{listed, not_listed}
use Rattle.capi.proofs.answer_sizes.put_listed.Goals as goal

pub returns-in-Ok : goal.returns-in-Ok
returns-in-Ok c = listed _ _ c.in-Ok.is _ c.copy_from_slice.ensures.after

pub returns-in-Err : goal.returns-in-Err
returns-in-Err c =
    not_listed _ _ c.in-Err.is _ c.refusal_number.ensures _
    c.copy_from_slice-in-Err.ensures.after
