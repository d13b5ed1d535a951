-- `answer_words::put_run`: the five words of a run, or five zeros.
use Rattle.capi.proofs.Numbers.{ran, not_run}
use Rattle.capi.proofs.answer_words.put_run.Goals as goal

pub returns-in-Ok : goal.returns-in-Ok
returns-in-Ok c = ran _ _ c.in-Ok.is _ c.stop_number.ensures _ c.stop_detail.ensures _ c.put_five.ensures

pub returns-in-Err : goal.returns-in-Err
returns-in-Err c = not_run _ _ c.in-Err.is _ c.refusal_number.ensures _ c.put_five-in-Err.ensures
