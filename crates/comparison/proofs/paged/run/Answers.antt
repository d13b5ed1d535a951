-- `paged::run`: refused, or it ran.
use mathlib.Core.Path.{ap}
use Rattle.model.specs.Calls.{RunOutcome}
use Rattle.text.proofs.Appending.{same}
use Rattle.comparison.proofs.Answered.{run_refused, run_ran}
use Rattle.comparison.proofs.paged.run.Goals as goal

pub returns-in-Err : goal.returns-in-Err
returns-in-Err c =
    let ran = c.run-result in
    rw (c.left.ensures.0, c.left.ensures.1)
    (record {
      text = same c.refused_line.ensures.0 (run_refused ran.result.answer _ _ ran.ensures c.in-Err.is c.refusal_number.ensures);
      state = ap (λ (o : RunOutcome). o.state) ran.ensures;
    })

pub returns-in-Ok : goal.returns-in-Ok
returns-in-Ok c =
    let ran = c.run-result in
    rw (c.left-in-Ok.ensures.0, c.left-in-Ok.ensures.1)
    (record {
      text = same c.numbers_line.ensures
          (run_ran ran.result.answer _ _ ran.ensures c.in-Ok.is c.stop_number-number.ensures c.stop_detail.ensures);
      state = ap (λ (o : RunOutcome). o.state) ran.ensures;
    })
