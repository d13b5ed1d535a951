-- `brenwythal_run`: a record or an answer of another length, what the run leaves, or a refusal.
use mathlib.Core.Path.{refl, sym, ap, ◌∙◌}
use Rattle.model.specs.State.{state}
use Rattle.model.specs.Calls.{run_verdict}
use Rattle.capi.proofs.Calls.{run_short, run_narrow, run_not, run_whole, run_handed}
use borrow.Author.Rules.{rules}
use Rattle.capi.proofs.brenwythal_run.Goals as goal

pub returns-then-words-ne-RECORD : goal.returns-then-words-ne-RECORD
returns-then-words-ne-RECORD c = run_short _ _ _ _ _ (search rules)

pub returns-then-answer-ne5 : goal.returns-then-answer-ne5
returns-then-answer-ne5 c = run_narrow _ _ _ _ _ (search rules) (search rules)

pub run_granted-r-requires : goal.run_granted-r-requires
run_granted-r-requires c =
    let a = c.args in
    ap (λ m. run_verdict (state m a.main.now a.swap.now) a.limit) (c.machine_of-in-Ok.ensures ∙ sym c.machine_of.ensures)
    ∙ sym c.in-Ok.ensures

pub put_machine-requires : goal.put_machine-requires
put_machine-requires c =
    c.if-words-ne-RECORD.false

pub put_run-requires : goal.put_run-requires
put_run-requires c =
    c.if-answer-ne5.false

pub returns-in-Ok : goal.returns-in-Ok
returns-in-Ok c =
    run_handed c.run_granted-r.result.answer _ _ _ _ _ _ c.put_run.ensures c.put_machine.ensures _ c.run_granted-r.ensures
    ∙ run_whole _ _ _ _ _ c.if-words-ne-RECORD.false c.if-answer-ne5.false _ c.machine_of-in-Ok.ensures

pub returns-in-Err : goal.returns-in-Err
returns-in-Err c =
    run_not _ _ _ _ _ (search rules) (search rules) _ c.machine_of.ensures _ c.in-Err.ensures _ refl _ _ c.put_run-in-Err.ensures
