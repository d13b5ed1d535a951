-- `brenwythal_plain_run`: a record or an answer of another length, what the run leaves, or a refusal.
use mathlib.Core.Path.{refl, sym, ap, ◌∙◌}
use Rattle.plainmodel.specs.State.{plain_state}
use Rattle.plainmodel.specs.Calls.{run_verdict}
use Rattle.plaincapi.proofs.Calls.{run_short, run_narrow, run_not, run_whole, run_handed}
use borrow.Author.Rules.{rules}
use Rattle.plaincapi.proofs.brenwythal_plain_run.Goals as goal

pub returns-then-words-ne-RECORD : goal.returns-then-words-ne-RECORD
returns-then-words-ne-RECORD c = run_short _ _ _ _ _ (search rules)

pub returns-then-answer-ne3 : goal.returns-then-answer-ne3
returns-then-answer-ne3 c = run_narrow _ _ _ _ _ (search rules) (search rules)

pub run_granted-r-requires : goal.run_granted-r-requires
run_granted-r-requires c =
    let a = c.args in
    ap (λ m. run_verdict (plain_state m a.memory.now a.rights.now) a.limit) (c.plain_of-in-Ok.ensures ∙ sym c.plain_of.ensures)
    ∙ sym c.in-Ok.ensures

pub put_plain-requires : goal.put_plain-requires
put_plain-requires c =
    c.if-words-ne-RECORD.false

pub put_run-requires : goal.put_run-requires
put_run-requires c =
    c.if-answer-ne3.false

pub returns-in-Ok : goal.returns-in-Ok
returns-in-Ok c =
    run_handed c.run_granted-r.result.answer _ _ _ _ _ _ c.put_run.ensures c.put_plain.ensures _ c.run_granted-r.ensures
    ∙ run_whole _ _ _ _ _ c.if-words-ne-RECORD.false c.if-answer-ne3.false _ c.plain_of-in-Ok.ensures

pub returns-in-Err : goal.returns-in-Err
returns-in-Err c =
    run_not _ _ _ _ _ (search rules) (search rules) _ c.plain_of.ensures _ c.in-Err.ensures _ refl _ _ c.put_run-in-Err.ensures
