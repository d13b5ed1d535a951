-- `view_verdict`: refused on the machine, or by the page.
use mathlib.Core.Path.{sym, ◌∙◌}
use Rattle.std.proofs.lemmas.Result.{err_from_is_err_and}
use Rattle.model.specs.Calls.{view_verdict}
use Rattle.verdict.proofs.Verdicts.{failed, passed, still_refused, onward, fit}
use Rattle.verdict.proofs.view_verdict.Goals as goal

pub viewable-requires : goal.viewable-requires
viewable-requires c = fit c.args.m _ _ _ c.lean_of.ensures _ c.numbers_of-held.ensures c.in_ok-machine_verdict.ensures

pub returns-in_err-machine_verdict : goal.returns-in_err-machine_verdict
unfolding view_verdict
returns-in_err-machine_verdict c =
    let p = err_from_is_err_and c.from_residual.result c.from_residual.ensures.1 in
    rw (p.1, p.2) (still_refused _ _ _ _ c.lean_of.ensures _ c.numbers_of-held.ensures _ c.in_err-machine_verdict.ensures _)

pub returns-then-not-viewable : goal.returns-then-not-viewable
unfolding view_verdict
returns-then-not-viewable c =
    failed _ _ _ (sym c.viewable.ensures ∙ c.if-not-viewable.true) ∙ onward _ _ _ _ c.lean_of.ensures _ c.numbers_of-held.ensures c.in_ok-machine_verdict.ensures _

pub returns : goal.returns
unfolding view_verdict
returns c =
    passed _ _ _ (sym c.viewable.ensures ∙ c.if-not-viewable.false) ∙ onward _ _ _ _ c.lean_of.ensures _ c.numbers_of-held.ensures c.in_ok-machine_verdict.ensures _
