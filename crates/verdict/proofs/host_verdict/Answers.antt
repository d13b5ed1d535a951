-- `host_verdict`: refused on the machine, or what the transfer comes to.
use mathlib.Core.Path.{◌∙◌}
use Rattle.std.proofs.lemmas.Result.{err_from_is_err_and}
use Rattle.model.specs.Calls.{host_verdict}
use Rattle.verdict.proofs.Verdicts.{still_refused, onward, fit}
use Rattle.verdict.proofs.host_verdict.Goals as goal

pub transfer_verdict-requires : goal.transfer_verdict-requires
transfer_verdict-requires c = fit c.args.m _ _ _ c.lean_of.ensures _ c.numbers_of-held.ensures c.in_ok-machine_verdict.ensures

pub returns-in_err-machine_verdict : goal.returns-in_err-machine_verdict
unfolding host_verdict
returns-in_err-machine_verdict c =
    let p = err_from_is_err_and c.from_residual.result c.from_residual.ensures.1 in
    rw (p.1, p.2) (still_refused _ _ _ _ c.lean_of.ensures _ c.numbers_of-held.ensures _ c.in_err-machine_verdict.ensures _)

pub returns : goal.returns
unfolding host_verdict
returns c = c.transfer_verdict.ensures ∙ onward _ _ _ _ c.lean_of.ensures _ c.numbers_of-held.ensures c.in_ok-machine_verdict.ensures _
