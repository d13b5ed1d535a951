-- `run_verdict`: short enough, refused on the machine, or too long.
use Rattle.std.proofs.lemmas.Result.{err_from_is_err_and}
use Rattle.model.specs.Calls.{run_verdict}
use Rattle.verdict.proofs.Verdicts.{still_refused}
use Rattle.verdict.proofs.run_verdict.Goals as goal

pub returns-in_err-machine_verdict : goal.returns-in_err-machine_verdict
unfolding run_verdict
returns-in_err-machine_verdict c =
    let p = err_from_is_err_and c.from_residual.result c.from_residual.ensures.1 in
    rw (p.1, p.2) (still_refused _ _ _ _ c.lean_of.ensures _ c.numbers_of-held.ensures _ c.in_err-machine_verdict.ensures _)
