-- `run_verdict`: refused on the machine.
use Rattle.plainmodel.specs.Calls.{run_verdict}
use Rattle.plainverdict.proofs.Verdicts.{still_refused}
use Rattle.plainverdict.proofs.run_verdict.Goals as goal

pub returns-in_err-plain_verdict : goal.returns-in_err-plain_verdict
unfolding run_verdict
returns-in_err-plain_verdict c =
    still_refused c.args.m _ _ _ c.plain_verdict.ensures _ c.in_err-plain_verdict.was _ c.from_residual.ensures.1 _
