-- `fresh::refused`: the record of zeros.
use Rattle.std.proofs.Common.{ap, Err}
use Rattle.loading.proofs.fresh.refused.Goals as goal

pub returns : goal.returns
returns c = ap (λ m. record { machine = m; verdict = Err c.args.refusal }) c.blank.ensures
