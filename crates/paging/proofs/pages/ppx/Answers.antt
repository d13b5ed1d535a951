-- `pages::ppx`: 20 bits are left of a word.
use mathlib.Core.Path.{ap}
use native.Mathlib.Omega.{arith}
use Rattle.paging.proofs.pages.ppx.Goals as goal

pub returns : goal.returns
returns c = ap (λ n. record { 0 = n }) (omega arith)
