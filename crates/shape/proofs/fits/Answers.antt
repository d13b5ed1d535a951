-- `fits`: the lengths, behind all bounds. `Facts.bounds_broken` has the ways where a bound is broken.
use mathlib.Core.Path.{◌∙◌}
use native.Mathlib.Omega.{arith}
use Rattle.shape.proofs.Facts.{by_lengths}
use Rattle.shape.proofs.fits.Goals as goal

pub returns : goal.returns
returns c = c.lengths_fit.ensures ∙ by_lengths _ _ (λ e. record {
  pages_least = omega arith;
  pages_most = omega arith;
  frames_least = omega arith;
  frames_most = omega arith;
  abase_least = omega arith;
  frames_in = omega arith;
  ptl_least = omega arith;
  ptl_most = omega arith;
  pto_aligned = omega arith;
  table_in = omega arith;
  sbase_most = omega arith;
  main_long = e;
})
