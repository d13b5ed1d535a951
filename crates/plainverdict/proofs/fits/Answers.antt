-- `fits`: a bound or a length that is broken, or none.
use native.Mathlib.Omega.{arith}
use Rattle.plainverdict.proofs.Verdicts.{unfit, fit}
use borrow.Author.Rules.{rules}
use Rattle.plainverdict.proofs.fits.Goals as goal

pub returns-then-pages-lt1 : goal.returns-then-pages-lt1
returns-then-pages-lt1 c = unfit _ (λ f. omega (arith, f))

pub returns-then-memory-pages : goal.returns-then-memory-pages
returns-then-memory-pages c = unfit _ (λ f. omega (arith, f))

pub returns-then-rights-pages : goal.returns-then-rights-pages
returns-then-rights-pages c = unfit _ (λ f. omega (arith, f))

pub returns : goal.returns
returns c = fit _ (search rules)
