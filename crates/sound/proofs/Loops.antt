-- A loop over every number below n, where a call r says what the test does.
use mathlib.Core.Path.{◌≡◌, sym, ◌∙◌}
use mathlib.Core.Bool.{Bool, true, false, not}
use borrow.Author.Tests.{not-true, not-false}
pub use Rattle.book.proofs.Loops.{none_yet, one_more, fails, all_passed}

module _ (r t : Bool) (e : r ≡ t) where
  pub failed : not r ≡ true → t ≡ false
  failed h = sym e ∙ not-true r h

  pub passed : not r ≡ false → t ≡ true
  passed h = sym e ∙ not-false r h
