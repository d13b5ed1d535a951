-- The spare bits of an entry, where it lies in the lent bytes and where not.
use mathlib.Core.Path.{◌≡◌, ap, ◌∙◌}
use mathlib.Core.List.{List}
use Prim.Native.Nat.{ℕ, ◌+◌, ◌≤◌, ◌<◌}
use native.Mathlib.Omega.{arith}
use borrow.Author.Tests.{le-leb, lt-leb}
use Rattle.model.specs.Bytes.{number, store}
use Rattle.model.specs.Pages.{entry_at}
use Rattle.model.specs.Table.{with_spare, entry, set_spare}
use Rattle.model.specs.declared.Shape.{Shape}
use Rattle.model.specs.declared.VirtualPage.{VirtualPage}
use Rattle.paging.proofs.Ways.{entry_written}
use Rattle.session.specs.Desk.{set_spare_within}

module _ (lent : ℕ) (s : Shape) (main : List ℕ) (x : VirtualPage) (v at : ℕ) (place : at ≡ entry_at s x) where
  pub outside : lent < at + 4 → main ≡ set_spare_within lent s main x v
  unfolding set_spare_within
  outside h = simp (lt-leb (entry_at s x + 4) lent (omega (arith, place)))

  -- e stands there, and w is stored
  pub inside : at + 4 ≤ lent → (e : ℕ) → e ≡ number 4 main at → (main' : List ℕ) (w : ℕ) → main' ≡ store 4 main at w → w ≡ with_spare v e
      → main' ≡ set_spare_within lent s main x v
  unfolding set_spare_within set_spare entry
  inside h e read main' w is word =
      simp (le-leb (entry_at s x + 4) lent (omega (arith, place)))
      (entry_written s main x _ main' at w is place (word ∙ ap (with_spare v) (read ∙ ap (number 4 main) place)))
