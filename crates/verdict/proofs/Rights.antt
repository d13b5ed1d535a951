-- The right to a page: to those of the first and the last byte for a transfer, and to one for a view.
use mathlib.Core.Path.{◌≡◌, refl, sym, ap, ◌∙◌}
use mathlib.Core.Bool.{Bool, true, false, not, ◌&&◌}
use mathlib.Core.List.{List}
use Prim.Native.Nat.{ℕ, ◌+◌, ◌-◌, ◌≤◌, ◌<◌}
use native.Mathlib.Nat.{add-zero}
use native.Mathlib.Decide.{dec_lt}
use native.Mathlib.Omega.{arith}
use lib.Dec.{ltb}
use borrow.Author.Tests.{le-ltb, not-true, not-false}
use Rattle.model.specs.Choice.{every_below}
use Rattle.model.specs.Pages.{page_of, offset, first_va}
use Rattle.model.specs.Table.{entry}
use Rattle.model.specs.Translate.{has, translate, legal}
use Rattle.model.specs.Calls.{permitted, viewable}
use Rattle.model.specs.declared.Access.{Access}
use Rattle.model.specs.declared.Shape.{Shape}
use Rattle.model.specs.declared.VirtualPage.{VirtualPage}
use Rattle.laws.proofs.Seated.{same_page_lem}
use Rattle.laws.proofs.Choice.{same_test, every_at, every_from, every_not}
use Rattle.laws.proofs.Border.{page_on}
use Rattle.laws.proofs.Host.{legal_granted, legal_inside}

-- ---- a transfer of n bytes from va on
module _ (s : Shape) (main : List ℕ) (writing : Bool) where
  -- the right is the page's
  legal_page : (u v : ℕ) → page_of u ≡ page_of v → legal (translate s main writing u) ≡ legal (translate s main writing v)
  legal_page u v e =
      legal_granted s main writing u ∙ ap (λ (x : VirtualPage). ltb x.0 s.ptl && has writing (entry s main x)) e ∙ sym (legal_granted s main writing v)

  module _ (va n : ℕ) where
    pub permitted_none : n ≡ 0 → true ≡ permitted writing s main va n
    unfolding permitted every_below
    permitted_none e = rw e refl

    -- by the test `first` of the first byte
    module _ (first : Bool) (is : first ≡ legal (translate s main writing va)) where
      pub first_refused : 0 < n → not first ≡ true → false ≡ permitted writing s main va n
      unfolding permitted
      first_refused h e = sym (every_not n (λ i. legal (translate s main writing (va + i))) 0 h (rw (add-zero va) (sym is ∙ not-true first e)))

      module _ (e : not first ≡ false) where
        passed : legal (translate s main writing va) ≡ true
        passed = sym is ∙ not-false first e

        pub first_inside : (page_of va).0 < s.ptl
        first_inside = legal_inside s main writing va passed

        -- and by that of the last
        module _ (some : 0 < n) (most : n ≤ 256) (last : ℕ) (at : last ≡ va + (n - 1)) where
          -- no border parts byte i from the first, or from the last
          by_end : legal (translate s main writing last) ≡ true → (i : ℕ) → i < n → legal (translate s main writing (va + i)) ≡ true
          by_end q i h = side (dec_lt (offset va + i) 4096)
            where
              side : Dec (offset va + i < 4096) → legal (translate s main writing (va + i)) ≡ true
              side (yes on) = legal_page (va + i) va (page_on va i on) ∙ passed
              side (no off) = legal_page (va + i) last (same_page_lem (omega (arith, at, off))) ∙ q

          pub by_last : (r : Bool) → r ≡ legal (translate s main writing last) → r ≡ permitted writing s main va n
          unfolding permitted
          by_last r q =
              same_test r (every_below n (λ i. legal (translate s main writing (va + i)))) (λ k. every_from n _ (by_end (sym q ∙ k)))
              (λ k. q ∙ ap (λ u. legal (translate s main writing u)) at ∙ every_at n _ k (n - 1) (omega arith))

-- by the tests of the first byte and of the last
pub by_ends : (s : Shape) (main : List ℕ) (writing : Bool) (va n : ℕ) → not (legal (translate s main writing va)) ≡ false → 0 < n → n ≤ 256
    → permitted writing s main va n ≡ legal (translate s main writing (va + (n - 1)))
by_ends s main writing va n e some most = sym (by_last s main writing va n _ refl e some most _ refl _ refl)

-- ---- a view
module _ (s : Shape) (main : List ℕ) (x : VirtualPage) where
  pub not_viewable : s.ptl ≤ x.0 → false ≡ viewable s main x
  unfolding viewable
  not_viewable h = simp (le-ltb _ _ h)

  -- by the access a to its first address
  pub viewable_by : (va : ℕ) → va ≡ first_va x → (a : Access) → a ≡ translate s main false va → (r : Bool) → r ≡ legal a → r ≡ viewable s main x
  unfolding viewable
  viewable_by va first a is r granted =
      let e : page_of (first_va x) ≡ x = same_page_lem (omega arith) in
      granted ∙ ap legal (is ∙ ap (translate s main false) first)
      ∙ legal_granted s main false (first_va x) ∙ ap (λ (y : VirtualPage). ltb y.0 s.ptl && has false (entry s main y)) e
