-- The right to the pages of a transfer: by that to the page of its first byte and to the page of its last.
use mathlib.Core.Path.{◌≡◌, refl, sym, ap, ◌∙◌}
use mathlib.Core.Bool.{Bool, true, false, not, ◌&&◌}
use mathlib.Core.List.{List}
use Prim.Native.Nat.{ℕ, ◌+◌, ◌-◌, ◌/◌, ◌≤◌, ◌<◌}
use native.Mathlib.Nat.{add-zero}
use native.Mathlib.Decide.{dec_lt}
use native.Mathlib.Omega.{arith}
use lib.Dec.{ltb}
use lib.ListN.{length, get_or}
use borrow.Author.Tests.{ltb-true, lt-ltb, le-ltb, not-true, not-false}
use Rattle.model.specs.Choice.{every_below}
use Rattle.model.specs.Pages.{offset}
use Rattle.model.specs.Translate.{legal}
use Rattle.model.specs.Flat.{grants, allow}
use Rattle.laws.proofs.Choice.{and_left, same_test, every_at, every_from, every_not}
use Rattle.plainmodel.specs.Calls.{permitted}
use Rattle.plainlaws.proofs.Granted.{legal_allow}

module _ (rights : List ℕ) (writing : Bool) where
  -- the right to page x, as code asks for it
  abbrev asked : ℕ → Bool
  asked x = ltb x (length rights) && grants writing (get_or rights x 0)

  pub no_byte : (x : ℕ) → length rights ≤ x → false ≡ asked x
  no_byte x h = simp (le-ltb x (length rights) h)

  pub by_byte : (x : ℕ) → x < length rights → (r : Bool) → r ≡ grants writing (get_or rights x 0) → r ≡ asked x
  by_byte x h r e = simp (lt-ltb x (length rights) h, e)

  -- a transfer of n bytes from va on
  module _ (va n : ℕ) where
    pub permitted_none : n ≡ 0 → true ≡ permitted writing rights va n
    unfolding permitted every_below
    permitted_none e = rw e refl

    -- by the test `first` of the first byte
    module _ (first : Bool) (is : first ≡ asked (va / 4096)) where
      pub first_refused : 0 < n → not first ≡ true → false ≡ permitted writing rights va n
      unfolding permitted
      first_refused h e =
          sym (every_not n (λ i. legal (allow rights writing (va + i))) 0 h
          (rw (add-zero va) (legal_allow rights writing va ∙ sym is ∙ not-true first e)))

      module _ (e : not first ≡ false) where
        passed : asked (va / 4096) ≡ true
        passed = sym is ∙ not-false first e

        pub first_inside : va / 4096 < length rights
        first_inside = ltb-true _ _ (and_left _ _ passed)

        -- and by that of the last
        module _ (some : 0 < n) (most : n ≤ 256) (last : ℕ) (at : last ≡ va + (n - 1)) where
          -- no border parts byte i from the first, or from the last
          by_end : asked (last / 4096) ≡ true → (i : ℕ) → i < n → legal (allow rights writing (va + i)) ≡ true
          by_end q i h = legal_allow rights writing (va + i) ∙ side (dec_lt (offset va + i) 4096)
            where
              side : Dec (offset va + i < 4096) → asked ((va + i) / 4096) ≡ true
              side (yes on) = let e : (va + i) / 4096 ≡ va / 4096 = omega (arith, on) in ap asked e ∙ passed
              side (no off) = let e : (va + i) / 4096 ≡ last / 4096 = omega (arith, at, off) in ap asked e ∙ q

          pub by_last : (r : Bool) → r ≡ asked (last / 4096) → r ≡ permitted writing rights va n
          unfolding permitted
          by_last r q =
              same_test r (every_below n (λ i. legal (allow rights writing (va + i)))) (λ k. every_from n _ (by_end (sym q ∙ k)))
              (λ k. q ∙ sym (legal_allow rights writing last) ∙ ap (λ u. legal (allow rights writing u)) at
              ∙ every_at n _ k (n - 1) (omega arith))
