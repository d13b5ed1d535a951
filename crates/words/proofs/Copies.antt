-- A copy under way and done, and what code that lends the parts of two memories leaves.
use mathlib.Core.Path.{◌≡◌, refl, sym, ap, ◌∙◌}
use mathlib.Core.List.{List, ◌++◌, append-nil}
use Prim.Native.Nat.{ℕ, suc, ◌+◌, ◌-◌, ◌*◌, ◌≤◌, ◌<◌}
use native.Mathlib.Numerals.{add-one}
use native.Mathlib.Omega.{arith}
use lib.ListN.{length, get_or, set, take, drop, length-set, drop_of_length-le}
use lib.Seq.{drop-cons, take-suc, set_at, append_snoc, length-take-le, take_all}
use borrow.Rule.Slice.PartMut.{put_mid, Post-is}
use Rattle.model.specs.Bytes.{page, with_page}

module _ {A : Type 0} (d₀ s : List A) where
  -- i elements of s have come to d, which was d₀
  pub record Copied (d : List A) (i : ℕ) : Type 0 where
    pub long : length d ≡ length d₀
    pub is : d ≡ take i s ++ drop i d₀

  pub copied_none : Copied d₀ 0
  copied_none = record { long = refl; is = refl }

  pub copied_next : (d : List A) (i : ℕ) → Copied d i → i < length d₀ → i < length s → (z v : A) → v ≡ get_or s i z → Copied (set d i v) (i + 1)
  copied_next d i u hd hs z v e = record {
    long = length-set d i v ∙ u.long;
    is = ap (λ x. set x i v) u.is
        ∙ rw (e, drop-cons d₀ i z, add-one, take-suc s i z)
        (set_at (take i s) _ _ _ i (length-take-le i s (omega arith)) ∙ sym (append_snoc (take i s) (get_or s i z) (drop (suc i) d₀)));
  }

  -- all have come
  pub all_come : (i : ℕ) → length s ≤ i → length d₀ ≤ i → take i s ++ drop i d₀ ≡ s
  all_come i hs hd = rw (take_all i s hs, drop_of_length-le d₀ hd) (append-nil s)

  pub copied_all : (d : List A) (i : ℕ) → Copied d i → length s ≤ i → length d₀ ≤ i → d ≡ s
  copied_all d i u hs hd = u.is ∙ all_come i hs hd

-- the part of a memory that is lent, and the memory with other bytes there
pub part_page : (l : List ℕ) (x : ℕ) → take (4096 * x + 4096 - 4096 * x) (drop (4096 * x) l) ≡ page l x
unfolding page
part_page l x = let e : 4096 * x + 4096 - 4096 * x ≡ 4096 = omega arith in rw e

pub part_with_page : (l : List ℕ) (x : ℕ) (p : List ℕ) → put_mid (4096 * x) (4096 * x + 4096 - 4096 * x) l p ≡ with_page l x p
unfolding with_page
part_with_page l x p = ap (λ r. take (4096 * x) l ++ (p ++ r)) (Post-is (4096 * x) (4096 * x + 4096) l (omega arith))
