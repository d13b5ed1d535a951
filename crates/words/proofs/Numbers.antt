-- A number as the four bytes of a u32, of which n come from a list or go there.
use mathlib.Core.Path.{◌≡◌, refl, sym, ap, ap₂, ◌∙◌}
use mathlib.Core.List.{List, [], ◌∷◌, ◌++◌}
use Prim.Native.Nat.{ℕ, zero, suc, ◌+◌, ◌/◌, ◌%◌, ◌≤◌}
use native.Mathlib.Omega.{arith}
use lib.ListN.{length, set, take, drop}
use native.Mathlib.Nat.{div-div-eq-div-mul}
use lib.Seq.{drop-cons, sets, sets-eq}
use Rattle.std.proofs.lemmas.List.{append_assoc, drop-drop}
use borrow.Rule.Slice.PartMut.{put_mid}
use Rattle.std.specs.Int.{w32, from_le_bytes, to_le_bytes}
use Rattle.model.specs.Bytes.{number, store}

-- the number of four bytes, of which the first n are those of l at i, and the others 0
pub number_first : (n i : ℕ) (l : List ℕ) → n ≤ 4 → i + n ≤ length l → from_le_bytes w32 (put_mid 0 n (0 ∷ 0 ∷ 0 ∷ 0 ∷ []) (take n (drop i l))) ≡ number n l i
unfolding number
number_first zero i l b h = refl
number_first (suc zero) i l b h = rw (drop-cons l i 0 (omega (arith, h))) (omega arith)
number_first (suc (suc zero)) i l b h = rw (drop-cons l i 0 (omega (arith, h)), drop-cons l (suc i) 0 (omega (arith, h))) (omega arith)
number_first (suc (suc (suc zero))) i l b h =
    rw (drop-cons l i 0 (omega (arith, h)), drop-cons l (suc i) 0 (omega (arith, h)), drop-cons l (suc (suc i)) 0 (omega (arith, h))) (omega arith)
number_first (suc (suc (suc (suc zero)))) i l b h =
    rw (drop-cons l i 0 (omega (arith, h)), drop-cons l (suc i) 0 (omega (arith, h)), drop-cons l (suc (suc i)) 0 (omega (arith, h)), drop-cons l (suc (suc (suc i))) 0 (omega (arith, h))) (omega arith)
number_first (suc (suc (suc (suc (suc n))))) i l b h = absurd (omega (arith, b))

-- bytes in the place of as many of a list, as one store behind the other
put_sets : (vs l : List ℕ) (i : ℕ) → i + length vs ≤ length l → put_mid i (length vs) l vs ≡ sets l i vs
put_sets vs l i h =
    sym (append_assoc (take i l) vs _)
    ∙ ap (λ r. take i l ++ vs ++ r) (drop-drop (length vs) i l)
    ∙ sym (sets-eq vs l i h)

third : (v : ℕ) → v / 65536 % 256 ≡ v / 256 / 256 % 256
third v = ap (λ (x : ℕ). x % 256) (sym (div-div-eq-div-mul v 256 256))

fourth : (v : ℕ) → v / 16777216 % 256 ≡ v / 256 / 256 / 256 % 256
fourth v = ap (λ (x : ℕ). x % 256) (sym (ap (λ (x : ℕ). x / 256) (div-div-eq-div-mul v 256 256) ∙ div-div-eq-div-mul v 65536 256))

-- the first n bytes of v in the place of those of l at i
pub store_first : (n i v : ℕ) (l : List ℕ) → n ≤ 4 → i + n ≤ length l → put_mid i n l (take n (to_le_bytes w32 v)) ≡ store n l i v
unfolding store
store_first zero i v l b h = put_sets [] l i h
store_first (suc zero) i v l b h = put_sets (take 1 (to_le_bytes w32 v)) l i h
store_first (suc (suc zero)) i v l b h = put_sets (take 2 (to_le_bytes w32 v)) l i h
store_first (suc (suc (suc zero))) i v l b h =
    put_sets (take 3 (to_le_bytes w32 v)) l i h
    ∙ ap (λ (x : ℕ). set (set (set l i (v % 256)) (suc i) (v / 256 % 256)) (suc (suc i)) x) (third v)
store_first (suc (suc (suc (suc zero)))) i v l b h =
    put_sets (take 4 (to_le_bytes w32 v)) l i h
    ∙ ap₂ (λ (x y : ℕ). set (set (set (set l i (v % 256)) (suc i) (v / 256 % 256)) (suc (suc i)) x) (suc (suc (suc i))) y) (third v) (fourth v)
store_first (suc (suc (suc (suc (suc n))))) i v l b h = absurd (omega (arith, b))
