-- Bytes from pairs of hex digits: how many there are, and which.
use mathlib.Core.Path.{◌≡◌, refl, ap, ◌∙◌}
use mathlib.Core.List.{List, [], ◌∷◌}
use Prim.Native.Nat.{ℕ, zero, suc, ◌+◌, ◌*◌, ◌/◌, ◌<◌}
use native.Mathlib.Omega.{arith}
use lib.ListN.{length, get_or}
use Rattle.text.specs.Reading.{hex_value, bytes_of}

pub length-bytes_of : (l : List ℕ) → length (bytes_of l) ≡ length l / 2
unfolding bytes_of
length-bytes_of [] = refl
length-bytes_of (x ∷ []) = refl
length-bytes_of (x ∷ y ∷ r) = omega (arith, length-bytes_of r)

pub byte_at_lem : (l : List ℕ) (k : ℕ) → k < length l / 2
    → get_or (bytes_of l) k 0 ≡ 16 * hex_value (get_or l (2 * k) 0) + hex_value (get_or l (2 * k + 1) 0)
unfolding bytes_of
byte_at_lem [] k h = absurd (no_half h)
  where
    no_half : k < 0 / 2 → ⊥
    no_half h = omega arith
byte_at_lem (x ∷ []) k h = absurd (no_half h)
  where
    no_half : k < 1 / 2 → ⊥
    no_half h = omega arith
byte_at_lem (x ∷ y ∷ r) zero h = refl
byte_at_lem (x ∷ y ∷ r) (suc k) h =
    let e : suc (suc (2 * k)) ≡ 2 * suc k = omega arith in
    let f : suc (suc (2 * k + 1)) ≡ 2 * suc k + 1 = omega arith in
    byte_at_lem r k (omega arith)
    ∙ ap (λ (n : ℕ). 16 * hex_value (get_or (x ∷ y ∷ r) n 0) + hex_value (get_or r (2 * k + 1) 0)) e
    ∙ ap (λ (n : ℕ). 16 * hex_value (get_or (x ∷ y ∷ r) (2 * suc k) 0) + hex_value (get_or (x ∷ y ∷ r) n 0)) f
