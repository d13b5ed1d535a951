-- The longest front whose bytes pass a test, met at each place of a list: one byte more, or the end.
use mathlib.Core.Bool.{Bool, true, false, cond}
use mathlib.Core.Path.{◌≡◌, refl, sym, ap, ◌∙◌}
use mathlib.Core.List.{List, [], ◌∷◌}
use Prim.Native.Nat.{ℕ, zero, suc, ◌+◌, ◌-◌, ◌≤◌, ◌<◌}
use native.Mathlib.Numerals.{add-one, one-add}
use native.Mathlib.Omega.{arith}
use lib.ListN.{length, get_or, take, drop, length-drop, get_or-eq_default}
use lib.Seq.{drop-cons, drop-nil, take_all}
use Rattle.std.specs.Prelude.{if◌then◌else◌}
use Rattle.std.specs.List.{prefix_len}
use Rattle.std.proofs.lemmas.List.Folds.{length-prefix_len}
use Rattle.text.specs.Reading.{front, is_hex, hex_end}

module _ (f : ℕ → Bool) where
  pub front_more : (l : List ℕ) (i : ℕ) → i < length l → f (get_or l i 0) ≡ true
      → front f (drop i l) ≡ get_or l i 0 ∷ front f (drop (i + 1) l)
  unfolding front
  front_more l i h t = rw (drop-cons l i 0) (simp (t, add-one))

  pub front_stop : (l : List ℕ) (i : ℕ) → f (get_or l i 0) ≡ false → front f (drop i l) ≡ []
  unfolding front
  front_stop [] i h = rw (drop-nil {A = ℕ} i)
  front_stop (x ∷ xs) zero h = simp h
  front_stop (x ∷ xs) (suc i) h = front_stop xs i h

  shorter : (b : Bool) (n x : ℕ) (xs : List ℕ) → length xs ≤ n → length (if b then x ∷ xs else []) ≤ suc n
  shorter true n x xs h = omega arith
  shorter false n x xs h = omega arith

  front_short : (l : List ℕ) → length (front f l) ≤ length l
  unfolding front
  front_short [] = omega arith
  front_short (x ∷ xs) = shorter (f x) (length xs) x (front f xs) (front_short xs)

  -- the front, in std's words
  taken_more : (b : Bool) (x : ℕ) (xs : List ℕ) (n : ℕ) {r : List ℕ} → take n xs ≡ r
      → take (cond b (1 + n) 0) (x ∷ xs) ≡ (if b then x ∷ r else [])
  taken_more true x xs n e = rw one-add (ap (λ (r : List ℕ). x ∷ r) e)
  taken_more false x xs n e = refl

  pub front_taken : (l : List ℕ) → take (prefix_len f l) l ≡ front f l
  unfolding front
  front_taken [] = refl
  front_taken (x ∷ xs) = taken_more (f x) x xs (prefix_len f xs) (front_taken xs)

  pub length-front : (l : List ℕ) → prefix_len f l ≡ length (front f l)
  length-front l = sym (length-prefix_len f l) ∙ ap length (front_taken l)

  -- the front that begins at a place ends within the list
  pub front_inside : (l : List ℕ) (i : ℕ) → i ≤ length l → i + length (front f (drop i l)) ≤ length l
  front_inside l i h = omega (arith, front_short (drop i l), length-drop i l)

  -- a test that 0 fails says whether a place lies within the list
  pub outside : (l : List ℕ) (i : ℕ) → f 0 ≡ false → length l ≤ i → false ≡ f (get_or l i 0)
  outside l i z h = sym (ap f (get_or-eq_default l 0 h) ∙ z)

  pub inside : (l : List ℕ) (i : ℕ) → f 0 ≡ false → f (get_or l i 0) ≡ true → i < length l
  inside [] i z t = let e : ◌≡◌ {A = ℕ} 0 1 = cc in omega arith
  inside (x ∷ xs) zero z t = omega arith
  inside (x ∷ xs) (suc i) z t = omega (arith, inside xs i z t)

pub hex_from : (l : List ℕ) (at n : ℕ) → at ≤ length l → n ≡ length (front is_hex (take (length l - at) (drop at l)))
    → (at + n ≡ hex_end l at) × (at ≤ at + n) × (at + n ≤ length l)
unfolding hex_end
hex_from l at n h e =
    let r = take_all (length l - at) (drop at l) (omega (arith, length-drop at l)) in
    let k = e ∙ ap (λ (x : List ℕ). length (front is_hex x)) r in
    (omega arith, omega arith, omega (arith, front_inside is_hex l at h))
