-- A test that every element of a list passes; the front of a list that passes it; and where a text stands in a longer one.
use mathlib.Core.Bool.{Bool, true, false, ◌&&◌}
use mathlib.Core.Path.{◌≡◌, refl, sym, ap, ◌∙◌}
use mathlib.Core.List.{List, [], ◌∷◌, ◌++◌, Memᴰ}
use Prim.Native.Nat.{ℕ, ◌+◌, ◌≤◌}
use native.Mathlib.Nat.{add-zero, not-suc-le-zero}
use native.Mathlib.Omega.{arith}
use lib.ListN.{length, get_or, drop, length-append, length-drop}
use lib.Seq.{get_or-drop, drop-drop, drop-append_seam}
use Rattle.laws.proofs.Choice.{and_left, and_right, and_both}
use Rattle.text.specs.Reading.{front}

-- ---- every element
unfoldable pub every : {A : Type 0} → (A → Bool) → List A → Bool
every f [] = true
every f (x ∷ xs) = f x && every f xs

module _ {A : Type 0} (f : A → Bool) where
  pub every_append : (a b : List A) → every f a ≡ true → every f b ≡ true → every f (a ++ b) ≡ true
  unfolding every
  every_append [] b p q = q
  every_append (x ∷ a) b p q =
      and_both (f x) (every f (a ++ b)) (and_left (f x) (every f a) p) (every_append a b (and_right (f x) (every f a) p) q)

  pub every_other : (g : A → Bool) → ((x : A) → f x ≡ true → g x ≡ true) → (a : List A) → every f a ≡ true → every g a ≡ true
  unfolding every
  every_other g h [] p = refl
  every_other g h (x ∷ a) p =
      and_both (g x) (every g a) (h x (and_left (f x) (every f a) p)) (every_other g h a (and_right (f x) (every f a) p))

  pub every_member : {x : A} {l : List A} → Memᴰ x l → every f l ≡ true → f x ≡ true
  unfolding every
  every_member (Memᴰ.head {x = y} {xs = l} e) p = ap f e ∙ and_left (f y) (every f l) p
  every_member (Memᴰ.tail {x = y} {xs = l} m) p = every_member m (and_right (f y) (every f l) p)

-- ---- the front
module _ (f : ℕ → Bool) where
  -- what passes, before what does not begin so: 0 stands for the end
  pub front_every : (a t : List ℕ) → every f a ≡ true → f (get_or t 0 0) ≡ false → front f (a ++ t) ≡ a
  unfolding every front
  front_every [] [] p q = refl
  front_every [] (y ∷ t) p q = simp q
  front_every (x ∷ a) t p q =
      simp (and_left (f x) (every f a) p) (ap (λ (l : List ℕ). x ∷ l) (front_every a t (and_right (f x) (every f a) p) q))

  pub first_every : (a t : List ℕ) → every f a ≡ true → 1 ≤ length a → f (get_or (a ++ t) 0 0) ≡ true
  unfolding every
  first_every [] t p h = absurd (not-suc-le-zero h)
  first_every (x ∷ a) t p h = and_left (f x) (every f a) p

-- ---- a text a in s at a place, and t behind it
pub byte_there : (s : List ℕ) (at : ℕ) (l : List ℕ) → drop at s ≡ l → get_or s at 0 ≡ get_or l 0 0
byte_there s at l e = ap (λ (n : ℕ). get_or s n 0) (sym (add-zero at)) ∙ sym (get_or-drop at s 0 0) ∙ ap (λ (r : List ℕ). get_or r 0 0) e

module _ (s : List ℕ) (at : ℕ) (a t : List ℕ) (e : drop at s ≡ a ++ t) where
  pub drop-behind : drop (at + length a) s ≡ t
  drop-behind = sym (drop-drop (length a) at s) ∙ ap (λ (r : List ℕ). drop (length a) r) e ∙ drop-append_seam a t

  pub behind_inside : at ≤ length s → at + length a ≤ length s
  behind_inside h = omega (arith, sym (length-drop at s) ∙ ap length e ∙ length-append a t)
