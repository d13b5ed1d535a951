-- A word whose opcode, or whose function under opcode 0, stands in no row of the tables: "All else .. is stop 4".
use Rattle.std.proofs.Common.{◌≡◌, ℕ, suc, ◌+◌, ◌-◌, ◌/◌, ◌^◌, ◌<◌, ◌≤◌, Bool, true, false, ◌&&◌, ◌||◌, eqb, leb, List, [], ◌∷◌, sym, refl, ◌∙◌, arith, eq-eqb, ne_eqb, eqb-true, leb-true}
use mathlib.Core.Bool.{false≢true}
use lib.Pow.{shr_mod}
use Rattle.model.specs.Choice.{every_below}
use Rattle.model.specs.Instruction.{register, immediate, function}
use Rattle.model.specs.declared.Plan.TheVariants.{Unknown}
use Rattle.laws.proofs.Choice.{and_left, and_right, or_second, every_at}

-- n is none of the numbers of a list that stands last first
abbrev pub NoneOf : ℕ → List ℕ → Type 0
NoneOf n [] = Unit {0}
NoneOf n (k ∷ ks) = NoneOf n ks × (n ≡ k → ⊥)

abbrev is_in : List ℕ → ℕ → Bool
is_in [] k = false
is_in (j ∷ js) k = eqb k j || is_in js k

absent : (l : List ℕ) (n : ℕ) → NoneOf n l → (k : ℕ) → is_in l k ≡ true → eqb n k ≡ false
absent [] n h k e = absurd (false≢true e)
absent (j ∷ js) n h k e = pick (eqb k j) refl (absent js n h.0 k)
  where
    pick : (b : Bool) → eqb k j ≡ b → (is_in js k ≡ true → eqb n k ≡ false) → eqb n k ≡ false
    pick true q later = rw (eqb-true k j q) (ne_eqb n j h.1)
    pick false q later = later (or_second (eqb k j) (is_in js k) e q)

-- where each of the c numbers from a on is in the list, n is not between a and the last of them
apart : (l : List ℕ) (n : ℕ) → NoneOf n l → (a c z : ℕ) → suc z ≡ a + c → every_below c (λ i. is_in l (a + i)) ≡ true
    → (leb a n && leb n z) ≡ false
apart l n h a c z s e = pick (leb a n && leb n z) refl
  where
    pick : (b : Bool) → (leb a n && leb n z) ≡ b → (leb a n && leb n z) ≡ false
    pick true q =
        let low : a ≤ n = leb-true a n (and_left (leb a n) (leb n z) q) in
        let high : n ≤ z = leb-true n z (and_right (leb a n) (leb n z) q) in
        let found : is_in l (a + (n - a)) ≡ true = every_at c (λ i. is_in l (a + i)) e (n - a) (omega arith) in
        absurd (false≢true (sym (absent l n h (a + (n - a)) found) ∙ eq-eqb n (a + (n - a)) (omega arith)))
    pick false q = q

-- the functions that the tables have, and the opcodes other than 0
abbrev functions : List ℕ
functions = 47 ∷ 46 ∷ 45 ∷ 44 ∷ 43 ∷ 42 ∷ 41 ∷ 40 ∷ 39 ∷ 38 ∷ 37 ∷ 36 ∷ 35 ∷ 33 ∷ 7 ∷ 6 ∷ 4 ∷ 3 ∷ 2 ∷ 0 ∷ []

abbrev opcodes : List ℕ
opcodes =
    62 ∷ 43 ∷ 41 ∷ 40 ∷ 37 ∷ 36 ∷ 35 ∷ 33 ∷ 32 ∷ 31 ∷ 30 ∷ 29 ∷ 28 ∷ 27 ∷ 26 ∷ 25 ∷ 24 ∷ 23 ∷ 22
    ∷ 15 ∷ 14 ∷ 13 ∷ 12 ∷ 11 ∷ 9 ∷ 5 ∷ 4 ∷ 3 ∷ 2 ∷ []

pub unknown_function : (next w x y : ℕ) → NoneOf (function w) functions → Unknown ≡ register next w x y
unfolding register every_below
unknown_function next w x y h = simp (absent functions (function w) h, apart functions (function w) h 40 8 47 refl refl)

pub unknown_opcode : (next w x y c : ℕ) → w < 2 ^ 32 → NoneOf (w / 2 ^ 26) opcodes → Unknown ≡ immediate next w x y c
unfolding immediate every_below
unknown_opcode next w x y c s h =
    simp (shr_mod {n = w} 6 26 s, absent opcodes (w / 2 ^ 26) h, apart opcodes (w / 2 ^ 26) h 24 8 31 refl refl)
