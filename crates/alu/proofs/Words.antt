-- Laws of words: sign extension, the signed comparisons, branches.
use Rattle.std.proofs.Common.{◌≡◌, ℕ, suc, ◌+◌, ◌-◌, ◌*◌, ◌/◌, ◌%◌, ◌^◌, ◌<◌, ◌≤◌, Bool, true, false, not, eqb, refl, ap, ◌∙◌, mod-eq_of_lt, arith, ltb-false, ltb-true, le-ltb, lt-ltb, eq-eqb, ne_eqb, eqb-true}
use native.Mathlib.Nat.{mod-eq-sub-mod, pow-succ', one-mul}
use native.Mathlib.Decide.{dec_lt}
use lib.Pow.{pow-lt, pow_mono, mod-mod-pow}
use lib.Bits.{bit_and}
use Rattle.std.proofs.lemmas.Nat.{and_mask}
use Rattle.std.specs.Prelude.{if◌then◌else◌}
use Rattle.model.specs.Choice.{every_below}
use Rattle.model.specs.Words.{plus, below, compared, extend}
use Rattle.laws.proofs.Choice.{every_at}
use denote.Enum.Declared.{tag_of}
use Rattle.alu.specs.contracts.Relation.{the_type}
use Rattle.alu.specs.declared.Relation.{Relation}
use Rattle.alu.specs.declared.Relation.TheVariants.{Never, Greater, Equal, GreaterEqual, Less, NotEqual, LessEqual, Always}
use Rattle.alu.specs.Relations.{number_of}

-- ---- sign extension of x, a number of `bits` bits: half of their range is added, the bits above are left out, and it is taken away
module _ (bits x : ℕ) (some : 0 < bits) (most : bits ≤ 32) (small : x < 2 ^ bits) where
  abbrev half : ℕ
  half = 2 ^ (bits - 1)

  twice : 2 ^ bits ≡ 2 * half
  twice = let e : bits ≡ suc (bits - 1) = omega (arith, some) in ap (λ (k : ℕ). 2 ^ k) e ∙ pow-succ' 2 (bits - 1)

  fits : 2 ^ bits ≤ 2 ^ 32
  fits = pow_mono most

  -- what is left of the sum
  rest : bit_and ((x + half) % 2 ^ 32) (half + (half - 1)) ≡ (x + half) % 2 ^ bits
  rest =
      let e : half + (half - 1) ≡ 2 ^ bits - 1 = omega (arith, twice) in
      let j : 32 ≡ 32 - bits + bits = omega (arith, most) in
      ap (λ (k : ℕ). bit_and ((x + half) % 2 ^ 32) k) e ∙ and_mask ((x + half) % 2 ^ 32) bits
      ∙ ap (λ (k : ℕ). (x + half) % 2 ^ k % 2 ^ bits) j ∙ mod-mod-pow (x + half) (32 - bits) bits

  pick : Dec (x < half) → ((x + half) % 2 ^ bits + (2 ^ 32 - half)) % 2 ^ 32 ≡ extend bits x
  pick (yes l) = let e : (x + half) % 2 ^ bits ≡ x + half = mod-eq_of_lt (omega (arith, l, twice)) in
      rw (lt-ltb x half l, e) (omega (arith, l, twice, fits, small))
  pick (no l) =
      let d : x + half - 2 ^ bits ≡ x - half = omega (arith, l, twice) in
      let b : x - half < 2 ^ bits = omega (arith, small) in
      let e : (x + half) % 2 ^ bits ≡ x - half = mod-eq-sub-mod (omega (arith, l, twice)) ∙ ap (λ (k : ℕ). k % 2 ^ bits) d ∙ mod-eq_of_lt b in
      rw (le-ltb x half (omega (arith, l)), e) (omega (arith, l, twice, fits, small))

  pub extended : (h : ℕ) → h ≡ 1 * 2 ^ (bits - 1) % 4294967296
      → (bit_and ((x + h) % 4294967296) (h + (h - 1)) + (4294967296 - h)) % 4294967296 ≡ extend bits x
  extended h e =
      let o : 1 * half ≡ half = one-mul half in
      let q : h ≡ half = e ∙ ap (λ (k : ℕ). k % 4294967296) o ∙ mod-eq_of_lt (pow-lt {j = 32} (omega (arith, some, most))) in
      rw (q, rest) (pick (dec_lt x half))

-- ---- comparisons: for each of the eight, the answer to x and y is a bit of its number
-- a law of the eight at two given words, row by row
each : (f : ℕ → ℕ) (x y : ℕ) → every_below 8 (λ c. eqb (f c) (compared c x y)) ≡ true → (c : ℕ) → c < 8 → f c ≡ compared c x y
each f x y e c h = eqb-true (f c) (compared c x y) (every_at 8 (λ i. eqb (f i) (compared i x y)) e c h)

module _ (c x y : ℕ) (cs : c < 8) (xs : x < 2 ^ 32) (ys : y < 2 ^ 32) where
  -- every answer to x and y is the one to 0 and 0, to 0 and 1, or to 1 and 0
  pub compared_same : x ≡ y → c / 2 % 2 ≡ compared c x y
  unfolding compared every_below
  compared_same e =
      each (λ i. i / 2 % 2) 0 0 refl c cs
      ∙ simp (
        le-ltb (plus y (2 ^ 31)) (plus x (2 ^ 31)) (omega arith),
        le-ltb (plus x (2 ^ 31)) (plus y (2 ^ 31)) (omega arith),
        eq-eqb x y e,
      )

  pub compared_less : (x ≡ y → ⊥) → below x y ≡ true → c / 4 % 2 ≡ compared c x y
  unfolding compared every_below
  compared_less n l =
      let less : plus x (2 ^ 31) < plus y (2 ^ 31) = ltb-true (plus x (2 ^ 31)) (plus y (2 ^ 31)) l in
      each (λ i. i / 4 % 2) 0 1 refl c cs
      ∙ simp (le-ltb (plus y (2 ^ 31)) (plus x (2 ^ 31)) (omega arith), ne_eqb x y n, l)

  pub compared_more : (x ≡ y → ⊥) → below x y ≡ false → c % 2 ≡ compared c x y
  unfolding compared every_below
  compared_more n l =
      let most : plus y (2 ^ 31) ≤ plus x (2 ^ 31) = ltb-false (plus x (2 ^ 31)) (plus y (2 ^ 31)) l in
      each (λ i. i % 2) 1 0 refl c cs
      ∙ simp (lt-ltb (plus y (2 ^ 31)) (plus x (2 ^ 31)) (omega arith), ne_eqb x y n, l)

-- a relation, as the code makes a number of it
pub numbered : (r : Relation) → (tag_of the_type r ≡ number_of r) × (number_of r < 8)
numbered Never = (refl, omega arith)
numbered Greater = (refl, omega arith)
numbered Equal = (refl, omega arith)
numbered GreaterEqual = (refl, omega arith)
numbered Less = (refl, omega arith)
numbered NotEqual = (refl, omega arith)
numbered LessEqual = (refl, omega arith)
numbered Always = (refl, omega arith)

-- a branch that is taken where its test fails
pub if_not : (b : Bool) (m n : ℕ) → (if not b then m else n) ≡ (if b then n else m)
if_not true m n = refl
if_not false m n = refl
