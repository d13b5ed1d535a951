-- Laws of the first row of a table that passes a test, and of the key that a word's row goes by.
use mathlib.Core.Path.{◌≡◌, refl, sym}
use mathlib.Core.Bool.{Bool, true, false, ◌&&◌}
use mathlib.Core.List.{List, [], ◌∷◌}
use Prim.Native.Nat.{ℕ, ◌*◌, ◌/◌, ◌%◌, ◌^◌, ◌<◌}
use native.Mathlib.Omega.{arith}
use borrow.Author.Tests.{eqb-true, eqb-false, ne_eqb}
use lib.Dec.{eqb}
use Rattle.std.specs.Prelude.{if◌then◌else◌}
use Rattle.model.specs.Words.{low}
use Rattle.laws.proofs.Choice.{and_left, and_right}
use Rattle.notation.specs.Table.{Row, first_row}
use Rattle.notation.specs.Listing.{key_of}

-- ---- the first row
-- what holds of every row of a list
infixr 5 ◌&◌
pub data Every (P : Row → Type 0) : List Row → Type 0 where
  none : Every P []
  ◌&◌ : {r : Row} {rs : List Row} → P r → Every P rs → Every P (r ∷ rs)

-- the first row that passes: one of which P holds, or none
pub data First (P : Row → Type 0) (test : Row → Bool) (rs : List Row) : Type 1 where
  row : (r : Row) → P r → ((A : Type 0) (made : Row → A) (other : A) → first_row test made other rs ≡ made r) → First P test rs
  nowhere : ((A : Type 0) (made : Row → A) (other : A) → first_row test made other rs ≡ other) → First P test rs

pub first : (P : Row → Type 0) (test : Row → Bool) (rs : List Row) → Every (λ r. test r ≡ true → P r) rs → First P test rs
unfolding first_row
first P test [] none = nowhere (λ A made other. refl)
first P test (r ∷ rs) (p & ps) = pick (test r) refl (first P test rs ps)
  where
    pick : (b : Bool) → test r ≡ b → First P test rs → First P test (r ∷ rs)
    pick true e later = row r (p e) (λ A made other. rw e refl)
    pick false e (row s q g) = row s q (λ A made other. rw e (g A made other))
    pick false e (nowhere g) = nowhere (λ A made other. rw e (g A made other))

-- a test that every row passes, the first row passes
abbrev pub all : (Row → Bool) → List Row → Bool
all f [] = true
all f (r ∷ rs) = f r && all f rs

pub first_passes : (test f : Row → Bool) (rs : List Row) → all f rs ≡ true → first_row test f true rs ≡ true
unfolding first_row
first_passes test f [] e = refl
first_passes test f (r ∷ rs) e =
    pick (test r) (f r) (first_row test f true rs) (and_left (f r) (all f rs) e) (first_passes test f rs (and_right (f r) (all f rs) e))
  where
    pick : (b x y : Bool) → x ≡ true → y ≡ true → (if b then x else y) ≡ true
    pick true x y p q = p
    pick false x y p q = q

-- ---- the key
pub function_key : (f w : ℕ) → f < 64 → f ≡ key_of w → (w / 2 ^ 26 ≡ 0) × (w % 2 ^ 6 ≡ f)
function_key f w h e = pick (eqb (w / 2 ^ 26) 0) refl e
  where
    pick : (b : Bool) → eqb (w / 2 ^ 26) 0 ≡ b → f ≡ (if b then low 6 w else w / 2 ^ 26 * 2 ^ 26) → (w / 2 ^ 26 ≡ 0) × (w % 2 ^ 6 ≡ f)
    pick true q e = (eqb-true (w / 2 ^ 26) 0 q, sym e)
    pick false q e = absurd (eqb-false (w / 2 ^ 26) 0 q (omega arith))

pub opcode_key : (o w : ℕ) → 0 < o → o * 2 ^ 26 ≡ key_of w → w / 2 ^ 26 ≡ o
opcode_key o w h e = pick (eqb (w / 2 ^ 26) 0) e
  where
    pick : (b : Bool) → o * 2 ^ 26 ≡ (if b then low 6 w else w / 2 ^ 26 * 2 ^ 26) → w / 2 ^ 26 ≡ o
    pick true e = let z : ⊥ = omega arith in absurd z
    pick false e = omega arith

pub key_function : (u f : ℕ) → u / 2 ^ 26 ≡ 0 → low 6 u ≡ f → key_of u ≡ f
key_function u f o e = rw (o, e) refl

pub key_opcode : (u o : ℕ) → 0 < o → u / 2 ^ 26 ≡ o → key_of u ≡ o * 2 ^ 26
key_opcode u o h e = simp (e, ne_eqb o 0 (λ q. omega arith))
