-- The rows of the table: what one computed test says of each, and that a row is found again by its name.
use mathlib.Core.Bool.{Bool, true, false, ◌&&◌, not}
use mathlib.Core.Path.{◌≡◌, refl}
use mathlib.Core.List.{List, [], ◌∷◌, Memᴰ}
use Prim.Native.Nat.{ℕ}
use borrow.Author.Tests.{not-true}
use lib.Dec.{leb, ltb}
use lib.ListN.{length, get_or}
use Rattle.model.specs.Choice.{passes}
use Rattle.laws.proofs.Choice.{and_left, and_right, pass, chosen}
use Rattle.model.specs.Bytes.{same}
use Rattle.text.specs.Reading.{is_digit}
use Rattle.laws.proofs.Bytes.{equal_same}
use Rattle.notation.specs.Sums.{is_blank}
use Rattle.notation.specs.Table.{Row, rows, spelled, first_row}
use Rattle.notation.specs.Line.{is_named}
use Rattle.makers.proofs.Every.{every, every_member}
use Rattle.makers.proofs.Operands.{stops}
use Rattle.makers.proofs.Pieces.{in_line, readable}

-- ---- the test
-- a name has no blank and no newline, and begins behind the digits; operands follow
abbrev pub tests : Row → List Bool
tests r =
    every (λ c. not (is_blank c)) r.name
    ∷ every in_line r.name
    ∷ ltb 57 (get_or r.name 0 0)
    ∷ leb 1 (length r.pieces)
    ∷ readable r.pieces
    ∷ []

abbrev sound : Row → Bool
sound r = passes (tests r)

-- no two names are the same
unfoldable distinct : List Row → Bool
distinct [] = true
distinct (r ∷ rs) = every (λ q. not (same r.name q.name)) rs && distinct rs

sound_rows : every sound rows ≡ true
unfolding every rows spelled passes is_blank in_line readable stops is_digit
sound_rows = refl

distinct_rows : distinct rows ≡ true
unfolding distinct every rows spelled same
distinct_rows = refl

pub row_sound : {r : Row} → Memᴰ r rows → (i : ℕ) → get_or (tests r) i true ≡ true
row_sound {r} m = pass (tests r) (every_member sound m sound_rows)

-- ---- the first row
-- it is one of the rows
pub first_of : {A : Type 0} (P : A → Type 0) (test : Row → Bool) (made : Row → A) (other : A) (rs : List Row)
    → ((r : Row) → Memᴰ r rs → P (made r)) → P other → P (first_row test made other rs)
unfolding first_row
first_of P test made other [] f g = g
first_of P test made other (r ∷ rs) f g =
    chosen P (test r) (λ _. f r (Memᴰ.head refl)) (λ _. first_of P test made other rs (λ q m. f q (Memᴰ.tail m)) g)

module _ {A : Type 0} (made : Row → A) (other : A) where
  found_in : {r : Row} {rs : List Row} → Memᴰ r rs → distinct rs ≡ true → first_row (is_named r.name) made other rs ≡ made r
  unfolding first_row distinct
  found_in {r} (Memᴰ.head {x = q} {xs = rs} e) d = rw e (rw (equal_same q.name))
  found_in {r} (Memᴰ.tail {x = q} {xs = rs} m) d =
      let n : same q.name r.name ≡ false =
      not-true (same q.name r.name)
      (every_member (λ p. not (same q.name p.name)) m (and_left (every (λ p. not (same q.name p.name)) rs) (distinct rs) d)) in
      rw n (found_in m (and_right (every (λ p. not (same q.name p.name)) rs) (distinct rs) d))

  -- a row of the table is the first of its name
  pub row_found_lem : {r : Row} → Memᴰ r rows → first_row (is_named r.name) made other rows ≡ made r
  row_found_lem m = found_in m distinct_rows
