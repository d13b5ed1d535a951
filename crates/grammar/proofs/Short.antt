-- "At most 18 bytes a line" of a listing: each line has at most 17 before its newline, and so a listing at most 18 for each word.
use mathlib.Core.Bool.{Bool, true, false, ◌&&◌}
use mathlib.Core.Path.{◌≡◌, refl}
use mathlib.Core.List.{List, [], ◌∷◌, map}
use Prim.Native.Nat.{ℕ, zero, suc, ◌+◌, ◌-◌, ◌*◌, ◌/◌, ◌≤◌, ◌<◌}
use native.Mathlib.Nat.{mod-lt}
use native.Mathlib.Omega.{arith}
use lib.Dec.{eqb, leb, ltb}
use lib.ListN.{length, length-append}
use borrow.Author.Tests.{leb-true, leb-false, ltb-true, ltb-false}
use Rattle.model.specs.Choice.{passes}
use Rattle.std.specs.Prelude.{if◌then◌else◌}
use Rattle.model.specs.Console.{digits}
use Rattle.laws.proofs.Choice.{and_left, and_right, chosen}
use Rattle.text.proofs.Digits.{length_digits}
use Rattle.notation.specs.Table.{Row, rows, spelled}
use Rattle.notation.specs.Listing.{field_of, value_text, piece_text, pieces_text, filled, is_keyed, by_row, listed, listing}
use Rattle.notation.specs.declared.Piece.{Piece}
use Rattle.notation.specs.declared.Piece.TheVariants.{Mark, Field}
use Rattle.grammar.proofs.Line.{first_has}

-- ---- a greater number has no fewer digits
-- a number has one digit, or one more than it has without its last
by_digits : (P : ℕ → Type 0) (n x : ℕ) → (x < 10 → P 1) → (10 ≤ x → P (length (digits n (x / 10)) + 1)) → P (length (digits (suc n) x))
unfolding digits
by_digits P n x f g =
    chosen (λ (l : List ℕ). P (length l)) (ltb x 10) (λ t. f (ltb-true x 10 t))
    (λ t. rw length-append (g (ltb-false x 10 t)))

pub no_fewer : (n x y : ℕ) → x ≤ y → length (digits n x) ≤ length (digits n y)
unfolding digits
no_fewer zero x y h = omega arith
no_fewer (suc n) x y h =
    by_digits (λ k. k ≤ length (digits (suc n) y)) n x (λ _. by_digits (λ k. 1 ≤ k) n y (λ _. omega arith) (λ _. omega arith))
    (λ a. by_digits (λ k. length (digits n (x / 10)) + 1 ≤ k) n y (λ b. omega arith)
    (λ _. omega (arith, no_fewer n (x / 10) (y / 10) (omega arith))))

-- ---- how long a piece can be: a field as its greatest number, or as its least with a minus
abbrev value_width : ℕ → Bool → ℕ
value_width size signed = if signed then suc (length (digits 9 (size - size / 2))) else length (digits 9 (size - 1))

abbrev width : Piece → ℕ
width (Mark b) = 1
width (Field scale size signed) = value_width size signed

widths : List Piece → ℕ
widths [] = 0
widths (p ∷ ps) = width p + widths ps

value_short : (size : ℕ) (signed : Bool) (x : ℕ) → x < size → length (value_text size signed x) ≤ value_width size signed
unfolding value_text
value_short size false x h = no_fewer 9 x (size - 1) (omega arith)
value_short size true x h =
    let most = size - size / 2 in
    chosen (λ (l : List ℕ). length l ≤ suc (length (digits 9 most))) (leb (size / 2) x)
    (λ t. let k : size / 2 ≤ x = leb-true (size / 2) x t in omega (arith, no_fewer 9 (size - x) most (omega arith)))
    (λ t. let k : x < size / 2 = leb-false (size / 2) x t in omega (arith, no_fewer 9 x most (omega arith)))

-- a field holds some number
abbrev is_sized : Piece → Bool
is_sized (Mark b) = true
is_sized (Field scale size signed) = ltb 0 size

piece_short : (p : Piece) (w : ℕ) → is_sized p ≡ true → length (piece_text p w) ≤ width p
unfolding piece_text
piece_short (Mark b) w t = omega arith
piece_short (Field scale size signed) w t =
    value_short size signed (field_of scale size w) (mod-lt (w / scale) (ltb-true 0 size t))

pieces_short : (ps : List Piece) (w : ℕ) → passes (map is_sized ps) ≡ true → length (pieces_text ps w) ≤ widths ps
unfolding pieces_text passes widths
pieces_short [] w t = omega arith
pieces_short (p ∷ ps) w t =
    let this = piece_short p w (and_left (is_sized p) (passes (map is_sized ps)) t) in
    let others = pieces_short ps w (and_right (is_sized p) (passes (map is_sized ps)) t) in
    omega (arith, length-append (piece_text p w) (pieces_text ps w))

-- ---- a line
abbrev Fits : List ℕ → Type 0
Fits l = length l ≤ 17

abbrev is_short : Row → Bool
is_short r = passes (map is_sized r.pieces) && leb (length r.name + 1 + widths r.pieces) 17

rows_short : passes (map is_short rows) ≡ true
unfolding rows spelled passes widths digits
rows_short = refl

-- a word as a number
number_short : (w : ℕ) → Fits (digits 9 w)
number_short w = omega (arith, length_digits 9 w)

module _ (w : ℕ) where
  row_short : (r : Row) → is_short r ≡ true → Fits (by_row w r)
  unfolding by_row
  row_short r t =
      let sized = passes (map is_sized r.pieces) in
      let all = length r.name + 1 + widths r.pieces in
      let k : all ≤ 17 = leb-true all 17 (and_right sized (leb all 17) t) in
      let operands = pieces_short r.pieces w (and_left sized (leb all 17) t) in
      chosen Fits (eqb (filled r.pieces r.base w) w)
      (λ _. omega (arith, length-append r.name (32 ∷ pieces_text r.pieces w)))
      (λ _. number_short w)

  pub short : length (listed w) ≤ 17
  unfolding listed
  short = first_has Fits is_short (is_keyed w) (by_row w) (digits 9 w) rows rows_short row_short (number_short w)

-- ---- a listing
pub listing_short : (ws : List ℕ) → length (listing ws) ≤ 18 * length ws
unfolding listing
listing_short [] = omega arith
listing_short (w ∷ ws) = omega (arith, length-append (listed w) (10 ∷ listing ws), short w, listing_short ws)
