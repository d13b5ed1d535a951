-- The lister: "A word that the machine carries out (trap too), with its unused fields zero, is listed by mnemonic; every other word as
-- one plain unsigned number".
use Rattle.std.specs.Prelude.{Bool, true, false, ◌&&◌, List, [], ◌∷◌, ◌++◌, ℕ, ◌+◌, ◌-◌, ◌*◌, ◌/◌, ◌%◌, ◌^◌, ltb, leb, eqb, if◌then◌else◌}
use Rattle.model.specs.Words.{low, field}
use Rattle.model.specs.Console.{digits}
use Rattle.notation.specs.Table.{Row, rows, first_row}
use Rattle.notation.specs.declared.Piece.{Piece}
use Rattle.notation.specs.declared.Piece.TheVariants.{Mark, Field}

-- ---- the operands of a word
abbrev pub field_of : ℕ → ℕ → ℕ → ℕ
field_of scale size w = w / scale % size

-- a field's number in decimal
unfoldable pub value_text : ℕ → Bool → ℕ → List ℕ
value_text size signed x = if signed && leb (size / 2) x then 45 ∷ digits 9 (size - x) else digits 9 x

unfoldable pub piece_text : Piece → ℕ → List ℕ
piece_text (Mark b) w = b ∷ []
piece_text (Field scale size signed) w = value_text size signed (field_of scale size w)

unfoldable pub pieces_text : List Piece → ℕ → List ℕ
pieces_text [] w = []
pieces_text (p ∷ ps) w = piece_text p w ++ pieces_text ps w

-- ---- the word with the fields of w, and zero in every other
abbrev pub with_piece : Piece → ℕ → ℕ → ℕ
with_piece (Mark b) base w = base
with_piece (Field scale size signed) base w = base + field_of scale size w * scale

unfoldable pub filled : List Piece → ℕ → ℕ → ℕ
filled [] base w = base
filled (p ∷ ps) base w = filled ps (with_piece p base w) w

-- ---- a line
-- what the machine goes by: the function under opcode 0, or the opcode
abbrev pub key_of : ℕ → ℕ
key_of w = if eqb (w / 2 ^ 26) 0 then low 6 w else w / 2 ^ 26 * 2 ^ 26

abbrev pub is_keyed : ℕ → Row → Bool
is_keyed w r = eqb r.base (key_of w)

-- by the mnemonic of a row, where its unused fields are zero
unfoldable pub by_row : ℕ → Row → List ℕ
by_row w r = if eqb (filled r.pieces r.base w) w then r.name ++ 32 ∷ pieces_text r.pieces w else digits 9 w

unfoldable pub listed : ℕ → List ℕ
listed w = first_row (is_keyed w) (by_row w) (digits 9 w) rows

unfoldable pub listing : List ℕ → List ℕ
listing [] = []
listing (w ∷ ws) = listed w ++ 10 ∷ listing ws
