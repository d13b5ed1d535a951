-- A line, read from the left: a mnemonic with its operands, or one plain number. Blanks may stand before each thing that is read.
use Rattle.std.specs.Prelude.{Bool, ◌&&◌, not, List, [], ◌∷◌, ℕ, ◌+◌, ◌-◌, ◌*◌, ◌/◌, ltb, leb, eqb, length, drop, if◌then◌else◌, Ok, Err}
use Rattle.model.specs.declared.Refusal.TheVariants.{Mnemonic, Operand, Overflow}
use Rattle.model.specs.Bytes.{same}
use Rattle.text.specs.Reading.{front, is_digit}
use Rattle.notation.specs.Table.{Row, rows, first_row}
use Rattle.notation.specs.Sums.{is_blank, byte_at, skipped, and_then, number_at, sum_at}
use Rattle.notation.specs.declared.Piece.{Piece}
use Rattle.notation.specs.declared.Piece.TheVariants.{Mark, Field}
use Rattle.notation.specs.Answers.{Parsed, wrong}

-- ---- an operand in its field
-- how far below zero the field's numbers begin: "Fields extended by sign take signed values, all others .. unsigned"
abbrev pub below : ℕ → Bool → ℕ
below size signed = if signed then size / 2 else 0

-- a value that is kept as v, in a field of that size
abbrev pub in_field : ℕ → ℕ → ℕ
in_field size v = if leb 2147483648 v then v - 2147483648 else v + size - 2147483648

unfoldable pub fitted : ℕ → Bool → ℕ → ℕ → ℕ → Parsed
fitted size signed at v n =
    if leb 2147483648 (v + below size signed) && ltb (v + below size signed) (2147483648 + size) then Ok (in_field size v, n)
    else Err (wrong Overflow at)

-- "nested at most eight deep"
abbrev pub operand_at : List ℕ → ℕ → ℕ → Bool → Parsed
operand_at s at size signed = and_then (sum_at s at 8) (fitted size signed at)

-- ---- what stands behind a mnemonic, from place n on; w is the word so far
unfoldable pub read_piece : List ℕ → Piece → ℕ → ℕ → Parsed
read_piece s (Mark b) w n = if eqb (byte_at s (skipped s n)) b then Ok (w, skipped s n + 1) else Err (wrong Operand (skipped s n))
read_piece s (Field scale size signed) w n =
    and_then (operand_at s (skipped s n) size signed) (λ v next. Ok (w + v * scale, next))

-- nothing but blanks
unfoldable pub ended : List ℕ → ℕ → ℕ → Parsed
ended s w n = if eqb (skipped s n) (length s) then Ok (w, n) else Err (wrong Operand (skipped s n))

unfoldable pub read_pieces : List ℕ → List Piece → ℕ → ℕ → Parsed
read_pieces s [] w n = ended s w n
read_pieces s (p ∷ ps) w n = and_then (read_piece s p w n) (read_pieces s ps)

-- ---- the line
-- the mnemonic: up to the next blank
abbrev pub name_at : List ℕ → ℕ → List ℕ
name_at s at = front (λ c. not (is_blank c)) (drop at s)

abbrev pub is_named : List ℕ → Row → Bool
is_named name r = same r.name name

unfoldable pub instruction_at : List ℕ → ℕ → Parsed
instruction_at s at =
    first_row (is_named (name_at s at)) (λ r. read_pieces s r.pieces r.base (at + length (name_at s at))) (Err (wrong Mnemonic at)) rows

-- "one plain unsigned number up to 4294967295, which is no operand"
abbrev pub plain_at : List ℕ → ℕ → Parsed
plain_at s at = and_then (number_at s at 4294967295) (ended s)

unfoldable pub line_at : List ℕ → ℕ → Parsed
line_at s at = if is_digit (byte_at s at) then plain_at s at else instruction_at s at

unfoldable pub line_of : List ℕ → Parsed
line_of s = line_at s (skipped s 0)
