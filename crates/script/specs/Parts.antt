-- The parts of a line, each behind one space. A part that does not fit says at which column: that of the first byte that does not fit,
-- or the one behind the line's end; of a number above its bound, the first digit's. Places count from 0, columns from 1.
use Rattle.std.specs.Prelude.{◌&&◌, List, ℕ, ◌+◌, ◌-◌, ◌/◌, ◌%◌, eqb, leb, length, get_or, Result, Ok, Err, if◌then◌else◌}
use Rattle.text.specs.Reading.{is_space}
use Rattle.text.specs.Reading.{number_at, hex_end}
use Rattle.text.specs.declared.reading.Number.{Number}
use Rattle.script.specs.declared.table.Row.{Row}
use Rattle.script.specs.declared.table.Row.TheVariants.{Alone, One, Two, Hex, HexWithin}
use Rattle.script.specs.declared.parts.Numbers.{Numbers}

-- the numbers, or the column that does not fit
abbrev pub Parts : Type 0
Parts = Result Numbers ℕ

abbrev pub fit : ℕ → ℕ → ℕ → Parts
fit first second hex = Ok (record { first = first; second = second; hex = hex })

-- one space, and a number behind it
unfoldable pub spaced_number : List ℕ → ℕ → ℕ → Result Number ℕ
spaced_number l at most = if is_space (get_or l at 0) then number_at l (at + 1) most else Err (at + 1)

-- what comes behind a number, or the column that does not fit
abbrev pub behind : Result Number ℕ → (ℕ → ℕ → Parts) → Parts
behind (Ok p) onto = onto p.value p.next
behind (Err column) onto = Err column

-- nothing more: the line's end
unfoldable pub ended : List ℕ → ℕ → ℕ → ℕ → Parts
ended l first second end = if eqb end (length l) then fit first second end else Err (end + 1)

-- ---- one number; two
unfoldable pub one_number : List ℕ → ℕ → ℕ → Parts
one_number l at most = behind (spaced_number l at most) (λ v next. ended l v 0 next)

unfoldable pub two_numbers : List ℕ → ℕ → ℕ → ℕ → Parts
two_numbers l at most second =
    behind (spaced_number l at most) (λ first next. behind (spaced_number l next second) (λ v end. ended l first v end))

-- ---- a number, and HEX to the line's end: pairs of hex digits, possibly none
unfoldable pub pairs : List ℕ → ℕ → ℕ → ℕ → Parts
pairs l first start end = if eqb end (length l) && eqb ((end - start) % 2) 0 then fit first 0 start else Err (end + 1)

unfoldable pub hex_behind : List ℕ → ℕ → ℕ → Parts
hex_behind l first next = if is_space (get_or l next 0) then pairs l first (next + 1) (hex_end l (next + 1)) else Err (next + 1)

unfoldable pub number_and_hex : List ℕ → ℕ → ℕ → Parts
number_and_hex l at most = behind (spaced_number l at most) (λ v next. hex_behind l v next)

-- the same, where the bytes lie within a buffer of that size from the number on
abbrev pub fitting : ℕ → ℕ → ℕ → Parts → Parts
fitting n column size (Ok p) = if leb (p.first + (n - p.hex) / 2) size then Ok p else Err column
fitting n column size (Err c) = Err c

unfoldable pub hex_within : List ℕ → ℕ → ℕ → Parts
hex_within l at size = fitting (length l) (at + 2) size (number_and_hex l at size)

-- ---- as the table says
unfoldable pub parts_of : List ℕ → ℕ → Row → Parts
parts_of l at Alone = ended l 0 0 at
parts_of l at (One most) = one_number l at most
parts_of l at (Two most second) = two_numbers l at most second
parts_of l at (Hex most) = number_and_hex l at most
parts_of l at (HexWithin size) = hex_within l at size

-- the line by its parts; a column that does not fit makes it bad
abbrev pub line_by : {L : Type 0} → (Numbers → L) → (ℕ → L) → Parts → L
line_by fits bad (Ok n) = fits n
line_by fits bad (Err column) = bad column
