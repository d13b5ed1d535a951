-- What is read in a text: a number in decimal, the end of a row of hex digits, bytes in pairs of hex digits. Places count from 0,
-- columns from 1. Whether two words are the same is `same` of the model's Bytes.
use Rattle.std.specs.Prelude.{Bool, ◌&&◌, ◌||◌, List, [], ◌∷◌, ℕ, ◌+◌, ◌-◌, ◌*◌, eqb, leb, length, drop, Result, Ok, Err, if◌then◌else◌}
use Rattle.text.specs.declared.reading.Number.{Number}

-- the longest front of the list whose bytes all pass the test
unfoldable pub front : (ℕ → Bool) → List ℕ → List ℕ
front f [] = []
front f (c ∷ cs) = if f c then c ∷ front f cs else []

-- c is one of the bytes from a to b
abbrev pub among : ℕ → ℕ → ℕ → Bool
among a b c = leb a c && leb c b

abbrev pub is_space : ℕ → Bool
is_space c = eqb c 32

-- ---- a number
-- `0` to `9`
unfoldable pub is_digit : ℕ → Bool
is_digit c = among 48 57 c

-- the number that the digits say, behind others that say v
unfoldable pub decimal : ℕ → List ℕ → ℕ
decimal v [] = v
decimal v (c ∷ cs) = decimal (10 * v + (c - 48)) cs

-- of these digits, at a place: at most `most`, and of at least one digit; else the column of the first
unfoldable pub number_of : List ℕ → ℕ → ℕ → Result Number ℕ
number_of ds at most =
    if leb (decimal 0 ds) most && leb 1 (length ds) then Ok (record { value = decimal 0 ds; next = at + length ds }) else Err (at + 1)

unfoldable pub number_at : List ℕ → ℕ → ℕ → Result Number ℕ
number_at l at most = number_of (front is_digit (drop at l)) at most

-- ---- bytes in pairs of hex digits
-- `0` to `9`, `A` to `F`, `a` to `f`
unfoldable pub is_hex : ℕ → Bool
is_hex c = (among 48 57 c || among 65 70 c) || among 97 102 c

-- the place behind the hex digits that begin at a place
unfoldable pub hex_end : List ℕ → ℕ → ℕ
hex_end l at = at + length (front is_hex (drop at l))

unfoldable pub hex_value : ℕ → ℕ
hex_value c =
    if among 48 57 c then c - 48 else if among 65 70 c then c - 55 else if among 97 102 c then c - 87 else 0

-- the bytes of the pairs
unfoldable pub bytes_of : List ℕ → List ℕ
bytes_of [] = []
bytes_of (high ∷ []) = []
bytes_of (high ∷ low ∷ rest) = (16 * hex_value high + hex_value low) ∷ bytes_of rest
