-- A sum in a line: "Operands may be sums and differences with parentheses, nested at most eight deep, a minus before a term too, each
-- value kept in 32 bits signed". Places count from 0; a value v is kept as v + 2^31.
use Rattle.std.specs.Prelude.{Bool, true, false, ◌&&◌, ◌||◌, List, ℕ, zero, suc, ◌+◌, ◌-◌, ◌*◌, ltb, leb, eqb, length, get_or, drop, Result, Ok, Err, if◌then◌else◌}
use Rattle.model.specs.declared.Refusal.TheVariants.{Operand, Overflow}
use Rattle.text.specs.Reading as reading
use Rattle.text.specs.declared.reading.Number.{Number}
use Rattle.notation.specs.Answers.{Parsed, wrong}

-- a space, a tab, a carriage return
unfoldable pub is_blank : ℕ → Bool
is_blank c = eqb c 32 || (eqb c 9 || eqb c 13)

-- what stands at a place, 0 at the line's end
abbrev pub byte_at : List ℕ → ℕ → ℕ
byte_at s at = get_or s at 0

-- the first place from `at` on that holds no blank, or the line's end
unfoldable pub skipped : List ℕ → ℕ → ℕ
skipped s at = at + length (reading.front is_blank (drop at s))

-- a value goes on, a refusal stays
abbrev pub and_then : Parsed → (ℕ → ℕ → Parsed) → Parsed
and_then (Ok (v, n)) onto = onto v n
and_then (Err w) onto = Err w

-- ---- a number: decimal digits, at least one; one above `most` does not fit, at its first digit
abbrev pub numbered : ℕ → Result Number ℕ → Parsed
numbered at (Ok n) = Ok (n.value, n.next)
numbered at (Err column) = Err (wrong Overflow at)

unfoldable pub number_at : List ℕ → ℕ → ℕ → Parsed
number_at s at most = if reading.is_digit (byte_at s at) then numbered at (reading.number_at s at most) else Err (wrong Operand at)

-- ---- "each value kept in 32 bits signed": v is 2^32 more than the value, and `at` where the value's text begins
unfoldable pub kept : ℕ → ℕ → ℕ → Parsed
kept at v n = if leb 2147483648 v && ltb v 6442450944 then Ok (v - 2147483648, n) else Err (wrong Overflow at)

-- the sum or the difference of two values
abbrev pub joined : ℕ → ℕ → Bool → ℕ → ℕ → Parsed
joined at acc minus v n = kept at (if minus then acc + 4294967296 - v else acc + v) n

-- ---- a term and a sum read each other. Each place is one that holds no blank, and d parentheses more may be open
-- what is to be read: a term; or terms from `at` on, the first of them with a minus or not, behind what was read of the sum that begins at
-- `start`
pub data Goal : Type 0 where
  term : (at d : ℕ) → Goal
  terms : (start at acc : ℕ) → (minus : Bool) → (d : ℕ) → Goal

-- a sum from its beginning
abbrev pub whole : ℕ → ℕ → Goal
whole at d = terms at at 2147483648 false d

-- "a minus before a term too": one, and where what it stands before begins
abbrev pub is_minus : List ℕ → ℕ → Bool
is_minus s at = eqb (byte_at s at) 45

abbrev pub start_of : List ℕ → ℕ → ℕ
start_of s at = if is_minus s at then skipped s (at + 1) else at

abbrev pub negated : ℕ → Bool → Parsed → Parsed
negated at minus p = if minus then and_then p (joined at 2147483648 true) else p

-- the parenthesis behind a sum
abbrev pub closed : List ℕ → Parsed → Parsed
closed s p =
    and_then p (λ v n. if eqb (byte_at s (skipped s n)) 41 then Ok (v, skipped s n + 1) else Err (wrong Operand (skipped s n)))

-- a number as a value
abbrev pub valued : Parsed → Parsed
valued p = and_then p (λ v n. Ok (v + 2147483648, n))

-- a number, or a sum in parentheses; `read` reads what is further on
abbrev pub factor : (Goal → Parsed) → List ℕ → ℕ → ℕ → Parsed
factor read s at d =
    if eqb (byte_at s at) 40 then (if eqb d 0 then Err (wrong Operand at) else closed s (read (whole (skipped s (at + 1)) (d - 1))))
    else valued (number_at s at 2147483647)

-- behind a term: the next one, or the sum's end
abbrev pub more : (Goal → Parsed) → List ℕ → ℕ → ℕ → ℕ → ℕ → Parsed
more read s start d v n =
    if eqb (byte_at s (skipped s n)) 43 then read (terms start (skipped s (skipped s n + 1)) v false d)
    else if eqb (byte_at s (skipped s n)) 45 then read (terms start (skipped s (skipped s n + 1)) v true d)
    else Ok (v, n)

unfoldable pub read_by : (Goal → Parsed) → List ℕ → Goal → Parsed
read_by read s (term at d) = negated at (is_minus s at) (factor read s (start_of s at) d)
read_by read s (terms start at acc minus d) =
    and_then (read (term at d)) (λ v n. and_then (joined start acc minus v n) (more read s start d))

-- at most k readings one within another
unfoldable pub read_in : ℕ → List ℕ → Goal → Parsed
read_in zero s g = Err (wrong Operand 0)
read_in (suc k) s g = read_by (read_in k s) s g

-- by the bytes left: as many as there can be
abbrev pub size : List ℕ → Goal → ℕ
size s (term at d) = 2 * (length s - at) + 1
size s (terms start at acc minus d) = 2 * (length s - at) + 2

unfoldable pub read_at : List ℕ → Goal → Parsed
read_at s g = read_in (size s g) s g

abbrev pub term_at : List ℕ → ℕ → ℕ → Parsed
term_at s at d = read_at s (term at d)

abbrev pub sum_at : List ℕ → ℕ → ℕ → Parsed
sum_at s at d = read_at s (whole at d)
