-- The signed shift right, of a word x by n places: what it was before it was written as a shift with a fill, and what it is bit by bit.
-- The theorems are `as_it_was` and `filled` of proofs/Shift.
use Rattle.std.specs.Prelude.{◌≡◌, ℕ, ◌+◌, ◌-◌, ◌/◌, ◌^◌, ◌<◌, ltb, if◌then◌else◌}
use Rattle.model.specs.Words.{field, shift_signed}

-- "Every answer stays as it is."
abbrev pub AsItWas : Type 0
AsItWas =
    (x n : ℕ) → x < 2 ^ 32 → n < 32
    → shift_signed x n ≡ (if ltb x (2 ^ 31) then x / 2 ^ n else x / 2 ^ n + (2 ^ 32 - 2 ^ (32 - n)))

-- bit i of the result is bit i + n of x, and bit 31 where x has no such bit
abbrev pub Filled : Type 0
Filled =
    (x n i : ℕ) → x < 2 ^ 32 → n < 32 → i < 32
    → field i 1 (shift_signed x n) ≡ (if ltb (i + n) 32 then field (i + n) 1 x else field 31 1 x)
