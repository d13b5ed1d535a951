-- Words of 32 bits, as numbers below 2^32: "Sums and differences of registers and addresses go round at 2^32".
use Rattle.std.specs.Prelude.{Bool, not, ℕ, ◌+◌, ◌-◌, ◌*◌, ◌/◌, ◌%◌, ◌^◌, ltb, eqb, if◌then◌else◌}
use Rattle.std.specs.Int.Bits.{bit_or}

abbrev pub plus : ℕ → ℕ → ℕ
plus x y = (x + y) % 2 ^ 32

abbrev pub minus : ℕ → ℕ → ℕ
minus x y = (x + (2 ^ 32 - y)) % 2 ^ 32

-- the n lowest bits of w, and the n bits of w from bit lo on
abbrev pub low : ℕ → ℕ → ℕ
low n w = w % 2 ^ n

abbrev pub field : ℕ → ℕ → ℕ → ℕ
field lo n w = low n (w / 2 ^ lo)

-- a number of n bits, sign extended to 32
abbrev pub extend : ℕ → ℕ → ℕ
extend n x = if ltb x (2 ^ (n - 1)) then x else x + (2 ^ 32 - 2 ^ n)

-- x < y, signed: the order of the words once each is moved up by 2^31
abbrev pub below : ℕ → ℕ → Bool
below x y = ltb (plus x (2 ^ 31)) (plus y (2 ^ 31))

abbrev pub shift_left : ℕ → ℕ → ℕ
shift_left x n = x * 2 ^ n % 2 ^ 32

abbrev pub shift_right : ℕ → ℕ → ℕ
shift_right x n = x / 2 ^ n

-- the n top bits, all ones: those that a word of ones loses by a shift right
abbrev pub top_ones : ℕ → ℕ
top_ones n = 2 ^ 32 - 1 - shift_right (2 ^ 32 - 1) n

-- n copies of bit 31 of x, at the top
abbrev pub fill : ℕ → ℕ → ℕ
fill x n = if eqb (field 31 1 x) 1 then top_ones n else 0

-- "an unsigned shift with the top bits filled from bit 31"
abbrev pub shift_signed : ℕ → ℕ → ℕ
shift_signed x n = bit_or (shift_right x n) (fill x n)

-- "RD = 1 or 0"
abbrev pub bit : Bool → ℕ
bit b = if b then 1 else 0

-- "never, >, =, ≥, <, ≠, ≤, always; signed": comparison c, of 0 to 7
unfoldable pub compared : ℕ → ℕ → ℕ → ℕ
compared c x y =
    if eqb c 0 then 0  -- clr: never
    else if eqb c 1 then bit (below y x)  -- sgr: >
    else if eqb c 2 then bit (eqb x y)  -- seq: =
    else if eqb c 3 then bit (not (below x y))  -- sge: ≥
    else if eqb c 4 then bit (below x y)  -- sls: <
    else if eqb c 5 then bit (not (eqb x y))  -- sne: ≠
    else if eqb c 6 then bit (not (below y x))  -- sle: ≤
    else 1  -- set: always

abbrev pub aligned : ℕ → ℕ → Bool
aligned width va = eqb (va % width) 0
