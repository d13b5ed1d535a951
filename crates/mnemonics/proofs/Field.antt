-- A value in its field, for those who use a piece.
use Prim.Native.Nat.{ℕ, ◌*◌, ◌≤◌, ◌<◌}
use native.Mathlib.Nat.{lt_of_lt_of_le, mul-lt-mul_of_pos_right, mul_comm}

pub within_field : (scale size v : ℕ) → scale * size ≤ 4294967296 → 0 < scale → v < size → v * scale < 4294967296
within_field scale size v h p q =
    lt_of_lt_of_le (mul-lt-mul_of_pos_right q p) (rw (mul_comm size scale) h)
