-- Words of four bytes each, as numbers.
use Rattle.std.specs.Prelude.{List, ℕ, map}
use Rattle.std.specs.Int.{w32, from_le_bytes}

abbrev pub numbers : List (List ℕ) → List ℕ
numbers words = map (λ bytes. from_le_bytes w32 bytes) words
