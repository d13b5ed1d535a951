-- FNV-1a: each byte is joined by exclusive or, then the sum is multiplied, in 32 bits.
use Rattle.std.specs.Prelude.{List, [], ◌∷◌, ℕ, ◌*◌, ◌%◌}
use Rattle.std.specs.Int.Bits.{bit_xor}

unfoldable pub mixed : ℕ → ℕ → ℕ
mixed sum byte = bit_xor sum byte * 16777619 % 4294967296

-- over the bytes in turn
unfoldable pub fnv1a : ℕ → List ℕ → ℕ
fnv1a sum [] = sum
fnv1a sum (b ∷ bs) = fnv1a (mixed sum b) bs
