-- Where a byte stands in a list: the number of elements before the first that equals it, or the list's length where none does.
use Rattle.std.specs.Prelude.{Bool, true, false, List, [], ◌∷◌, ℕ, zero, suc, eqb, take, drop}

-- the elements from a place up to another
unfoldable pub slice : ℕ → ℕ → List ℕ → List ℕ
slice from to l = drop from (take to l)

unfoldable pub index_after : Bool → ℕ → ℕ
index_after true n = zero
index_after false n = suc n

unfoldable pub index_of : ℕ → List ℕ → ℕ
index_of b [] = zero
index_of b (x ∷ l) = index_after (eqb x b) (index_of b l)
