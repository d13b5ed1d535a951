-- How definitions choose: by every test of a row, by a test at each number below a bound; and a list by its elements.
use Rattle.std.specs.Prelude.{Bool, true, ◌&&◌, List, [], ◌∷◌, ℕ, zero, suc}

-- each test of the row passes
unfoldable pub passes : List Bool → Bool
passes [] = true
passes (b ∷ bs) = b && passes bs

-- the test f passes at 0, 1, .. up to n - 1
unfoldable pub every_below : ℕ → (ℕ → Bool) → Bool
every_below zero f = true
every_below (suc n) f = every_below n f && f n

-- the list f 0, f 1, .. up to f (n - 1)
unfoldable pub list_below : ℕ → (ℕ → ℕ) → List ℕ
list_below zero f = []
list_below (suc n) f = f 0 ∷ list_below n (λ i. f (suc i))
