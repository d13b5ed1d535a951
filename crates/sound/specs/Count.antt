-- How many entries of the table are valid.
use Rattle.std.specs.Prelude.{Bool, List, ℕ, zero, suc, ◌+◌, if◌then◌else◌}
use Rattle.model.specs.Pages.{virtual}
use Rattle.model.specs.Table.{entry, valid}
use Rattle.model.specs.declared.Shape.{Shape}

-- the numbers below n at which the test f passes
unfoldable pub count_below : ℕ → (ℕ → Bool) → ℕ
count_below zero f = 0
count_below (suc n) f = count_below n f + (if f n then 1 else 0)

-- the valid entries of the pages below n
abbrev pub valid_below : Shape → List ℕ → ℕ → ℕ
valid_below s main n = count_below n (λ x. valid (entry s main (virtual x)))
