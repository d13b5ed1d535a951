-- The table of refusals as a statement: "No. | Given exactly when", and "The first that applies .. is given".
use Rattle.std.specs.Prelude.{◌≡◌, ◌↔◌, ◌⊎◌, List, [], ◌∷◌, ℕ}

-- a row of the table: its number is given when a condition holds, or unless a rule is kept
infix 68 ◌when◌ ◌unless◌
pub data Row : Type 1 where
  ◌when◌ : ℕ → Type 0 → Row
  ◌unless◌ : ℕ → Type 0 → Row

abbrev pub number : Row → ℕ
number (n when c) = n
number (n unless k) = n

-- the row applies
abbrev pub Applies : Row → Type 0
Applies (n when c) = c
Applies (n unless k) = ¬ k

-- the row does not apply
abbrev pub Passed : Row → Type 0
Passed (n when c) = ¬ c
Passed (n unless k) = k

-- Each number is answered exactly when its row applies and none before it does, and 0 exactly when none applies. That none before
-- these rows does is `before`.
abbrev pub Exactly : ℕ → Type 0 → List Row → Type 0
Exactly answer before [] = (answer ≡ 0) ↔ before
Exactly answer before (r ∷ rows) = ((answer ≡ number r) ↔ (before × Applies r)) × Exactly answer (before × Passed r) rows

-- the answer is a number of these rows, or 0
abbrev pub Listed : ℕ → List Row → Type 0
Listed answer [] = answer ≡ 0
Listed answer (r ∷ rows) = (answer ≡ number r) ⊎ Listed answer rows

pub record Decided (answer : ℕ) (rows : List Row) : Type 0 where
  pub exactly : Exactly answer Unit rows
  pub no_other : Listed answer rows
