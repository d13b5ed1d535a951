-- What is said of a failure.
use Rattle.std.specs.Prelude.{List, [], ◌∷◌, ◌++◌, ℕ, Option}
use Rattle.std.specs.Io.KnownBytes.{Appends}

-- a line: what failed, a colon and a space, and some reason
abbrev pub SaysWhy : Option (List ℕ) → Option (List ℕ) → List ℕ → Type 0
SaysWhy old new what = (reason : List ℕ) × Appends old new (what ++ ((58 ∷ 32 ∷ []) ++ (reason ++ (10 ∷ []))))
