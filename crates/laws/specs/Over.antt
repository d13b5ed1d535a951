-- A list with other numbers over a part of it.
use Rattle.std.specs.Prelude.{List, ◌++◌, ℕ, ◌+◌, length, take, drop}

-- l with the numbers of s in the place of those from place `at` on
abbrev pub over : ℕ → List ℕ → List ℕ → List ℕ
over at s l = take at l ++ s ++ drop (at + length s) l
