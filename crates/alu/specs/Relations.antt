-- The number of a comparison: "never, >, =, ≥, <, ≠, ≤, always".
use Rattle.std.specs.Prelude.{ℕ}
use Rattle.alu.specs.declared.Relation.{Relation}
use Rattle.alu.specs.declared.Relation.TheVariants.{Never, Greater, Equal, GreaterEqual, Less, NotEqual, LessEqual, Always}

abbrev pub number_of : Relation → ℕ
number_of Never = 0
number_of Greater = 1
number_of Equal = 2
number_of GreaterEqual = 3
number_of Less = 4
number_of NotEqual = 5
number_of LessEqual = 6
number_of Always = 7
