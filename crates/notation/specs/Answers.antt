-- What is read at a place of a line, and what the two calls answer.
use Rattle.std.specs.Prelude.{ℕ, Result}
use Rattle.model.specs.declared.Refusal.{Refusal}
use Rattle.notation.specs.declared.Wrong.{Wrong}
use Rattle.notation.specs.declared.NotAssembled.{NotAssembled}

-- a value and the place behind it, or a refusal and the place that earns it
abbrev pub Parsed : Type 0
Parsed = Result (ℕ × ℕ) Wrong

abbrev pub wrong : Refusal → ℕ → Wrong
wrong r place = record { refusal = r; place = place }

-- how many bytes the words take; or a refusal, and the line and the column that earn it
abbrev pub AssembleAnswer : Type 0
AssembleAnswer = Result ℕ NotAssembled

abbrev pub not_assembled : Refusal → ℕ → ℕ → NotAssembled
not_assembled r line column = record { refusal = r; line = line; column = column }

-- how many bytes the text takes
abbrev pub ListAnswer : Type 0
ListAnswer = Result ℕ Refusal
