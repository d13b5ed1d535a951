-- A text, line by line: "one instruction a line", and "A bad line answers with its line number and column".
use Rattle.std.specs.Prelude.{List, [], ◌∷◌, ℕ, ◌+◌, eqb, if◌then◌else◌, Ok, Err}
use Rattle.model.specs.declared.Refusal.{Refusal}
use Rattle.notation.specs.Line.{line_of}
use Rattle.notation.specs.Answers.{Parsed}

-- a byte before the first line
abbrev pub before : ℕ → List (List ℕ) → List (List ℕ)
before c [] = (c ∷ []) ∷ []
before c (l ∷ ls) = (c ∷ l) ∷ ls

-- a newline ends a line; behind the last one there is a line only where a byte stands
unfoldable pub lines : List ℕ → List (List ℕ)
lines [] = []
lines (c ∷ cs) = if eqb c 10 then [] ∷ lines cs else before c (lines cs)

-- a word for each line; or the refusal of the first bad line, the line and the column, which count from 1
pub data Reading : Type 0 where
  words : List ℕ → Reading
  bad : Refusal → (line column : ℕ) → Reading

abbrev pub with : ℕ → Reading → Reading
with w (words ws) = words (w ∷ ws)
with w (bad r line column) = bad r line column

-- line k, and what is read behind it
abbrev pub judged : ℕ → Parsed → Reading → Reading
judged k (Ok (w, n)) behind = with w behind
judged k (Err w) behind = bad w.refusal k (w.place + 1)

unfoldable pub read_from : ℕ → List (List ℕ) → Reading
read_from k [] = words []
read_from k (l ∷ ls) = judged k (line_of l) (read_from (k + 1) ls)

unfoldable pub read_text : List ℕ → Reading
read_text text = read_from 1 (lines text)
