-- What the two passes go by: what the first pass finds, how many lines there are or the first bad one; and a line's word.
use Rattle.std.specs.Prelude.{List, ℕ, length, Result, Ok, Err}
use Rattle.notation.specs.Text.{Reading, words, bad, read_text}
use Rattle.notation.specs.Answers.{Parsed, not_assembled}
use Rattle.notation.specs.declared.NotAssembled.{NotAssembled}

abbrev pub checked_by : Reading → Result ℕ NotAssembled
checked_by (words ws) = Ok (length ws)
checked_by (bad r line column) = Err (not_assembled r line column)

unfoldable pub checked : List ℕ → Result ℕ NotAssembled
checked text = checked_by (read_text text)

-- 0 for a bad line, of which the second pass meets none
abbrev pub word_of : Parsed → ℕ
word_of (Ok (w, next)) = w
word_of (Err w) = 0
