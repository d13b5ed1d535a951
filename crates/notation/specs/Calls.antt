-- What the two calls answer, and every byte of the lent output afterwards.
use Rattle.std.specs.Prelude.{List, [], ◌∷◌, ℕ, ◌*◌, ◌/◌, ◌%◌, leb, eqb, length, if◌then◌else◌, Ok, Err}
use Rattle.model.specs.Choice.{list_below}
use Rattle.model.specs.Bytes.{number}
use Rattle.model.specs.Answers.{VerdictNumbers, verdict_numbers}
use Rattle.model.specs.declared.Refusal.TheVariants.{Bound, Room}
use Rattle.laws.specs.Over.{over}
use Rattle.notation.specs.Text.{Reading, words, bad, read_text}
use Rattle.notation.specs.Listing.{listing}
use Rattle.notation.specs.Answers.{AssembleAnswer, not_assembled, ListAnswer}

-- ---- "Words and halves are little endian"
abbrev pub bytes_of_word : ℕ → List ℕ → List ℕ
bytes_of_word w behind = w % 256 ∷ w / 256 % 256 ∷ w / 65536 % 256 ∷ w / 16777216 % 256 ∷ behind

unfoldable pub bytes_of : List ℕ → List ℕ
bytes_of [] = []
bytes_of (w ∷ ws) = bytes_of_word w (bytes_of ws)

unfoldable pub words_of : List ℕ → List ℕ
words_of bytes = list_below (length bytes / 4) (λ i. number 4 bytes (4 * i))

-- ---- assemble
pub record AssembleNumbers : Type 0 where
  pub verdict : VerdictNumbers
  pub length : ℕ
  pub line : ℕ
  pub column : ℕ

-- "A refusal returns its number, zero for every other number", but the line and the column of a bad line
abbrev pub assemble_numbers : AssembleAnswer → AssembleNumbers
assemble_numbers (Ok n) = record { verdict = verdict_numbers (Ok tt); length = n; line = 0; column = 0 }
assemble_numbers (Err w) = record { verdict = verdict_numbers (Err w.refusal); length = 0; line = w.line; column = w.column }

pub record AssembleOutcome : Type 0 where
  pub numbers : AssembleNumbers
  pub out : List ℕ

abbrev pub assemble_outcome : AssembleAnswer → List ℕ → AssembleOutcome
assemble_outcome a out = record { numbers = assemble_numbers a; out = out }

-- "last, 7 for a lent output shorter than the result"; bytes behind the result stay
abbrev pub assemble_by : Reading → List ℕ → AssembleOutcome
assemble_by (words ws) out =
    if leb (4 * length ws) (length out) then assemble_outcome (Ok (4 * length ws)) (over 0 (bytes_of ws) out)
    else assemble_outcome (Err (not_assembled Room 0 0)) out
assemble_by (bad r line column) out = assemble_outcome (Err (not_assembled r line column)) out

unfoldable pub assemble_call : List ℕ → List ℕ → AssembleOutcome
assemble_call text out = assemble_by (read_text text) out

-- ---- list
pub record ListNumbers : Type 0 where
  pub verdict : VerdictNumbers
  pub length : ℕ

abbrev pub list_numbers : ListAnswer → ListNumbers
list_numbers (Ok n) = record { verdict = verdict_numbers (Ok tt); length = n }
list_numbers (Err r) = record { verdict = verdict_numbers (Err r); length = 0 }

pub record ListOutcome : Type 0 where
  pub numbers : ListNumbers
  pub out : List ℕ

abbrev pub list_outcome : ListAnswer → List ℕ → ListOutcome
list_outcome a out = record { numbers = list_numbers a; out = out }

-- any whole number of words; then room for the text
abbrev pub list_by : List ℕ → List ℕ → ListOutcome
list_by text out =
    if leb (length text) (length out) then list_outcome (Ok (length text)) (over 0 text out) else list_outcome (Err Room) out

unfoldable pub list_call : List ℕ → List ℕ → ListOutcome
list_call bytes out = if eqb (length bytes % 4) 0 then list_by (listing (words_of bytes)) out else list_outcome (Err Bound) out
