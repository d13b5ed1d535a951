-- What the programs `asm` and `list` write for what they read: the result to standard output; of a refusal one line to descriptor 2.
use Rattle.std.specs.Prelude.{◌≡◌, List, [], ◌++◌, ℕ, eqb, leb, length, if◌then◌else◌, Err}
use Rattle.model.specs.Console as console
use Rattle.model.specs.declared.Refusal.TheVariants.{Room}
use Rattle.notation.specs.Calls.{AssembleNumbers, AssembleOutcome, assemble_outcome, assemble_call, ListOutcome, list_outcome, list_call}
use Rattle.notation.specs.Answers.{not_assembled}
use Rattle.text.specs.Text.{Appended}
use Rattle.workshop.specs.declared.Made.{Made}

-- how many bytes of the output are the result, every byte of the output lent, and what is said on descriptor 2
pub record Work : Type 0 where
  pub length : ℕ
  pub out : List ℕ
  pub line : List ℕ

-- ---- asm: "text of 294,912 bytes .. a longer input is refused 7 by its length alone"
-- `refused N LINE COLUMN`
abbrev pub refused_at : ℕ → ℕ → ℕ → List ℕ
refused_at n line column =
    console.refused_word ++ (console.spaced n ++ (console.spaced line ++ (console.spaced column ++ console.newline)))

abbrev pub asm_line : AssembleNumbers → List ℕ
asm_line n = if eqb n.verdict.refused 0 then [] else refused_at n.verdict.refused n.line n.column

abbrev pub asm_by : AssembleOutcome → Work
asm_by o = record { length = o.numbers.length; out = o.out; line = asm_line o.numbers }

unfoldable pub asm_work : List ℕ → List ℕ → Work
asm_work input out = asm_by (if leb (length input) 294912 then assemble_call input out else assemble_outcome (Err (not_assembled Room 0 0)) out)

-- ---- list: "words of 65,536" bytes; `refused N`
abbrev pub list_by : ListOutcome → Work
list_by o = record { length = o.numbers.length; out = o.out; line = console.or_refused o.numbers.verdict [] }

unfoldable pub list_work : List ℕ → List ℕ → Work
list_work input out = list_by (if leb (length input) 65536 then list_call input out else list_outcome (Err Room) out)

-- ---- what the two promise: both counts, and the output lent and the buffer for what is said, afterwards
pub record Does (w : Work) (said : List ℕ) (r : Made) (after heard : List ℕ) : Type 0 where
  pub written : r.written ≡ w.length
  pub output : after ≡ w.out
  pub line : Appended said 0 heard r.said w.line

abbrev pub AsmPromise : List ℕ → List ℕ → List ℕ → Made → List ℕ → List ℕ → Type 0
AsmPromise input out said r after heard = Does (asm_work input out) said r after heard

abbrev pub ListPromise : List ℕ → List ℕ → List ℕ → Made → List ℕ → List ℕ → Type 0
ListPromise input out said r after heard = Does (list_work input out) said r after heard
