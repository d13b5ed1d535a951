-- What each call of a script leaves, and the line that answers it: its word and what it reports, or `refused N`.
use Rattle.std.specs.Prelude.{◌≡◌, List, [], ◌∷◌, ℕ, replicate}
use Rattle.model.specs.Pages.{virtual}
use Rattle.model.specs.Console.{or_refused}
use Rattle.text.specs.Text.{Appended}
use Rattle.answerlines.specs.Lines.{numbers_line, sums_line}
use Rattle.answerlines.specs.Calls.{read_line, view_line, write_line, reply_line, registers_line}
use Rattle.script.specs.Vocabulary.{run_word, sum_word}
use Rattle.script.specs.declared.parts.Numbers.{Numbers}
use Rattle.script.specs.declared.Call.{Call}
use Rattle.script.specs.declared.Call.TheVariants.{Run, Read, Write, View, Reply, Registers}
use Rattle.plainmodel.specs.State.{PlainState, plain_state}
use Rattle.plainmodel.specs.Calls.{PlainNumbers, RunOutcome, ReadOutcome, WriteOutcome, ViewOutcome, ReplyOutcome, run_call, read_call, write_call, view_call, reply_call}
use Rattle.plainmodel.specs.declared.Plain.{Plain}

-- ---- the lines
-- `run STOP DETAIL FINISHED`
abbrev pub run_text : PlainNumbers → List ℕ
run_text r = or_refused r.verdict (numbers_line run_word (r.stop ∷ r.detail ∷ r.finished ∷ []))

-- `read HEX`, `view HEX`
abbrev pub read_text : ReadOutcome → List ℕ
read_text o = read_line o.verdict o.buffer

abbrev pub view_text : ViewOutcome → List ℕ
view_text o = view_line o.verdict o.part

-- `write`, `reply`
abbrev pub write_text : WriteOutcome → List ℕ
write_text o = write_line o.verdict

abbrev pub reply_text : ReplyOutcome → List ℕ
reply_text o = reply_line o.verdict

-- `registers DPC PC' GPR0 .. GPR31`
abbrev pub registers_text : Plain → List ℕ
registers_text m = registers_line m.pcs m.gpr

-- `sum M R`
abbrev pub sum_text : PlainState → List ℕ
sum_text p = sums_line sum_word p.bytes p.rights

-- ---- the calls: what is left of the machine and the lent bytes, and the line
pub record Answer : Type 0 where
  pub state : PlainState
  pub text : List ℕ

-- a call that leaves all as it was
abbrev pub told : PlainState → List ℕ → Answer
told p text = record { state = p; text = text }

abbrev pub ran : RunOutcome → Answer
ran o = told o.state (run_text o.numbers)

abbrev pub wrote : WriteOutcome → PlainState → Answer
wrote o p = told (plain_state p.plain o.bytes p.rights) (write_text o)

abbrev pub replied : ReplyOutcome → PlainState → Answer
replied o p = told (plain_state o.plain p.bytes p.rights) (reply_text o)

-- each call, by its numbers and the bytes of its HEX
unfoldable pub answered : Call → Numbers → List ℕ → PlainState → Answer
answered Run n bytes p = ran (run_call p n.first)
answered Read n bytes p = told p (read_text (read_call p n.first (replicate n.second 0)))
answered Write n bytes p = wrote (write_call p n.first bytes) p
answered View n bytes p = told p (view_text (view_call p (virtual n.first)))
answered Reply n bytes p = replied (reply_call p.plain n.first n.second) p
answered Registers n bytes p = told p (registers_text p.plain)

-- the state p is what the call leaves, and its line stands in the buffer
pub record Says (before : List ℕ) (at : ℕ) (after : List ℕ) (to : ℕ) (p : PlainState) (a : Answer) : Type 0 where
  pub text : Appended before at after to a.text
  pub state : p ≡ a.state
