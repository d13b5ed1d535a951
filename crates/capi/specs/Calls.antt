-- What each exported call leaves: the number that it returns and every lent slice afterwards, by the model's own definition of the
-- call. A record, an answer or a view's buffer of another length than said is refused 1, and nothing changes.
use Rattle.std.specs.Prelude.{◌&&◌, List, [], ◌∷◌, ℕ, eqb, length, if◌then◌else◌}
use Rattle.model.specs.Pages.{virtual}
use Rattle.model.specs.State.{State, memory, state}
use Rattle.model.specs.Answers.{refusal_number, RunNumbers}
use Rattle.model.specs.Calls.{RunOutcome, StateOutcome, ReadOutcome, ViewOutcome, ReplyOutcome, run_call, read_call, write_call, view_call, reply_call}
use Rattle.model.specs.Image.{load_call}
use Rattle.model.specs.declared.Refusal.TheVariants.{Bound}
use Rattle.record.specs.Words.{machine_of, words_of, whole}
use Rattle.notation.specs.Calls.{AssembleNumbers, AssembleOutcome, assemble_call, ListNumbers, ListOutcome, list_call}

-- the machine that a host lends: the record's words and both memories
abbrev pub lent : List ℕ → List ℕ → List ℕ → State
lent words main swap = state (machine_of words) main swap

-- ---- load, and write: the record and both memories are lent
pub record Machined : Type 0 where
  pub returned : ℕ
  pub words : List ℕ
  pub main : List ℕ
  pub swap : List ℕ

abbrev pub machined : StateOutcome → Machined
machined o = record {
  returned = o.verdict.refused;
  words = words_of o.state.machine;
  main = o.state.memory.main;
  swap = o.state.memory.swap;
}

-- "from loading, a record of zeros"
unfoldable pub load : List ℕ → List ℕ → List ℕ → List ℕ → Machined
load file main swap words =
    if whole words then machined (load_call file (memory main swap))
    else record { returned = refusal_number Bound; words = words; main = main; swap = swap }

unfoldable pub write : List ℕ → List ℕ → List ℕ → ℕ → List ℕ → Machined
write words main swap va bytes =
    if whole words then machined (write_call (lent words main swap) va bytes)
    else record { returned = refusal_number Bound; words = words; main = main; swap = swap }

-- ---- run, with an answer of five words
pub record Ran : Type 0 where
  pub returned : ℕ
  pub words : List ℕ
  pub main : List ℕ
  pub swap : List ℕ
  pub answer : List ℕ

abbrev pub run_words : RunNumbers → List ℕ
run_words n = n.stop ∷ n.detail ∷ n.finished ∷ n.loads ∷ n.copied ∷ []

abbrev pub ran : RunOutcome → Ran
ran o = record {
  returned = o.numbers.verdict.refused;
  words = words_of o.state.machine;
  main = o.state.memory.main;
  swap = o.state.memory.swap;
  answer = run_words o.numbers;
}

unfoldable pub run : List ℕ → List ℕ → List ℕ → ℕ → List ℕ → Ran
run words main swap limit answer =
    if whole words && eqb (length answer) 5 then ran (run_call (lent words main swap) limit)
    else record { returned = refusal_number Bound; words = words; main = main; swap = swap; answer = answer }

-- ---- read
pub record Filled : Type 0 where
  pub returned : ℕ
  pub buffer : List ℕ

abbrev pub filled : ReadOutcome → Filled
filled o = record { returned = o.verdict.refused; buffer = o.buffer }

unfoldable pub read : List ℕ → List ℕ → List ℕ → ℕ → List ℕ → Filled
read words main swap va into =
    if whole words then filled (read_call (lent words main swap) va into)
    else record { returned = refusal_number Bound; buffer = into }

-- ---- view: the page is copied into a buffer of 4096 bytes, which stays as it is where the view is refused
abbrev pub viewed : List ℕ → ViewOutcome → Filled
viewed into o = record { returned = o.verdict.refused; buffer = if eqb o.verdict.refused 0 then o.part else into }

unfoldable pub view : List ℕ → List ℕ → List ℕ → ℕ → List ℕ → Filled
view words main swap x into =
    if whole words && eqb (length into) 4096 then viewed into (view_call (lent words main swap) (virtual x))
    else record { returned = refusal_number Bound; buffer = into }

-- ---- reply
pub record Replied : Type 0 where
  pub returned : ℕ
  pub words : List ℕ

abbrev pub replied : ReplyOutcome → Replied
replied o = record { returned = o.verdict.refused; words = words_of o.machine }

unfoldable pub reply : List ℕ → ℕ → ℕ → Replied
reply words register value =
    if whole words then replied (reply_call (machine_of words) register value)
    else record { returned = refusal_number Bound; words = words }

-- ---- assemble, with an answer of three sizes; list, with an answer of one
pub record Put : Type 0 where
  pub returned : ℕ
  pub out : List ℕ
  pub answer : List ℕ

abbrev pub assemble_sizes : AssembleNumbers → List ℕ
assemble_sizes n = n.length ∷ n.line ∷ n.column ∷ []

abbrev pub assembled : AssembleOutcome → Put
assembled o = record { returned = o.numbers.verdict.refused; out = o.out; answer = assemble_sizes o.numbers }

unfoldable pub assemble : List ℕ → List ℕ → List ℕ → Put
assemble text out answer =
    if eqb (length answer) 3 then assembled (assemble_call text out)
    else record { returned = refusal_number Bound; out = out; answer = answer }

abbrev pub list_sizes : ListNumbers → List ℕ
list_sizes n = n.length ∷ []

abbrev pub listed : ListOutcome → Put
listed o = record { returned = o.numbers.verdict.refused; out = o.out; answer = list_sizes o.numbers }

unfoldable pub list : List ℕ → List ℕ → List ℕ → Put
list bytes out answer =
    if eqb (length answer) 1 then listed (list_call bytes out)
    else record { returned = refusal_number Bound; out = out; answer = answer }
