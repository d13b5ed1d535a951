-- What each exported call leaves: the number that it returns and every lent slice afterwards that is not lent for reading alone, by
-- plainmodel's own definition of the call. A record, an answer or a view's buffer of another length than said is refused 1, and nothing
-- changes. The reader's call is that of imagewords.
use Rattle.std.specs.Prelude.{◌&&◌, List, [], ◌∷◌, ℕ, eqb, length, if◌then◌else◌}
use Rattle.model.specs.Pages.{virtual}
use Rattle.model.specs.Answers.{refusal_number}
use Rattle.model.specs.declared.Refusal.TheVariants.{Bound}
use Rattle.plainmodel.specs.State.{PlainState, plain_state}
use Rattle.plainmodel.specs.Calls.{PlainNumbers, RunOutcome, run_call, ReadOutcome, read_call, WriteOutcome, write_call, ViewOutcome, view_call, ReplyOutcome, reply_call}
use Rattle.plainmodel.specs.Load.{LoadOutcome, load_call}
use Rattle.plainrecord.specs.Words.{plain_of, words_of, whole}

-- the machine that a host lends: the record's words, the memory and the rights
abbrev pub lent : List ℕ → List ℕ → List ℕ → PlainState
lent words memory rights = plain_state (plain_of words) memory rights

-- ---- load
pub record Loaded : Type 0 where
  pub returned : ℕ
  pub words : List ℕ
  pub memory : List ℕ
  pub rights : List ℕ

abbrev pub loaded : LoadOutcome → Loaded
loaded o = record { returned = o.verdict.refused; words = words_of o.state.plain; memory = o.state.bytes; rights = o.state.rights }

-- "from loading, a record of zeros"
unfoldable pub load : List ℕ → List ℕ → List ℕ → List ℕ → Loaded
load file memory rights words =
    if whole words then loaded (load_call file memory rights)
    else record { returned = refusal_number Bound; words = words; memory = memory; rights = rights }

-- ---- run, with an answer of three words
pub record Ran : Type 0 where
  pub returned : ℕ
  pub words : List ℕ
  pub memory : List ℕ
  pub answer : List ℕ

abbrev pub run_words : PlainNumbers → List ℕ
run_words n = n.stop ∷ n.detail ∷ n.finished ∷ []

abbrev pub ran : RunOutcome → Ran
ran o = record {
  returned = o.numbers.verdict.refused;
  words = words_of o.state.plain;
  memory = o.state.bytes;
  answer = run_words o.numbers;
}

unfoldable pub run : List ℕ → List ℕ → List ℕ → ℕ → List ℕ → Ran
run words memory rights limit answer =
    if whole words && eqb (length answer) 3 then ran (run_call (lent words memory rights) limit)
    else record { returned = refusal_number Bound; words = words; memory = memory; answer = answer }

-- ---- read
pub record Filled : Type 0 where
  pub returned : ℕ
  pub buffer : List ℕ

abbrev pub filled : ReadOutcome → Filled
filled o = record { returned = o.verdict.refused; buffer = o.buffer }

unfoldable pub read : List ℕ → List ℕ → List ℕ → ℕ → List ℕ → Filled
read words memory rights va into =
    if whole words then filled (read_call (lent words memory rights) va into)
    else record { returned = refusal_number Bound; buffer = into }

-- ---- write: the record is lent for reading
pub record Written : Type 0 where
  pub returned : ℕ
  pub memory : List ℕ

abbrev pub written : WriteOutcome → Written
written o = record { returned = o.verdict.refused; memory = o.bytes }

unfoldable pub write : List ℕ → List ℕ → List ℕ → ℕ → List ℕ → Written
write words memory rights va from =
    if whole words then written (write_call (lent words memory rights) va from)
    else record { returned = refusal_number Bound; memory = memory }

-- ---- view: the page is copied into a buffer of 4096 bytes, which stays as it is where the view is refused
abbrev pub viewed : List ℕ → ViewOutcome → Filled
viewed into o = record { returned = o.verdict.refused; buffer = if eqb o.verdict.refused 0 then o.part else into }

unfoldable pub view : List ℕ → List ℕ → List ℕ → ℕ → List ℕ → Filled
view words memory rights x into =
    if whole words && eqb (length into) 4096 then viewed into (view_call (lent words memory rights) (virtual x))
    else record { returned = refusal_number Bound; buffer = into }

-- ---- reply
pub record Replied : Type 0 where
  pub returned : ℕ
  pub words : List ℕ

abbrev pub replied : ReplyOutcome → Replied
replied o = record { returned = o.verdict.refused; words = words_of o.plain }

unfoldable pub reply : List ℕ → ℕ → ℕ → Replied
reply words register value =
    if whole words then replied (reply_call (plain_of words) register value)
    else record { returned = refusal_number Bound; words = words }
