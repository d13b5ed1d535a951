-- What each call of a script leaves of the paged machine, and the line that answers it. The lines are those of `series`, but a run's:
-- loads and copies are not the plain engine's business. So the lines of both machines are equal exactly where their answers are.
use Rattle.std.specs.Prelude.{List, [], ◌∷◌, ℕ}
use Rattle.model.specs.State.{State}
use Rattle.model.specs.Answers.{RunNumbers}
use Rattle.model.specs.Calls.{RunOutcome, run_call}
use Rattle.model.specs.Console.{or_refused}
use Rattle.answerlines.specs.Lines.{numbers_line}
use Rattle.script.specs.Vocabulary.{run_word}
use Rattle.script.specs.declared.parts.Numbers.{Numbers}
use Rattle.script.specs.declared.Call.{Call}
use Rattle.script.specs.declared.Call.TheVariants.{Run, Read, Write, View, Reply, Registers}
use Rattle.session.specs.Answers.{Answer, told, answered}

-- `run STOP DETAIL FINISHED`
abbrev pub run_text : RunNumbers → List ℕ
run_text r = or_refused r.verdict (numbers_line run_word (r.stop ∷ r.detail ∷ r.finished ∷ []))

abbrev pub ran : RunOutcome → Answer
ran o = told o.state (run_text o.numbers)

-- each call, by its numbers and the bytes of its HEX
unfoldable pub paged_answered : Call → Numbers → List ℕ → State → Answer
paged_answered Run n bytes p = ran (run_call p n.first)
paged_answered Read n bytes p = answered Read n bytes p
paged_answered Write n bytes p = answered Write n bytes p
paged_answered View n bytes p = answered View n bytes p
paged_answered Reply n bytes p = answered Reply n bytes p
paged_answered Registers n bytes p = answered Registers n bytes p
