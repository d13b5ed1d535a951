-- A line says what its call answered: the number of a refusal, or what the call reports.
use mathlib.Core.Path.{◌≡◌, sym, ap, ◌∙◌}
use mathlib.Core.List.{List, [], ◌∷◌}
use Prim.Native.Nat.{ℕ}
use Rattle.std.specs.Prelude.{Ok, Err}
use Rattle.model.specs.Answers.{refusal_number, stop_number, stop_detail}
use Rattle.model.specs.Console.{refused_line}
use Rattle.model.specs.declared.Refusal.{Refusal}
use Rattle.answerlines.specs.Lines.{numbers_line}
use Rattle.answerlines.proofs.Refused.{refused_text}
use Rattle.script.specs.Vocabulary.{run_word}
use Rattle.script.specs.declared.parts.Numbers.{Numbers}
use Rattle.script.specs.declared.Call.{Call}
use Rattle.plainmodel.specs.State.{PlainState}
use Rattle.plainmodel.specs.Calls.{plain_numbers, RunOutcome, run_outcome, PlainAnswer}
use Rattle.plainmodel.specs.declared.PlainRan.{PlainRan}
use Rattle.plainsession.specs.Answers.{run_text, Answer, answered, Says}

abbrev line : ℕ → ℕ → ℕ → List ℕ
line stop detail finished = numbers_line run_word (stop ∷ detail ∷ finished ∷ [])

module _ (a : PlainAnswer) (p : PlainState) (o : RunOutcome) (e : run_outcome a p ≡ o) where
  pub run_refused : {r : Refusal} {n : ℕ} → a ≡ Err r → n ≡ refusal_number r → refused_line n ≡ run_text o.numbers
  run_refused {r} {n} g h =
      ap refused_line h ∙ refused_text r (line 0 0 0)
      ∙ ap (λ (b : PlainAnswer). run_text (plain_numbers b)) (sym g) ∙ ap (λ (x : RunOutcome). run_text x.numbers) e

  pub run_ran : {r : PlainRan} {stop detail : ℕ} → a ≡ Ok r → stop ≡ stop_number r.stop → detail ≡ stop_detail r.stop → line stop detail r.finished ≡ run_text o.numbers
  run_ran {r} {stop} {detail} g h d =
      ap (λ (n : ℕ). line n detail r.finished) h ∙ ap (λ (n : ℕ). line (stop_number r.stop) n r.finished) d
      ∙ ap (λ (b : PlainAnswer). run_text (plain_numbers b)) (sym g) ∙ ap (λ (x : RunOutcome). run_text x.numbers) e

-- the same answer, said otherwise
pub said_as : {before after : List ℕ} {at to : ℕ} {p : PlainState} {a b : Answer} → Says before at after to p a → a ≡ b → Says before at after to p b
said_as s e = rw e at s

-- the answer of a call c, which is known to be x
pub answered_as : {c x : Call} → c ≡ x → (n : Numbers) (bytes : List ℕ) (p : PlainState) {before after : List ℕ} {at to : ℕ} {q : PlainState}
    → Says before at after to q (answered x n bytes p) → Says before at after to q (answered c n bytes p)
answered_as e n bytes p s = rw e s
