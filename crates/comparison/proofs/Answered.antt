-- A run's line says what the run answered, without loads and copies.
use mathlib.Core.Path.{◌≡◌, sym, ap, ◌∙◌}
use mathlib.Core.List.{List, [], ◌∷◌}
use Prim.Native.Nat.{ℕ}
use Rattle.std.specs.Prelude.{Ok, Err}
use Rattle.model.specs.State.{State}
use Rattle.model.specs.Answers.{refusal_number, stop_number, stop_detail, run_numbers, RunAnswer}
use Rattle.model.specs.Console.{refused_line}
use Rattle.model.specs.Calls.{RunOutcome, run_outcome}
use Rattle.model.specs.declared.Ran.{Ran}
use Rattle.model.specs.declared.Refusal.{Refusal}
use Rattle.answerlines.specs.Lines.{numbers_line}
use Rattle.answerlines.proofs.Refused.{refused_text}
use Rattle.script.specs.Vocabulary.{run_word}
use Rattle.script.specs.declared.parts.Numbers.{Numbers}
use Rattle.script.specs.declared.Call.{Call}
use Rattle.session.specs.Answers.{Says}
use Rattle.comparison.specs.Answers.{run_text, paged_answered}

abbrev line : ℕ → ℕ → ℕ → List ℕ
line stop detail finished = numbers_line run_word (stop ∷ detail ∷ finished ∷ [])

module _ (a : RunAnswer) (p : State) (o : RunOutcome) (e : run_outcome a p ≡ o) where
  as_answered : {b : RunAnswer} → a ≡ b → run_text (run_numbers b) ≡ run_text o.numbers
  as_answered g = ap (λ (x : RunAnswer). run_text (run_numbers x)) (sym g) ∙ ap (λ (x : RunOutcome). run_text x.numbers) e

  pub run_refused : {r : Refusal} {n : ℕ} → a ≡ Err r → n ≡ refusal_number r → refused_line n ≡ run_text o.numbers
  run_refused {r} {n} g h = ap refused_line h ∙ refused_text r (line 0 0 0) ∙ as_answered g

  pub run_ran : {r : Ran} {stop detail : ℕ} → a ≡ Ok r → stop ≡ stop_number r.stop → detail ≡ stop_detail r.stop
      → line stop detail r.finished ≡ run_text o.numbers
  run_ran {r} {stop} {detail} g h d =
      ap (λ (n : ℕ). line n detail r.finished) h ∙ ap (λ (n : ℕ). line (stop_number r.stop) n r.finished) d ∙ as_answered g

-- the answer of a call c, which is known to be x
pub answered_as : {c x : Call} → c ≡ x → (n : Numbers) (bytes : List ℕ) (p : State) {before after : List ℕ} {at to : ℕ} {q : State}
    → Says before at after to q (paged_answered x n bytes p) → Says before at after to q (paged_answered c n bytes p)
answered_as e n bytes p s = rw e s
