-- A line says what its call answered: the numbers of a refusal, or what the call reports.
use mathlib.Core.Path.{◌≡◌, sym, ap, ◌∙◌}
use mathlib.Core.List.{List, [], ◌∷◌}
use Prim.Native.Nat.{ℕ}
use Rattle.std.specs.Prelude.{Ok, Err}
use Rattle.model.specs.State.{State}
use Rattle.model.specs.Answers.{refusal_number, stop_number, stop_detail, run_numbers, RunAnswer}
use Rattle.model.specs.Console.{refused_line}
use Rattle.model.specs.Calls.{RunOutcome, run_outcome}
use Rattle.model.specs.declared.Ran.{Ran}
use Rattle.model.specs.declared.Refusal.{Refusal}
use Rattle.answerlines.specs.Lines.{numbers_line}
use Rattle.answerlines.proofs.Refused.{refused_text}
use Rattle.script.specs.Vocabulary.{run_word}
use Rattle.script.specs.declared.parts.Numbers.{Numbers}
use Rattle.script.specs.declared.Call.{Call}
use Rattle.session.specs.Answers.{run_text, Answer, answered, Says}

abbrev pub line : ℕ → ℕ → ℕ → ℕ → ℕ → List ℕ
line stop detail finished loads copied = numbers_line run_word (stop ∷ detail ∷ finished ∷ loads ∷ copied ∷ [])

module _ (a : RunAnswer) (p : State) (o : RunOutcome) (e : run_outcome a p ≡ o) where
  pub run_refused : {r : Refusal} {n : ℕ} → a ≡ Err r → n ≡ refusal_number r → refused_line n ≡ run_text o.numbers
  run_refused {r} {n} g h =
      ap refused_line h ∙ refused_text r (line 0 0 0 0 0)
      ∙ ap (λ (b : RunAnswer). run_text (run_numbers b)) (sym g) ∙ ap (λ (x : RunOutcome). run_text x.numbers) e

  pub run_ran : {r : Ran} {stop detail : ℕ} → a ≡ Ok r → stop ≡ stop_number r.stop → detail ≡ stop_detail r.stop
      → line stop detail r.finished r.loads r.copied ≡ run_text o.numbers
  run_ran {r} {stop} {detail} g h d =
      ap (λ (n : ℕ). line n detail r.finished r.loads r.copied) h
      ∙ ap (λ (n : ℕ). line (stop_number r.stop) n r.finished r.loads r.copied) d
      ∙ ap (λ (b : RunAnswer). run_text (run_numbers b)) (sym g) ∙ ap (λ (x : RunOutcome). run_text x.numbers) e

-- the same answer, said otherwise
pub said_as : {before after : List ℕ} {at to : ℕ} {p : State} {a b : Answer} → Says before at after to p a → a ≡ b → Says before at after to p b
said_as s e = rw e at s

-- the answer of a call c, which is known to be x
pub answered_as : {c x : Call} → c ≡ x → (n : Numbers) (bytes : List ℕ) (p : State) {before after : List ℕ} {at to : ℕ} {q : State}
    → Says before at after to q (answered x n bytes p) → Says before at after to q (answered c n bytes p)
answered_as e n bytes p s = rw e s
