-- A line says what its call answered: the number of a refusal, or what the call reports.
use mathlib.Core.Path.{◌≡◌, sym, ap, ◌∙◌}
use mathlib.Core.List.{List}
use Prim.Native.Nat.{ℕ}
use Rattle.std.specs.Prelude.{Ok, Err}
use Rattle.model.specs.Answers.{refusal_number, VerdictNumbers, verdict_numbers, Verdict}
use Rattle.model.specs.Console.{refused_line, or_refused}
use Rattle.model.specs.declared.Refusal.{Refusal}
use Rattle.laws.proofs.Granted.{some_number}

pub refused_text : (r : Refusal) (line : List ℕ) → refused_line (refusal_number r) ≡ or_refused (verdict_numbers (Err r)) line
refused_text r line = simp (some_number r)

-- a verdict v, and the number n that is printed for it
module _ (v : Verdict) (k : VerdictNumbers) (e : verdict_numbers v ≡ k) (line : List ℕ) where
  pub verdict_refused : {r : Refusal} {n : ℕ} → v ≡ Err r → n ≡ refusal_number r → refused_line n ≡ or_refused k line
  verdict_refused {r} {n} g h =
      ap refused_line h ∙ refused_text r line ∙ ap (λ (j : VerdictNumbers). or_refused j line) (sym (ap verdict_numbers g) ∙ e)

  pub verdict_granted : v ≡ Ok tt → line ≡ or_refused k line
  verdict_granted g = ap (λ (j : VerdictNumbers). or_refused j line) (sym (ap verdict_numbers g) ∙ e)
