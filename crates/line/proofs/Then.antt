-- A reading and what follows it: a value goes on, a refusal stays.
use mathlib.Core.Path.{◌≡◌, sym, ap, ◌∙◌}
use Prim.Native.Nat.{ℕ}
use Rattle.std.specs.Prelude.{Ok, Err}
use Rattle.model.specs.declared.Refusal.{Refusal}
use Rattle.notation.specs.Sums.{and_then}
use Rattle.notation.specs.Answers.{Parsed, wrong}

module _ (p q : Parsed) (e : q ≡ p) (onto : ℕ → ℕ → Parsed) where
  pub stays : {r : Refusal} {k : ℕ} → q ≡ Err (wrong r k) → Err (wrong r k) ≡ and_then p onto
  stays h = sym (ap (λ t. and_then t onto) (sym e ∙ h))

  pub goes_on : {v n : ℕ} {x : Parsed} → q ≡ Ok (v, n) → x ≡ onto v n → x ≡ and_then p onto
  goes_on h t = t ∙ sym (ap (λ u. and_then u onto) (sym e ∙ h))
