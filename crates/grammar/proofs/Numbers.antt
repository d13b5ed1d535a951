-- No two answers of a call have the same numbers: each is told by them.
use mathlib.Core.Path.{◌≡◌, refl, sym, ap}
use Prim.Native.Nat.{ℕ}
use Rattle.std.specs.Prelude.{Ok, Err}
use Rattle.model.specs.declared.Refusal.{Refusal}
use Rattle.laws.proofs.Numbers.{refusal_told}
use Rattle.laws.proofs.Granted.{refused}
use Rattle.notation.specs.Calls.{AssembleNumbers, assemble_numbers, ListNumbers, list_numbers}
use Rattle.notation.specs.Answers.{AssembleAnswer, not_assembled, ListAnswer}

-- ---- assemble: the number of the refusal, the length, the line and the column
assemble_refused : AssembleNumbers → ℕ
assemble_refused n = n.verdict.refused

same_refusal : {r r' : Refusal} {l l' c c' : ℕ} → r ≡ r' → l ≡ l' → c ≡ c' → not_assembled r l c ≡ not_assembled r' l' c'
same_refusal p q s = rw (p, q, s) refl

pub assemble_told : (x y : AssembleAnswer) → assemble_numbers x ≡ assemble_numbers y → x ≡ y
unfolding assemble_refused
assemble_told (Ok n) (Ok n') e = ap (λ (k : AssembleNumbers). Ok k.length) e
assemble_told (Ok n) (Err w) e = refused w.refusal (sym (ap assemble_refused e))
assemble_told (Err w) (Ok n) e = refused w.refusal (ap assemble_refused e)
assemble_told (Err w) (Err x) e =
    ap Err (same_refusal (refusal_told w.refusal x.refusal (ap assemble_refused e)) (ap (λ (k : AssembleNumbers). k.line) e)
    (ap (λ (k : AssembleNumbers). k.column) e))

-- ---- list: the number of the refusal and the length
list_refused : ListNumbers → ℕ
list_refused n = n.verdict.refused

pub list_told : (x y : ListAnswer) → list_numbers x ≡ list_numbers y → x ≡ y
unfolding list_refused
list_told (Ok n) (Ok n') e = ap (λ (k : ListNumbers). Ok k.length) e
list_told (Ok n) (Err r) e = refused r (sym (ap list_refused e))
list_told (Err r) (Ok n) e = refused r (ap list_refused e)
list_told (Err r) (Err r') e = ap Err (refusal_told r r' (ap list_refused e))
