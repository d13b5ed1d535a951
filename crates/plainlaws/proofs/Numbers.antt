-- No two answers of a run on the plain engine have the same numbers: each is told by them.
use mathlib.Core.Path.{◌≡◌, sym, ap, ap₂}
use Prim.Native.Nat.{ℕ}
use Rattle.std.specs.Prelude.{Ok, Err}
use Rattle.laws.proofs.Numbers.{refusal_told, stop_told}
use Rattle.laws.proofs.Granted.{refused}
use Rattle.plainmodel.specs.Calls.{PlainNumbers, plain_numbers, PlainAnswer}

plain_refused : PlainNumbers → ℕ
plain_refused n = n.verdict.refused

pub plain_told : (x y : PlainAnswer) → plain_numbers x ≡ plain_numbers y → x ≡ y
unfolding plain_refused
plain_told (Ok a) (Ok b) e =
    ap₂ (λ s n. Ok (record { stop = s; finished = n })) (stop_told a.stop b.stop (ap (λ (k : PlainNumbers). k.stop) e) (ap (λ (k : PlainNumbers). k.detail) e))
    (ap (λ (k : PlainNumbers). k.finished) e)
plain_told (Ok a) (Err r) e = refused r (sym (ap plain_refused e))
plain_told (Err r) (Ok a) e = refused r (ap plain_refused e)
plain_told (Err r) (Err r') e = ap Err (refusal_told r r' (ap plain_refused e))
