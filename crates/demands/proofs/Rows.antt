-- Rows that calls of the paged machine and of the plain engine share: their tests, one after another, decide by the first row that applies.
use mathlib.Core.Path.{◌≡◌, refl}
use mathlib.Core.Bool.{Bool, true, ◌&&◌}
use mathlib.Core.List.{List, [], ◌∷◌}
use Prim.Native.Nat.{ℕ, ◌<◌}
use native.Mathlib.Omega.{arith}
use lib.Dec.{leb}
use Rattle.std.specs.Prelude.{Ok}
use Rattle.model.specs.Answers.{verdict_numbers, Verdict}
use Rattle.model.specs.Calls.{unless, reply_verdict}
use Rattle.model.specs.Image.{known, well_formed, image_verdict}
use Rattle.model.specs.declared.Refusal.TheVariants.{Bound, Unsound, Rights, TooMuch, Edition, Format}
use Rattle.laws.specs.Formed.{Formed}
use Rattle.demands.specs.Refusals.{Row, ◌when◌, ◌unless◌}
use Rattle.demands.specs.Conditions.{RunTooLong, TransferTooLong, Register, UnknownImage}
use Rattle.demands.specs.Demand1.{image_rows}
use Rattle.demands.proofs.Decide.{Tells, First, first_unless, last_unless}
use Rattle.demands.proofs.Told.{too_long_told, register_told, unknown_told, rule_told}

-- 1 and 2, and then the call's own
pub machine_first : (a b : Bool) (fits sound : Type 0) (v : Verdict) (own : List Row) → Tells a (◌unless◌ 1 fits)
    → (a ≡ true → Tells b (◌unless◌ 2 sound)) → First (verdict_numbers v).refused own
    → First (verdict_numbers ((unless) a Bound ((unless) b Unsound v))).refused (◌unless◌ 1 fits ∷ ◌unless◌ 2 sound ∷ own)
machine_first a b fits sound v own s t f =
    first_unless a Bound _ (◌unless◌ 1 fits) (◌unless◌ 2 sound ∷ own) refl s
    (λ q. first_unless b Unsound v (◌unless◌ 2 sound) own refl (t q) (λ r. f))

pub run_first : (n : ℕ) → First (verdict_numbers ((unless) (leb n 1000000) TooMuch (Ok tt))).refused (4 when RunTooLong n ∷ [])
run_first n =
    last_unless (leb n 1000000) TooMuch (4 when RunTooLong n) refl
    (too_long_told 1000000 n (RunTooLong n) (λ h. omega (arith, h)) (λ h. omega (arith, h)))

-- a transfer of n bytes, some of which may be denied
pub transfer_first : (permitted : Bool) (n : ℕ) (denied : Type 0) → Tells permitted (3 when denied)
    → First (verdict_numbers ((unless) (leb n 256) TooMuch ((unless) permitted Rights (Ok tt)))).refused
    (4 when TransferTooLong n ∷ 3 when denied ∷ [])
transfer_first permitted n denied t =
    first_unless (leb n 256) TooMuch _ (4 when TransferTooLong n) (3 when denied ∷ []) refl
    (too_long_told 256 n (TransferTooLong n) (λ h. omega (arith, h)) (λ h. omega (arith, h)))
    (λ q. last_unless permitted Rights (3 when denied) refl t)

-- none of no bytes is
pub none_denied : {denied : ℕ → Type 0} → ¬ ((i : ℕ) × (i < 0) × denied i)
none_denied d = omega (arith, d.1)

pub reply_first : (i : ℕ) → First (verdict_numbers (reply_verdict i)).refused (◌unless◌ 4 (Register i) ∷ [])
unfolding reply_verdict
reply_first i = last_unless (leb 1 i && leb i 31) TooMuch (◌unless◌ 4 (Register i)) refl (register_told i)

pub image_first : (l : List ℕ) (v : Verdict) (own : List Row) → First (verdict_numbers v).refused own
    → First (verdict_numbers (image_verdict l v)).refused (image_rows l own)
unfolding image_verdict
image_first l v own f =
    first_unless (known l) Edition _ (5 when UnknownImage l) (◌unless◌ 6 (Formed l) ∷ own) refl (unknown_told l)
    (λ q. first_unless (well_formed l) Format v (◌unless◌ 6 (Formed l)) own refl (rule_told l) (λ s. f))
