-- Tests in a row, each with its refusal, decide as the table of refusals says, where each test tells whether its row applies.
use mathlib.Core.Path.{◌≡◌, refl, sym, ap, subst, ◌∙◌}
use mathlib.Core.Logic.{◌⊎◌, inl, inr}
use mathlib.Core.Bool.{Bool, true, false, true≢false}
use mathlib.Core.List.{List, [], ◌∷◌}
use Prim.Native.Nat.{ℕ}
use Rattle.std.specs.Prelude.{Ok, Err}
use Rattle.model.specs.Answers.{refusal_number, VerdictNumbers, verdict_numbers, Verdict}
use Rattle.model.specs.Calls.{unless}
use Rattle.model.specs.declared.Refusal.{Refusal}
use Rattle.demands.specs.Refusals.{Row, ◌when◌, ◌unless◌, number, Applies, Passed, Exactly, Listed, Decided}

-- no row both applies and does not
apart : (r : Row) → Applies r → Passed r → ⊥
apart (n when c) a p = p a
apart (◌unless◌ n k) a p = a p

-- the test fails where the row applies, and passes where it does not
pub record Tells (test : Bool) (r : Row) : Type 0 where
  pub fails : test ≡ false → Applies r
  pub passes : test ≡ true → Passed r

-- a test that passes exactly where the rule is kept
pub tells_unless : {test : Bool} {n : ℕ} {rule : Type 0} → (test ≡ true → rule) → (rule → test ≡ true) → Tells test (◌unless◌ n rule)
tells_unless to back = record { fails = λ e k. true≢false (sym (back k) ∙ e); passes = to }

-- ---- the answer is the number of the first row that applies, or 0
abbrev pub First : ℕ → List Row → Type 0
First answer [] = answer ≡ 0
First answer (r ∷ rows) = (Applies r × (answer ≡ number r)) ⊎ (Passed r × First answer rows)

pub first_unless : (test : Bool) (x : Refusal) (v : Verdict) (r : Row) (rows : List Row) → refusal_number x ≡ number r → Tells test r
    → (test ≡ true → First (verdict_numbers v).refused rows) → First (verdict_numbers ((unless) test x v)).refused (r ∷ rows)
first_unless true x v r rows e t after = inr (t.passes refl, after refl)
first_unless false x v r rows e t after = inl (t.fails refl, e)

pub last_unless : (test : Bool) (x : Refusal) (r : Row) → refusal_number x ≡ number r → Tells test r
    → First (verdict_numbers ((unless) test x (Ok tt))).refused (r ∷ [])
last_unless test x r e t = first_unless test x (Ok tt) r [] e t (λ q. refl)

-- ---- rows whose numbers differ, also from 0
abbrev pub Unlisted : ℕ → List Row → Type 0
Unlisted n [] = ¬ (n ≡ 0)
Unlisted n (r ∷ rows) = (¬ (n ≡ number r)) × Unlisted n rows

abbrev pub Differ : List Row → Type 0
Differ [] = Unit
Differ (r ∷ rows) = Unlisted (number r) rows × Differ rows

-- where an earlier row applies none of these is answered
nowhere : (answer : ℕ) (before : Type 0) (rows : List Row) → ¬ before → Unlisted answer rows → Exactly answer before rows
nowhere answer before [] n f = (λ e. absurd (f e), λ b. absurd (n b))
nowhere answer before (r ∷ rows) n f = (
  (λ e. absurd (f.0 e), λ h. absurd (n h.0)),
  nowhere answer (before × Passed r) rows (λ h. n h.0) f.1,
)

listed : (answer : ℕ) (rows : List Row) → First answer rows → Listed answer rows
listed answer [] e = e
listed answer (r ∷ rows) (inl h) = inl h.1
listed answer (r ∷ rows) (inr h) = inr (listed answer rows h.1)

not_listed : (answer : ℕ) (rows : List Row) → Unlisted answer rows → Listed answer rows → ⊥
not_listed answer [] f l = f l
not_listed answer (r ∷ rows) f (inl l) = f.0 l
not_listed answer (r ∷ rows) f (inr l) = not_listed answer rows f.1 l

exactly : (answer : ℕ) (before : Type 0) (rows : List Row) → before → Differ rows → First answer rows → Exactly answer before rows
exactly answer before [] b d f = (λ e. b, λ h. f)
exactly answer before (r ∷ rows) b d (inl h) = (
  (λ e. (b, h.0), λ t. h.1),
  nowhere answer (before × Passed r) rows (λ t. apart r h.0 t.1) (subst (λ n. Unlisted n rows) (sym h.1) d.0),
)
exactly answer before (r ∷ rows) b d (inr h) = (
  (
    λ e. absurd (not_listed answer rows (subst (λ n. Unlisted n rows) (sym e) d.0) (listed answer rows h.1)),
    λ t. absurd (apart r t.1 h.0),
  ),
  exactly answer (before × Passed r) rows (b, h.0) d.1 h.1,
)

decided : {answer : ℕ} (rows : List Row) → Differ rows → First answer rows → Decided answer rows
decided {answer} rows d f = record { exactly = exactly answer Unit rows tt d f; no_other = listed answer rows f }

-- ---- an outcome for each verdict, which it tells: where the verdict refuses, what `refusing` makes of it
pub record Answering {O : Type 0} (told : O → VerdictNumbers) (refusing : VerdictNumbers → O) (out : Verdict → O) : Type 0 where
  pub taken : told (out (Ok tt)) ≡ verdict_numbers (Ok tt)
  pub refused : (x : Refusal) → out (Err x) ≡ refusing (verdict_numbers (Err x))
  pub named : (v : VerdictNumbers) → told (refusing v) ≡ v

module _ {O : Type 0} {told : O → VerdictNumbers} {refusing : VerdictNumbers → O} {out : Verdict → O} (a : Answering told refusing out) where
  answers : (v : Verdict) → verdict_numbers v ≡ told (out v)
  answers (Ok tt) = sym a.taken
  answers (Err x) = sym (ap told (a.refused x) ∙ a.named (verdict_numbers (Err x)))

  pub decides : (v : Verdict) (rows : List Row) → Differ rows → First (verdict_numbers v).refused rows → Decided (told (out v)).refused rows
  decides v rows d f = subst (λ (k : VerdictNumbers). Decided k.refused rows) (answers v) (decided rows d f)

  pub unchanged : (v : Verdict) → ¬ ((told (out v)).refused ≡ 0) → out v ≡ refusing (told (out v))
  unchanged (Ok tt) n = absurd (n (ap (λ (k : VerdictNumbers). k.refused) a.taken))
  unchanged (Err x) n = a.refused x ∙ ap refusing (answers (Err x))
