-- The page view: its part is 4096 bytes long where it is granted and empty where it is refused, so its length tells which.
use mathlib.Core.Path.{◌≡◌, refl, sym, ap, ◌∙◌}
use mathlib.Core.Bool.{false}
use mathlib.Core.Logic.{◌⊎◌, inl, inr, ⊎_elim}
use mathlib.Core.List.{List}
use Prim.Native.Nat.{ℕ}
use native.Mathlib.Omega.{arith}
use lib.Dec.{eqb}
use lib.ListN.{length}
use borrow.Author.Tests.{eq-eqb, ne_eqb}
use Rattle.std.specs.Prelude.{Ok, Err}
use Rattle.model.specs.Pages.{virtual}
use Rattle.model.specs.Answers.{verdict_numbers, refusal_number, Verdict}
use Rattle.model.specs.declared.VirtualPage.{VirtualPage}
use Rattle.model.specs.declared.Refusal.TheVariants.{Bound}
use Rattle.laws.proofs.Bytes.{length-page}
use Rattle.laws.proofs.Granted.{some_number}
use Rattle.plainmodel.specs.State.{PlainState, plain_state}
use Rattle.plainmodel.specs.Calls.{view_call, view_verdict}
use Rattle.plainmodel.specs.declared.Plain.{Plain}
use Rattle.plainlaws.proofs.Granted.{view_granted}
use Rattle.plainrecord.specs.Words.{record_length, plain_of}
use Rattle.plaincapi.specs.Calls as calls

module _ (p : PlainState) (x : VirtualPage) where
  -- granted with a whole page, or refused with none
  pub record Granting : Type 0 where
    pub number : (view_call p x).verdict.refused ≡ 0
    pub long : length (view_call p x).part ≡ 4096

  pub record Refusing : Type 0 where
    pub number : eqb (view_call p x).verdict.refused 0 ≡ false
    pub long : length (view_call p x).part ≡ 0

  either : Granting ⊎ Refusing
  unfolding view_call
  either = pick (view_verdict p x) refl
    where
      pick : (v : Verdict) → view_verdict p x ≡ v → Granting ⊎ Refusing
      pick (Ok tt) e =
          let k = view_granted p x e in
          inl (record {
            number = simp e;
            long = simp e (length-page p.bytes x.0 (omega (arith, k.0.fit.bytes_long, k.0.fit.rights_long, k.1)));
          })
      pick (Err r) e = inr (record { number = simp e (some_number r); long = simp e })

  pub granting : length (view_call p x).part ≡ 4096 → Granting
  granting h = ⊎_elim (λ (g : Granting). g) (λ (g : Refusing). absurd (omega (arith, h, g.long))) either

  pub refusing : (length (view_call p x).part ≡ 4096 → ⊥) → Refusing
  refusing h = ⊎_elim (λ (g : Granting). absurd (h g.long)) (λ (g : Refusing). g) either

module _ (words memory rights : List ℕ) (x : ℕ) (into : List ℕ) where
  pub view_short : (length words ≡ record_length → ⊥) → record { returned = refusal_number Bound; buffer = into } ≡ calls.view words memory rights x into
  unfolding calls.view
  view_short n = simp (ne_eqb _ _ n)

  module _ (e : length words ≡ record_length) where
    pub view_narrow : (length into ≡ 4096 → ⊥) → record { returned = refusal_number Bound; buffer = into } ≡ calls.view words memory rights x into
    unfolding calls.view
    view_narrow n = simp (eq-eqb _ _ e, ne_eqb _ _ n)

    module _ (f : length into ≡ 4096) (m : Plain) (em : m ≡ plain_of words) (part : List ℕ) (ep : part ≡ (view_call (plain_state m memory rights) (virtual x)).part) where
      pub view_refused : (length part ≡ 4096 → ⊥) → (v : Verdict) → verdict_numbers v ≡ (view_call (plain_state m memory rights) (virtual x)).verdict
          → (r : ℕ) → r ≡ (verdict_numbers v).refused → record { returned = r; buffer = into } ≡ calls.view words memory rights x into
      unfolding calls.view
      view_refused h v ev r er =
          let g = refusing (plain_state m memory rights) (virtual x) (λ q. h (ap length ep ∙ q)) in
          simp (eq-eqb _ _ e, eq-eqb _ _ f, ← em, g.number, er, ev)

      pub view_done : length part ≡ 4096 → (b : List ℕ) → b ≡ part → record { returned = 0; buffer = b } ≡ calls.view words memory rights x into
      unfolding calls.view
      view_done h b eb =
          let g = granting (plain_state m memory rights) (virtual x) (sym (ap length ep) ∙ h) in
          simp (eq-eqb _ _ e, eq-eqb _ _ f, ← em, g.number, eb, ep)
