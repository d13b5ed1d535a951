-- Each verdict by its ways out, in the order 1, 2, 4, 3.
use mathlib.Core.Path.{◌≡◌, sym, ◌∙◌}
use mathlib.Core.Bool.{Bool, true, false, and-true}
use mathlib.Core.List.{List, []}
use Prim.Native.Nat.{ℕ, ◌≤◌, ◌<◌}
use native.Mathlib.Omega.{arith}
use lib.ListN.{length, get_or}
use borrow.Author.Tests.{eq-eqb, ne_eqb}
use Rattle.std.specs.Prelude.{Ok, Err}
use Rattle.std.specs.Result.{IsErrAnd}
use Rattle.std.proofs.lemmas.Result.{err_from_is_err_and}
use Rattle.model.specs.Answers.{Verdict}
use Rattle.model.specs.Choice.{passes}
use Rattle.model.specs.declared.Refusal.{Refusal}
use Rattle.model.specs.declared.Refusal.TheVariants.{Bound, Unsound}
use Rattle.laws.proofs.Choice.{never}
use Rattle.laws.proofs.Granted.{refused_first}
use Rattle.image.specs.Format.{rights_right}
use Rattle.plainmodel.specs.State.{PlainState, plain_state}
use Rattle.plainmodel.specs.Calls.{fits, sound, plain_verdict}
use Rattle.plainmodel.specs.declared.Plain.{Plain}
use Rattle.plainlaws.specs.Good.{PlainFit, PlainGood}
use Rattle.plainlaws.proofs.Granted.{fit_of, fits_of, plain_granted, plain_onward}
use Rattle.plainverdict.specs.Handed.{handed}

-- ---- refusals 1 and 2, tested in parts
module _ (p : PlainState) where
  pub unfit : (PlainFit p → ⊥) → false ≡ fits p
  unfit f = never _ (λ e. f (fit_of p e))

  pub fit : PlainFit p → true ≡ fits p
  fit f = sym (fits_of p f)

pub many_pages : (ptl : ℕ) (bytes rights : List ℕ) → 1024 < ptl → false ≡ fits (handed ptl 0 bytes rights)
many_pages ptl bytes rights h = unfit _ (λ f. omega (arith, h, f))

module _ (gpr0 : ℕ) (rights : List ℕ) where
  pub zero_wrong : (gpr0 ≡ 0 → ⊥) → false ≡ sound (handed 0 gpr0 [] rights)
  unfolding sound passes
  zero_wrong h = simp (ne_eqb gpr0 0 h)

  pub by_rights_right : gpr0 ≡ 0 → (r : Bool) → r ≡ rights_right rights → r ≡ sound (handed 0 gpr0 [] rights)
  unfolding sound passes
  by_rights_right h r e = simp (eq-eqb gpr0 0 h, e, and-true)

-- ---- the tests after them, by the verdict v on the machine m, which was handed in parts
module _ (m : Plain) (bytes rights : List ℕ) (v : Verdict)
    (e : v ≡ plain_verdict (handed m.ptl (get_or m.gpr 0 0) bytes rights) (Ok tt)) where
  abbrev p : PlainState
  p = plain_state m bytes rights

  is : v ≡ plain_verdict p (Ok tt)
  unfolding plain_verdict fits sound
  is = e

  -- the way out at its refusal
  pub still_refused : (r : Refusal) → v ≡ Err r → (out : Verdict) → IsErrAnd out (λ x. x ≡ r) → (after : Verdict) → out ≡ plain_verdict p after
  unfolding plain_verdict
  still_refused r h out o after =
      let q = err_from_is_err_and out o in
      rw (q.1, q.2) (sym (refused_first (fits p) (sound p) Bound Unsound r after (sym is ∙ h)))

  module _ (h : v ≡ Ok tt) where
    good : PlainGood p
    good = (plain_granted p (Ok tt) (sym is ∙ h)).0

    pub onward : (after : Verdict) → after ≡ plain_verdict p after
    onward after = sym (plain_onward p good after)

    pub few_pages : length rights ≤ 1024
    few_pages = omega (arith, good.fit.rights_long, good.fit.ptl_most)
