-- The tests of the plain engine pass exactly where the facts of specs/Good hold, and what a granted call has passed: every page that a
-- transfer or a view meets has rights (`host_inside`, `view_inside`). A good machine is refused neither by 1 nor by 2 (`plain_onward`).
use mathlib.Core.Path.{◌≡◌, refl, sym, ◌∙◌}
use mathlib.Core.Bool.{Bool, true, false, ◌&&◌}
use mathlib.Core.List.{List}
use Prim.Native.Nat.{ℕ, ◌+◌, ◌<◌}
use lib.Dec.{leb, ltb}
use lib.ListN.{length, get_or}
use borrow.Author.Tests.{ltb-true, leb-true, eqb-true, le-leb, eq-eqb}
use Rattle.std.specs.Prelude.{if◌then◌else◌, Ok}
use Rattle.model.specs.Answers.{Verdict}
use Rattle.model.specs.Pages.{page_of}
use Rattle.model.specs.Translate.{legal}
use Rattle.model.specs.Flat.{grants, allow}
use Rattle.model.specs.Calls.{unless}
use Rattle.model.specs.declared.Access.TheVariants.{Illegal, At}
use Rattle.model.specs.declared.VirtualPage.{VirtualPage}
use Rattle.model.specs.declared.Refusal.TheVariants.{Bound, Unsound, Rights, TooMuch}
use Rattle.laws.proofs.Choice.{and_left, every_at, every_from, pass, pass_none, pass_more}
use Rattle.laws.proofs.Granted.{unless_granted}
use Rattle.plainmodel.specs.State.{PlainState}
use Rattle.plainmodel.specs.Calls.{fits, sound, plain_verdict, run_verdict, permitted, host_verdict, viewable, view_verdict}
use Rattle.plainlaws.specs.Good.{PlainFit, PlainSound, PlainGood, InRights}

-- ---- tests and facts
module _ (p : PlainState) where
  pub fit_of : fits p ≡ true → PlainFit p
  unfolding fits
  fit_of e = record {
    ptl_least = leb-true _ _ (pass _ e 0);
    ptl_most = leb-true _ _ (pass _ e 1);
    bytes_long = eqb-true _ _ (pass _ e 2);
    rights_long = eqb-true _ _ (pass _ e 3);
  }

  pub fits_of : PlainFit p → fits p ≡ true
  unfolding fits
  fits_of f =
      pass_more _ _ (le-leb _ _ f.ptl_least) (pass_more _ _ (le-leb _ _ f.ptl_most)
      (pass_more _ _ (eq-eqb _ _ f.bytes_long) (pass_more _ _ (eq-eqb _ _ f.rights_long) pass_none)))

  pub sound_facts : sound p ≡ true → PlainSound p
  unfolding sound
  sound_facts e = record {
    zero = eqb-true _ _ (pass _ e 0);
    rights_most = λ x q. leb-true _ _ (every_at (length p.rights) _ (pass _ e 1) x q);
  }

  pub sound_of : PlainSound p → sound p ≡ true
  unfolding sound
  sound_of s =
      pass_more _ _ (eq-eqb _ _ s.zero)
      (pass_more _ _ (every_from (length p.rights) _ (λ x q. le-leb _ _ (s.rights_most x q))) pass_none)

  -- ---- 1 and 2
  pub plain_granted : (v : Verdict) → plain_verdict p v ≡ Ok tt → PlainGood p × (v ≡ Ok tt)
  unfolding plain_verdict
  plain_granted v e =
      let f = unless_granted (fits p) Bound _ e in
      let s = unless_granted (sound p) Unsound v f.1 in
      (record { fit = fit_of f.0; sound = sound_facts s.0 }, s.1)

  pub plain_onward : PlainGood p → (after : Verdict) → plain_verdict p after ≡ after
  unfolding plain_verdict
  plain_onward g after = rw (fits_of g.fit, sound_of g.sound)

  pub run_good : (n : ℕ) → run_verdict p n ≡ Ok tt → PlainGood p
  unfolding run_verdict
  run_good n e = (plain_granted _ e).0

-- ---- an access is legal exactly where its page has rights, and among them the one asked for
pub legal_allow : (rights : List ℕ) (w : Bool) (va : ℕ)
    → legal (allow rights w va) ≡ (ltb (page_of va).0 (length rights) && grants w (get_or rights (page_of va).0 0))
unfolding allow
legal_allow rights w va = by (ltb (page_of va).0 (length rights)) (grants w (get_or rights (page_of va).0 0))
  where
    by : (inside holds : Bool) → legal (if inside then (if holds then At va else Illegal) else Illegal) ≡ (inside && holds)
    by true true = refl
    by true false = refl
    by false holds = refl

-- a transfer that is permitted lies in pages that have rights
pub permitted_inside : (w : Bool) (rights : List ℕ) (va n : ℕ) → permitted w rights va n ≡ true → InRights rights va n
unfolding permitted
permitted_inside w rights va n e i q =
    ltb-true _ _ (and_left _ _ (sym (legal_allow rights w (va + i)) ∙ every_at n _ e i q))

-- ---- 3 and 4
module _ (p : PlainState) where
  pub host_granted : (w : Bool) (va n : ℕ) → host_verdict w p va n ≡ Ok tt → PlainGood p × InRights p.rights va n
  unfolding host_verdict
  host_granted w va n e =
      let m : Bool = permitted w p.rights va n in
      let g = plain_granted p _ e in (
        g.0,
        permitted_inside w p.rights va n
            (unless_granted m Rights (Ok tt) (unless_granted (leb n 256) TooMuch (unless m Rights (Ok tt)) g.1).1).0,
      )

  pub view_granted : (x : VirtualPage) → view_verdict p x ≡ Ok tt → PlainGood p × (x.0 < length p.rights)
  unfolding view_verdict viewable
  view_granted x e =
      let g = plain_granted p _ e in
      (g.0, ltb-true _ _ (and_left _ _ (unless_granted (viewable p.rights x) Rights (Ok tt) g.1).0))
