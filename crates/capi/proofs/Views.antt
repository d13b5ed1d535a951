-- The page view: its part is 4096 bytes long where it is granted and empty where it is refused, so its length tells which.
use mathlib.Core.Path.{◌≡◌, refl, ap, ◌∙◌}
use mathlib.Core.Bool.{Bool, true, false}
use mathlib.Core.Logic.{◌⊎◌, inl, inr, ⊎_elim}
use mathlib.Core.List.{List, ◌++◌, append-nil}
use Prim.Native.Nat.{ℕ, ◌+◌, ◌<◌, ◌≤◌}
use native.Mathlib.Omega.{arith}
use lib.Dec.{eqb}
use lib.ListN.{length, take, drop_of_length-le}
use lib.Seq.{take_all}
use borrow.Author.Tests.{eq-eqb, ne_eqb}
use Rattle.std.specs.Prelude.{Ok, Err}
use Rattle.model.specs.Bytes.{page, with_page}
use Rattle.model.specs.Pages.{virtual}
use Rattle.model.specs.Table.{entry, ppx, valid}
use Rattle.model.specs.State.{State, Memory, state}
use Rattle.model.specs.Answers.{verdict_numbers, refusal_number, Verdict}
use Rattle.model.specs.Calls.{view_call, view_verdict, page_bytes}
use Rattle.model.specs.declared.Shape.{Shape}
use Rattle.model.specs.declared.Machine.{Machine}
use Rattle.model.specs.declared.VirtualPage.{VirtualPage}
use Rattle.model.specs.declared.Refusal.TheVariants.{Bound}
use Rattle.laws.proofs.Bytes.{length-page}
use Rattle.laws.proofs.Granted.{some_number}
use Rattle.host.specs.Home.{Reachable}
use Rattle.host.proofs.Leans.{view_leans}
use Rattle.record.specs.Words.{record_length, machine_of}
use Rattle.record.proofs.Words.{length_held}
use Rattle.capi.specs.Calls as calls

length-bytes : (s : Shape) (m : Memory) (x : VirtualPage) → Reachable s m.main (length m.swap) → x.0 < s.ptl → length (page_bytes s m x) ≡ 4096
unfolding page_bytes
length-bytes s m x lent inside = pick (valid (entry s m.main x)) refl
  where
    pick : (b : Bool) → valid (entry s m.main x) ≡ b → length (page_bytes s m x) ≡ 4096
    pick true v =
        rw v (length-page m.main (ppx (entry s m.main x)).0
        (omega (arith, (lent.safe.framed x inside v).1, lent.safe.fit.frames_in, lent.safe.fit.main_long)))
    pick false v = rw v (length-page m.swap (s.sbase + x.0) (omega (arith, lent.whole)))

module _ (p : State) (x : VirtualPage) (array : length p.machine.book.held ≡ 32) where
  -- granted with a whole page, or refused with none
  pub record Granting : Type 0 where
    pub number : (view_call p x).verdict.refused ≡ 0
    pub long : length (view_call p x).part ≡ 4096

  pub record Refusing : Type 0 where
    pub number : eqb (view_call p x).verdict.refused 0 ≡ false
    pub long : length (view_call p x).part ≡ 0

  either : Granting ⊎ Refusing
  unfolding view_call
  either = pick (view_verdict p x) refl
    where
      pick : (v : Verdict) → view_verdict p x ≡ v → Granting ⊎ Refusing
      pick (Ok tt) e =
          let k = view_leans p array x (view_verdict p x) refl e in
          inl (record { number = simp e; long = simp e (length-bytes p.machine.shape p.memory x k.0 k.1) })
      pick (Err r) e = inr (record { number = simp e (some_number r); long = simp e })

  pub granting : 4096 ≤ length (view_call p x).part → Granting
  granting h = ⊎_elim (λ (g : Granting). g) (λ (g : Refusing). absurd (omega (arith, h, g.long))) either

  pub refusing : length (view_call p x).part < 4096 → Refusing
  refusing h = ⊎_elim (λ (g : Granting). absurd (omega (arith, h, g.long))) (λ (g : Refusing). g) either

-- a whole page over a buffer of one page
pub over_page : (into part : List ℕ) → length into ≡ 4096 → length part ≡ 4096 → with_page into 0 (page part 0) ≡ part
unfolding with_page page
over_page into part e f =
    ap (λ z. take 4096 part ++ z) (drop_of_length-le into {i = 4096} (omega arith)) ∙ append-nil (take 4096 part) ∙ take_all 4096 part (omega arith)

module _ (words main swap : List ℕ) (x : ℕ) (into : List ℕ) where
  pub view_short : (length words ≡ record_length → ⊥) → record { returned = refusal_number Bound; buffer = into } ≡ calls.view words main swap x into
  unfolding calls.view
  view_short n = simp (ne_eqb _ _ n)

  module _ (e : length words ≡ record_length) where
    pub view_narrow : (length into ≡ 4096 → ⊥) → record { returned = refusal_number Bound; buffer = into } ≡ calls.view words main swap x into
    unfolding calls.view
    view_narrow n = simp (eq-eqb _ _ e, ne_eqb _ _ n)

    module _ (f : length into ≡ 4096) (m : Machine) (em : m ≡ machine_of words) (part : List ℕ) (ep : part ≡ (view_call (state m main swap) (virtual x)).part) where
      array : length m.book.held ≡ 32
      array = rw em (length_held words e)

      pub view_refused : length part < 4096 → (v : Verdict) → verdict_numbers v ≡ (view_call (state m main swap) (virtual x)).verdict
          → (r : ℕ) → r ≡ (verdict_numbers v).refused → record { returned = r; buffer = into } ≡ calls.view words main swap x into
      unfolding calls.view
      view_refused h v ev r er =
          let g = refusing (state m main swap) (virtual x) array (rw ep at h) in
          simp (eq-eqb _ _ e, eq-eqb _ _ f, ← em, g.number, er, ev)

      pub view_done : 4096 ≤ length part → (b : List ℕ) → b ≡ with_page into 0 (page part 0) → record { returned = 0; buffer = b } ≡ calls.view words main swap x into
      unfolding calls.view
      view_done h b eb =
          let g = granting (state m main swap) (virtual x) array (rw ep at h) in
          let k : b ≡ (view_call (state m main swap) (virtual x)).part = eb ∙ over_page into part f (ap length ep ∙ g.long) ∙ ep in
          simp (eq-eqb _ _ e, eq-eqb _ _ f, ← em, g.number, k)
