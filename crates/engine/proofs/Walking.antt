-- A leg under way, between two attempts, and what each outcome of the next attempt makes of it: the main pages that were stored to
-- stand for the marks, whatever they were before the leg.
use mathlib.Core.Path.{◌≡◌, sym, ap, ap₂, subst, ◌∙◌}
use mathlib.Core.Bool.{Bool, false, not}
use mathlib.Core.List.{List}
use Prim.Native.Nat.{ℕ, suc, ◌+◌, ◌-◌, ◌*◌, ◌/◌, ◌%◌, ◌^◌, ◌<◌, ◌≤◌}
use native.Mathlib.Nat.{zero-div, one-mul, mod-eq_of_lt}
use native.Mathlib.Omega.{arith}
use borrow.Author.Tests.{eqb-true, not-false}
use lib.Dec.{eqb}
use lib.Pow.{pow-lt}
use lib.Bits.{bit_or}
use Rattle.model.specs.Attempt.{tried, attempt}
use Rattle.model.specs.Translate.{translate}
use Rattle.model.specs.declared.Shape.{Shape}
use Rattle.model.specs.declared.Pcs.{Pcs}
use Rattle.model.specs.declared.Outcome.{Outcome}
use Rattle.model.specs.declared.Outcome.TheVariants.{Done, Wrote}
use Rattle.laws.specs.Good.{Safe}
use Rattle.laws.proofs.Marks.{mark_joined, joined_none, joined_most}
use Rattle.laws.proofs.Agree.{Finishes}
use Rattle.laws.proofs.Kept.{same_accesses, still_safe, unchanged, wrote_framed}
use Rattle.cpu.specs.Found.{Found}
use Rattle.cpu.specs.Finished.{Finished}
use Rattle.cpu.specs.declared.code.CodePage.{CodePage}
use Rattle.cpu.proofs.CodePages.{found_over}
use Rattle.cpu.proofs.Finishing.{finishes_finished}
use Rattle.engine.specs.Engine.{spot, marks_after, Walk, start, step, store, Walked}

-- ---- a leg
-- the test of the code page
pub still_on : (x y : ℕ) (on : Bool) → on ≡ eqb x y → not on ≡ false → x ≡ y
still_on x y on e h = eqb-true x y (sym e ∙ not-false on h)

-- 1 << k
one_bit : (k : ℕ) → k < 64 → 1 * 2 ^ k % 2 ^ 64 ≡ 2 ^ k
one_bit k h = ap (λ (x : ℕ). x % 2 ^ 64) (one-mul (2 ^ k)) ∙ mod-eq_of_lt (pow-lt h)

module _ (s : Shape) (c : CodePage) (n : ℕ) (g₀ : List ℕ) (p₀ : Pcs) (m₀ : List ℕ) where
  -- n − left instructions are finished
  pub record Walking (g : List ℕ) (p : Pcs) (m : List ℕ) (left stored : ℕ) : Type 0 where
    pub few : left ≤ n
    pub framed : stored / 2 ^ s.abase < 2 ^ 32
    pub way : (marks : ℕ) → Walk s (spot g₀ p₀ m₀ marks) (n - left) (spot g p m (marks_after s marks stored))
    pub safe : Safe s m
    pub found : Found s m c

  pub begun : Safe s m₀ → Found s m₀ c → Walking g₀ p₀ m₀ n 0
  begun h d = record {
    few = omega arith;
    framed = rw (zero-div (2 ^ s.abase)) (omega arith);
    way = λ marks. let e : n - n ≡ 0 = omega arith in rw (e, joined_none s.abase marks) start;
    safe = h;
    found = d;
  }

  -- the leg ends there, between two instructions, as the code has it
  pub left_between : (g : List ℕ) (p : Pcs) (m : List ℕ) (left stored : ℕ) → Walking g p m left stored → left < n
      → (g' : List ℕ) → g' ≡ g → (m' : List ℕ) → m' ≡ m → (p' : Pcs) → p' ≡ p → (left' : ℕ) → left' ≡ left → (stored' : ℕ) → stored' ≡ stored
      → (marks : ℕ) → Walked s (spot g₀ p₀ m₀ marks) n (record { outcome = Done p'; left = left'; pcs = p'; stored = stored' }) g' m'
  left_between g p m left stored u h g' eg m' em p' ep left' el stored' es marks = rw (eg, em, ep, el, es) (record {
    few = u.few;
    framed = u.framed;
    way = u.way marks;
    between = λ y. h;
    ending = λ not. absurd (not tt);
  })

  module _ (g : List ℕ) (p : Pcs) (m : List ℕ) (left stored : ℕ) (u : Walking g p m left stored) (more : 0 < left)
      (r : Outcome) (g' m' : List ℕ) (is : tried r g' m' ≡ attempt (translate s m) g m p) where
    outcome_is : (attempt (translate s m) g m p).outcome ≡ r
    outcome_is = ap (λ z. z.outcome) (sym is)

    tried_is : (o : Outcome) → r ≡ o → tried o g' m' ≡ attempt (translate s m) g m p
    tried_is o e = ap (λ z. tried z g' m') (sym e) ∙ is

    framed_in : (q : Pcs) (i : ℕ) → r ≡ Wrote q i → (s.abase ≤ i / 4096) × (i / 4096 < s.abase + s.frames)
    framed_in q i e = wrote_framed s m u.safe g p q i (outcome_is ∙ e)

    pub page_most : (q : Pcs) (i : ℕ) → r ≡ Wrote q i → i / 4096 < 64
    page_most q i e = omega (arith, (framed_in q i e).1, u.safe.fit.frames_in, u.safe.fit.pages_most)

    -- it finishes its instruction, and t are the pages stored to
    went : (q : Pcs) (t : ℕ) → t / 2 ^ s.abase < 2 ^ 32
        → ((marks : ℕ) → Walk s (spot g₀ p₀ m₀ marks) (suc (n - left)) (spot g' q m' (marks_after s marks t))) → Walking g' q m' (left - 1) t
    went q t f way =
        let l : left ≤ n = u.few in
        let k : n - (left - 1) ≡ suc (n - left) = omega arith in
        let b : m' ≡ (attempt (translate s m) g m p).bytes = ap (λ z. z.bytes) is in
        record {
          few = omega arith;
          framed = f;
          way = λ marks. rw k (way marks);
          safe = rw b (still_safe s m u.safe g p);
          found = rw b (found_over s m _ c (same_accesses s m u.safe g p) u.found);
        }

    -- as the code has it, with the PCs and the pages stored to that it goes on with
    pub went_on : (q : Pcs) → r ≡ Done q → (p' : Pcs) → p' ≡ q → (t : ℕ) → t ≡ stored → Walking g' p' m' (left - 1) t
    went_on q e p' is-p t is-t =
        rw (is-p, is-t) (went q stored u.framed (λ marks. step (u.way marks) q g' m' (tried_is (Done q) e)))

    pub stored_on : (q : Pcs) (i : ℕ) → r ≡ Wrote q i → (p' : Pcs) → p' ≡ q → (t : ℕ) → t ≡ bit_or stored (1 * 2 ^ (i / 4096) % 2 ^ 64)
        → Walking g' p' m' (left - 1) t
    stored_on q i e p' is-p t is-t =
        let f : (s.abase ≤ i / 4096) × (i / 4096 < s.abase + s.frames) = framed_in q i e in
        rw (is-p, is-t, one_bit (i / 4096) (page_most q i e))
        (went q (bit_or stored (2 ^ (i / 4096)))
        (joined_most s.abase (i / 4096) stored f.0 (omega (arith, f.1, u.safe.fit.frames_most)) u.framed)
        (λ marks. subst (λ (k : ℕ). Walk s (spot g₀ p₀ m₀ marks) (suc (n - left)) (spot g' q m' k)) (mark_joined s.abase (i / 4096) marks stored f.0)
        (store (u.way marks) q i g' m' (tried_is (Wrote q i) e))))

    -- the leg ends with this attempt
    pub left_with : ¬ Finished r → (marks : ℕ) → Walked s (spot g₀ p₀ m₀ marks) n (record { outcome = r; left = left; pcs = p; stored = stored }) g' m'
    left_with not marks =
        let same : ((attempt (translate s m) g m p).gpr ≡ g) × ((attempt (translate s m) g m p).bytes ≡ m) =
        unchanged s m u.safe g p (λ f. not (finishes_finished (subst Finishes outcome_is f))) in
        let eg : g' ≡ g = ap (λ z. z.gpr) is ∙ same.0 in
        let em : m' ≡ m = ap (λ z. z.bytes) is ∙ same.1 in
        rw (eg, em) (record {
          few = u.few;
          framed = u.framed;
          way = u.way marks;
          between = λ y. absurd (not y);
          ending = λ z. (more, ap₂ (λ x y. tried r x y) (sym eg) (sym em) ∙ is);
        })
