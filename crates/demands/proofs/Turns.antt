-- An instruction beside the handler in the large, Handler of bound: with the demand of its flat machine it loads the same pages and
-- leaves the same list of resident pages (`instruction_handled`). So it serves its demand (`instruction_served`).
use mathlib.Core.Path.{◌≡◌, refl, sym, ap, subst, ◌∙◌}
use mathlib.Core.Bool.{Bool, true, false}
use mathlib.Core.List.{List, [], ◌∷◌, nil-subset, cons-subset}
use Prim.Native.Nat.{ℕ, zero, suc, ◌+◌}
use native.Mathlib.Omega.{arith}
use lib.ListN.{length}
use Rattle.std.specs.Prelude.{if◌then◌else◌}
use Rattle.model.specs.Words.{aligned}
use Rattle.model.specs.Pages.{page_of}
use Rattle.model.specs.Frames.{resident}
use Rattle.model.specs.Handler.{load}
use Rattle.model.specs.State.{State}
use Rattle.model.specs.Run.{Step, stops, answered, Counted, try, put, note, served, attempts, instruction}
use Rattle.model.specs.Translate.{legal}
use Rattle.model.specs.Flat.{Flat, allow, flat}
use Rattle.model.specs.Order.{Demand, demand_of}
use Rattle.model.specs.declared.VirtualPage.{VirtualPage}
use Rattle.model.specs.declared.Stop.TheVariants.{IllegalMemory}
use Rattle.model.specs.declared.Outcome.{Outcome}
use Rattle.model.specs.declared.Outcome.TheVariants.{Done, Wrote, Trapped, Missing, Stopped}
use Rattle.laws.specs.Good.{Good}
use Rattle.laws.specs.Mapped.{leaves}
use Rattle.laws.proofs.Sound.{resident_valid}
use Rattle.laws.specs.Named.{names_after, along_attempts, along_instruction}
use Rattle.laws.proofs.Attempt.{missing}
use Rattle.laws.proofs.Third.{Enough, enough, miss_good, miss_flat}
use Rattle.bound.specs.Pages.{◌⊆◌}
use Rattle.bound.specs.Rule.{pages_of}
use Rattle.bound.specs.Orders.{Order, fetch}
use Rattle.bound.specs.Frames.{pages, Keeps}
use Rattle.bound.specs.Handler as large
use Rattle.bound.proofs.Schedule.{holds_iff}
use Rattle.bound.proofs.Handler.{look_absent, carry_turn, carried}
use Rattle.demands.specs.Brought.{comes, instruction_brings, bare, Steps, no_step, one_step}
use Rattle.demands.specs.Demand3.{frames, residents, Serves}
use Rattle.demands.proofs.Bare.{bare_resident, bare_advanced}
use Rattle.demands.proofs.Wants.{seen, look_for, try_wants, try_stops}

-- what the handler in the large does from p on with the demands ds, in the order o
abbrev pub at_large : Order → State → List Demand → large.Handling
at_large o p ds = large.handle o (frames p) ds (residents p)

-- the same in at most n attempts, for no demand or one, from the list q on
abbrev carry_for : Order → ℕ → ℕ → List Demand → List VirtualPage → large.Handling
carry_for o a n [] q = record { loads = 0; left = q }
carry_for o a n (d ∷ ds) q = large.carry o a n d q

carry_next : (o : Order) (a n : ℕ) (ds : List Demand) (q : List VirtualPage)
    → carry_for o a (suc n) ds q ≡ large.resume (look_for o ds q) (λ y r. carry_for o a n ds (fetch a y r))
unfolding large.carry
carry_next o a n [] q = refl
carry_next o a n (d ∷ ds) q = refl

-- from c to e with the pages ys brought in, as many as t loads; it leaves t's list of resident pages
pub record Handled (c e : Counted) (ys : List VirtualPage) (t : large.Handling) : Type 0 where
  pub counted : e.loads ≡ c.loads + length ys
  pub many : length ys ≡ t.loads
  pub left : residents e.state ≡ t.left
  pub steps : Steps (frames c.state) (bare c.state.machine.book) ys (bare e.state.machine.book)

names_none : (o : Outcome) → names_after o (λ va. []) ≡ []
names_none (Done pcs) = refl
names_none (Wrote pcs i) = refl
names_none (Trapped pcs n) = refl
names_none (Missing va) = refl
names_none (Stopped s) = refl

-- ---- an instruction has no demand or one
pub data Single : List Demand → Type 0 where
  none : Single []
  single : (d : Demand) → Single (d ∷ [])

pub demand_single : (f : Flat) → Single (demand_of f)
unfolding demand_of
demand_single f = pick (aligned 4 f.pcs.dpc) (legal (allow f.rights false f.pcs.dpc)) _
  where
    pick : (x y : Bool) (d : Demand) → Single (if x then (if y then d ∷ [] else []) else [])
    pick true true d = single d
    pick true false d = none
    pick false y d = none

-- ---- a machine whose book keeps the order o
module _ (o : Order) (kept : Keeps o) where
  module _ (c : Counted) (g : Good c.state) where
    abbrev a : ℕ
    a = frames c.state

    abbrev ds : List Demand
    ds = demand_of (flat c.state)

    abbrev q : List VirtualPage
    q = residents c.state

    -- what the handler in the large does, by what the attempt comes to
    found : (k : ℕ) (z : Outcome) → (try c.state).outcome ≡ z
        → carry_for o a (suc k) ds q ≡ large.resume (seen z q) (λ y r. carry_for o a k ds (fetch a y r))
    found k z e =
        carry_next o a k ds q ∙ ap (λ z. large.resume z (λ y r. carry_for o a k ds (fetch a y r))) (try_wants o kept c.state g ∙ ap (λ z. seen z q) e)

    still : (k : ℕ) (e : Counted) → e.loads ≡ c.loads → bare e.state.machine.book ≡ bare c.state.machine.book
        → carry_for o a (suc k) ds q ≡ record { loads = 0; left = q } → Handled c e [] (carry_for o a (suc k) ds q)
    still k e l b h = rw h (record {
      counted = omega (arith, l);
      many = refl;
      left = ap pages b;
      steps = subst (λ x. Steps a (bare c.state.machine.book) [] x) (sym b) no_step;
    })

    split : (k : ℕ) (next : ℕ → Step Counted) (rest : ℕ → List VirtualPage)
        → ((va : ℕ) → (try c.state).outcome ≡ Missing va → Handled c (leaves (next va)) (rest va) (carry_for o a (suc k) ds q))
        → Handled c (leaves (answered c (put c) note next (try c.state))) (names_after (try c.state).outcome rest) (carry_for o a (suc k) ds q)
    split k next rest f = by (try c.state).outcome refl
      where
        by : (z : Outcome) → (try c.state).outcome ≡ z
            → Handled c (leaves (answered c (put c) note next (try c.state))) (names_after (try c.state).outcome rest) (carry_for o a (suc k) ds q)
        by (Done pcs) e = rw e (still k _ refl refl (found k (Done pcs) e))
        by (Wrote pcs i) e = rw e (still k _ refl refl (found k (Wrote pcs i) e))
        by (Trapped pcs n) e = rw e (still k _ refl refl (found k (Trapped pcs n) e))
        by (Missing va) e = rw e (f va e)
        by (Stopped s) e = rw e (still k _ refl refl (found k (Stopped s) e))

    -- a load, and what follows it
    again : (k va : ℕ) → (try c.state).outcome ≡ Missing va → (e : Counted) (ys : List VirtualPage)
        → Handled (served c (page_of va)) e ys (carry_for o a (suc k) (demand_of (flat (load c.state (page_of va)))) (residents (load c.state (page_of va))))
        → Handled c e (page_of va ∷ ys) (carry_for o a (suc (suc k)) ds q)
    unfolding load
    again k va m e ys t =
        let pulled : residents (load c.state (page_of va)) ≡ fetch a (page_of va) q
        = kept.loaded a g.fit.frames_most c.state.machine.book g.seated.booked g.hand (page_of va) in
        let same : flat (load c.state (page_of va)) ≡ flat c.state = miss_flat c.state g va m in
        let u : Handled (served c (page_of va)) e ys (carry_for o a (suc k) ds (fetch a (page_of va) q)) = rw (same, pulled) at t in
        let away : resident (bare c.state.machine.book) (page_of va) ≡ false
        = bare_resident c.state.machine.book (page_of va)
        ∙ resident_valid c.state.machine.shape c.state.machine.book c.state.memory.main g.seated (page_of va) (missing c.state va m).0
        ∙ (missing c.state va m).1 in
        rw (found (suc k) (Missing va) m) (record {
          counted = omega (arith, u.counted);
          many = ap suc u.many;
          left = u.left;
          steps = one_step (page_of va) away
              (subst (λ b. Steps a b ys (bare e.state.machine.book)) (bare_advanced a c.state.machine.book (page_of va)) u.steps);
        })

  attempts_handled : (k : ℕ) (c : Counted) → Good c.state → Enough k c.state
      → Handled c (leaves (attempts k c)) (along_attempts comes k c.state) (carry_for o (frames c.state) (suc k) (demand_of (flat c.state)) (residents c.state))
  unfolding attempts along_attempts Enough load
  attempts_handled zero c g h = rw names_none at (split c g zero (λ va. stops (IllegalMemory va) 0 c) (λ va. []) (λ va e. absurd (h va e)))
  attempts_handled (suc k) c g h =
      split c g (suc k) _ _
      (λ va e. again c g k va e _ _ (attempts_handled k (served c (page_of va)) (miss_good c.state g va e) (h va e)))

  pub instruction_handled : (c : Counted) → Good c.state
      → Handled c (leaves (instruction c)) (instruction_brings c.state) (at_large o c.state (demand_of (flat c.state)))
  unfolding instruction along_instruction large.handle
  instruction_handled c g = by (demand_of (flat c.state)) (demand_single (flat c.state)) (attempts_handled 2 c g (enough c.state g))
    where
      by : (ds : List Demand) → Single ds
          → Handled c (leaves (attempts 2 c)) (along_attempts comes 2 c.state) (carry_for o (frames c.state) 3 ds (residents c.state))
          → Handled c (leaves (attempts 2 c)) (along_attempts comes 2 c.state) (at_large o c.state ds)
      by ds none t = t
      by ds (single d) t = record { counted = t.counted; many = omega (arith, t.many); left = t.left; steps = t.steps }

  -- ---- the pages that an instruction brings in are its own
  attempts_own : (k : ℕ) (p : State) → Good p → (d : Demand) → demand_of (flat p) ≡ d ∷ [] → along_attempts comes k p ⊆ pages_of d
  unfolding along_attempts
  attempts_own zero p g d h = nil-subset _
  attempts_own (suc k) p g d h =
      by (try p).outcome refl
      (λ va e. attempts_own k (load p (page_of va)) (miss_good p g va e) d (ap demand_of (miss_flat p g va e) ∙ h))
    where
      by : (z : Outcome) → (try p).outcome ≡ z → ((va : ℕ) → (try p).outcome ≡ Missing va → along_attempts comes k (load p (page_of va)) ⊆ pages_of d)
          → names_after z (λ va. page_of va ∷ along_attempts comes k (load p (page_of va))) ⊆ pages_of d
      by (Done pcs) e on = nil-subset _
      by (Wrote pcs i) e on = nil-subset _
      by (Trapped pcs n) e on = nil-subset _
      by (Missing va) e on =
          let w : large.look o (pages_of d) (residents p) ≡ large.absent (page_of va) (residents p)
          = ap (λ ds. look_for o ds (residents p)) (sym h) ∙ try_wants o kept p g ∙ ap (λ z. seen z (residents p)) e in
          cons-subset.1 (look_absent o d (residents p) (page_of va) (residents p) w, on va e)
      by (Stopped s) e on = nil-subset _

  -- ---- what an instruction with its demands does
  -- with none it stops at once
  stays : (c : Counted) → Good c.state → demand_of (flat c.state) ≡ [] → leaves (attempts 2 c) ≡ c
  unfolding attempts
  stays c g h = rw (try_stops o kept c.state g h).1 refl

  pub instruction_served : (c : Counted) → Good c.state → Serves o (demand_of (flat c.state)) c (leaves (instruction c)) (instruction_brings c.state)
  unfolding instruction along_instruction
  instruction_served c g =
      by (demand_of (flat c.state)) refl (demand_single (flat c.state)) (attempts_handled 2 c g (enough c.state g))
    where
      e : Counted
      e = leaves (attempts 2 c)

      ys : List VirtualPage
      ys = along_attempts comes 2 c.state

      by : (ds : List Demand) → demand_of (flat c.state) ≡ ds → Single ds
          → Handled c e ys (carry_for o (frames c.state) 3 ds (residents c.state)) → Serves o ds c e ys
      by ds h none t = (ap (λ z. z.loads) (stays c g h), ap (λ z. z.state.machine.book) (stays c g h))
      by ds h (single d) t = record {
        counted = t.counted;
        steps = t.steps;
        own = attempts_own 2 c.state g d h;
        turn = rw (t.left, t.many) (carry_turn o (frames c.state) d (residents c.state));
        together = rw t.left ((holds_iff d).1 (carried o (frames c.state) g.fit.frames_least d (residents c.state)).1);
      }
