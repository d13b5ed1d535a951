-- The bound over the rule alone. Whoever keeps the rule with a frames: its loads times (a - h + 1) are at most a times what any
-- schedule on h ≤ a frames pays for the same instructions in the same order, plus a (a - h) (`against_fewer`). With h = a:
-- the loads are at most a times what it pays (`against_equal`).
use mathlib.Core.Path.{◌≡◌, refl, subst}
use mathlib.Core.List.{List, [], ◌∷◌, ◌++◌, nil-subset, cons-subset, mem-cons_self, mem-cons_of_mem, Nodup-cons, Subset-refl, Subset-trans}
use Prim.Native.Nat.{ℕ, suc, ◌+◌, ◌*◌, ◌-◌, ◌≤◌, ◌<◌}
use native.Mathlib.Nat.{mul-le-mul_left, mul-le-mul_right}
use native.Mathlib.Decide.{dec_lt}
use native.Mathlib.Omega.{arith}
use lib.ListN.{length}
use Rattle.model.specs.Order.{Demand, alone, both}
use Rattle.model.specs.declared.VirtualPage.{VirtualPage}
use Rattle.bound.specs.Pages.{◌∈◌, ◌⊆◌, dec_in, hold, without}
use Rattle.bound.specs.Schedule.{Holds, Schedule, bring, leave, serve, end, brings}
use Rattle.bound.specs.Rule.{Ask, page_asked, asked, loads, Sparing, pages_of, Serving, idle, turn}
use Rattle.bound.proofs.Pages.{hold_sub, hold_length, without_sub, without_length, some_in, no_more}
use Rattle.bound.proofs.Schedule.{holds_iff}
use Rattle.bound.proofs.Phases.{Phases, no_phase, same_phase, next_phase, all_phases}

-- Each time that a phase of our accesses ends, a + 1 different pages have been asked for since it began, and the schedule has held
-- them all; at most h of them it held at the beginning, so it has paid for a - h + 1 of them. We have loaded at most a.

first : (held : List VirtualPage) (d : Demand) → Holds held d → 1 ≤ length held
first held (alone c) i = some_in i
first held (both c d) i = some_in i.0

none_left : {t : List Ask} → Serving [] t → t ≡ []
none_left idle = refl

-- the first instruction's accesses, and the others'
record Parted (d : Demand) (ds : List Demand) (t : List Ask) : Type 0 where
  now : List Ask
  later : List Ask
  parts : t ≡ now ++ later
  own : asked now ⊆ pages_of d
  on : Serving ds later

parted : {d : Demand} {ds : List Demand} {t : List Ask} → Serving (d ∷ ds) t → Parted d ds t
parted (turn {t = t} s own on) = record { now = s; later = t; parts = refl; own = own; on = on }

module _ (a h e : ℕ) (sum : h + e ≡ suc a) (fewer : h ≤ a) (t : List Ask) (rule : Sparing a t) where
  -- What the schedule has paid after m phases, e = a - h + 1 for each and one more: `known` has all pages that it has held since the
  -- instruction with the current phase's first access was served.
  record Ledger (m : ℕ) (pages held : List VirtualPage) (paid : ℕ) : Type 0 where
    known : List VirtualPage
    seen : pages ⊆ known
    kept : held ⊆ known
    owed : length known + suc (m * e) ≤ h + paid
    past : suc (m * e) ≤ paid

  -- the state of the argument, between two accesses or moves
  record At (held : List VirtualPage) (paid : ℕ) (w : List Ask) : Type 0 where
    complete : ℕ
    pages : List VirtualPage
    phases : Phases a t w complete pages
    ledger : Ledger complete pages held paid

  -- one access more, to a page that the schedule holds
  step : {held : List VirtualPage} {paid : ℕ} {w : List Ask} (x : Ask) → page_asked x ∈ held → length held ≤ h → At held paid (x ∷ w) → At held paid w
  step {held} {paid} {w} x i few s = go (dec_in (page_asked x) s.pages) (dec_lt (length s.pages) a)
    where
      all : page_asked x ∷ s.pages ⊆ s.ledger.known
      all = cons-subset.1 (s.ledger.kept (page_asked x) i, s.ledger.seen)

      go : Dec (page_asked x ∈ s.pages) → Dec (length s.pages < a) → At held paid w
      go (yes j) r =
          record {
            complete = s.complete;
            pages = s.pages;
            phases = same_phase x j (Subset-refl s.pages) s.phases.single s.phases.room s.phases;
            ledger = s.ledger;
          }
      go (no n) (yes r) =
          record {
            complete = s.complete;
            pages = page_asked x ∷ s.pages;
            phases = same_phase x mem-cons_self (λ p j. mem-cons_of_mem (page_asked x) j) (Nodup-cons.1 (n, s.phases.single)) r s.phases;
            ledger = record { known = s.ledger.known; seen = all; kept = s.ledger.kept; owed = s.ledger.owed; past = s.ledger.past };
          }
      go (no n) (no f) =
          let k : suc (length s.pages) ≤ length s.ledger.known = no_more (page_asked x ∷ s.pages) _ (Nodup-cons.1 (n, s.phases.single)) all in
          let o : length s.ledger.known + suc (s.complete * e) ≤ h + paid = s.ledger.owed in
          let p : suc (suc s.complete * e) ≤ paid = omega arith in
          let l : 1 ≤ length held = some_in i in
          record {
            complete = suc s.complete;
            pages = page_asked x ∷ [];
            phases = next_phase rule x (omega arith) s.phases;
            ledger = record { known = held; seen = cons-subset.1 (i, nil-subset held); kept = Subset-refl held; owed = omega arith; past = p };
          }

  -- the accesses of one instruction, whose pages the schedule holds
  steps : {held : List VirtualPage} {paid : ℕ} {w : List Ask} (s : List Ask) → asked s ⊆ held → length held ≤ h → At held paid (s ++ w) → At held paid w
  steps [] own few c = c
  steps (x ∷ s) own few c = steps s (cons-subset.0 own).1 few (step x (own (page_asked x) mem-cons_self) few c)

  -- the schedule brings in a page
  brought : {held : List VirtualPage} {paid : ℕ} {w : List Ask} (p : VirtualPage) → At held paid w → At (hold p held) (suc paid) w
  brought {held} {paid} p s =
      let o : length s.ledger.known + suc (s.complete * e) ≤ h + paid = s.ledger.owed in
      let l : suc (s.complete * e) ≤ paid = s.ledger.past in
      record {
        complete = s.complete;
        pages = s.pages;
        phases = s.phases;
        ledger = record {
          known = p ∷ s.ledger.known;
          seen = λ q i. mem-cons_of_mem p (s.ledger.seen q i);
          kept = Subset-trans (hold_sub p held) (cons-subset.1 (mem-cons_self, λ q i. mem-cons_of_mem p (s.ledger.kept q i)));
          owed = omega arith;
          past = omega arith;
        };
      }

  -- the schedule lets a page leave
  dropped : {held : List VirtualPage} {paid : ℕ} {w : List Ask} (p : VirtualPage) → At held paid w → At (without p held) paid w
  dropped {held} p s =
      record {
        complete = s.complete;
        pages = s.pages;
        phases = s.phases;
        ledger = record {
          known = s.ledger.known;
          seen = s.ledger.seen;
          kept = Subset-trans (without_sub p held) s.ledger.kept;
          owed = s.ledger.owed;
          past = s.ledger.past;
        };
      }

  -- nothing is left
  over : {held : List VirtualPage} {paid : ℕ} → At held paid [] → (n : ℕ) → paid ≤ n → loads t * e ≤ a * (n + (a - h))
  over {held} {paid} s n more =
      let q : loads t ≤ suc s.complete * a = all_phases rule s.phases in
      let l : suc (s.complete * e) ≤ paid = s.ledger.past in
      let f : suc s.complete * e ≤ n + (a - h) = omega arith in
      let x : loads t * e ≤ suc s.complete * a * e = mul-le-mul_right e q in
      let y : a * (suc s.complete * e) ≤ a * (n + (a - h)) = mul-le-mul_left a f in
      omega arith

  -- from an instruction with the first access of a phase on
  going : {held : List VirtualPage} {ds : List Demand} (rival : Schedule h held ds) (paid : ℕ) {w : List Ask} → length held ≤ h → Serving ds w → At held paid w
      → (n : ℕ) → paid + brings rival ≤ n → loads t * e ≤ a * (n + (a - h))
  unfolding brings
  going (bring p fits rest) paid few sv s n more = going rest (suc paid) (omega (arith, fits)) sv (brought p s) n (omega arith)
  going (leave {held = held} p rest) paid few sv s n more =
      going rest paid (omega (arith, without_length p held)) sv (dropped p s) n more
  going (serve {held = held} {d = d} all rest) paid few sv s n more =
      let g : Parted d _ _ = parted sv in
      going rest paid few g.on (steps g.now (Subset-trans g.own ((holds_iff d).0 all)) few (subst (At held paid) g.parts s)) n more
  going (end {held = held}) paid few sv s n more = over (subst (At held paid) (none_left sv) s) n (omega arith)

  -- from nothing held on: until the first instruction is served, all that is held has been paid for
  starting : {held : List VirtualPage} {ds : List Demand} (rival : Schedule h held ds) (paid : ℕ) → length held ≤ h → length held ≤ paid → Serving ds t
      → (n : ℕ) → paid + brings rival ≤ n → loads t * e ≤ a * (n + (a - h))
  unfolding brings
  starting (bring {held = held} p fits rest) paid few own sv n more =
      starting rest (suc paid) (omega (arith, fits)) (omega (arith, hold_length p held)) sv n (omega arith)
  starting (leave {held = held} p rest) paid few own sv n more =
      starting rest paid (omega (arith, without_length p held)) (omega (arith, without_length p held)) sv n more
  starting (serve {held = held} {d = d} all rest) paid few own sv n more =
      let o : 1 ≤ length held = first held d all in
      let l : Ledger 0 [] held paid =
      record { known = held; seen = nil-subset held; kept = Subset-refl held; owed = omega arith; past = omega arith } in
      going (serve all rest) paid few sv (record { complete = 0; pages = []; phases = no_phase a t; ledger = l }) n more
  starting end paid few own sv n more = rw (none_left sv) (omega arith)

pub against_fewer : (a h : ℕ) → h ≤ a → (ds : List Demand) (t : List Ask) → Serving ds t → Sparing a t
    → (rival : Schedule h [] ds) → loads t * (a - h + 1) ≤ a * brings rival + a * (a - h)
against_fewer a h fewer ds t sv rule rival =
    let b : loads t * (a - h + 1) ≤ a * (brings rival + (a - h)) =
    starting a h (a - h + 1) (omega arith) fewer t rule rival 0 (omega arith) (omega arith) sv (brings rival) (omega arith) in
    omega arith

pub against_equal : (a : ℕ) (ds : List Demand) (t : List Ask) → Serving ds t → Sparing a t → (rival : Schedule a [] ds) → loads t ≤ a * brings rival
against_equal a ds t sv rule rival =
    let b : loads t * (a - a + 1) ≤ a * brings rival + a * (a - a) = against_fewer a a (omega arith) ds t sv rule rival in
    let z : a - a ≡ 0 = omega arith in
    let c : loads t * (0 + 1) ≤ a * brings rival + a * 0 = rw z at b in
    omega arith
