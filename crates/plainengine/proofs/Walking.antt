-- A leg under way, between two attempts (`Walking`), and what each outcome of the next attempt makes of it.
use mathlib.Core.Path.{◌≡◌, refl, sym, ap₂, ◌∙◌}
use mathlib.Core.Bool.{Bool, true, false, true≢false}
use mathlib.Core.List.{List}
use Prim.Native.Nat.{ℕ, ◌+◌, ◌-◌, ◌*◌, ◌/◌, ◌%◌, ◌<◌, ◌≤◌}
use native.Mathlib.Nat.{add-zero}
use native.Mathlib.Decide.{dec_lt}
use native.Mathlib.Omega.{arith}
use borrow.Author.Tests.{eq-eqb}
use lib.Dec.{eqb}
use lib.ListN.{length}
use Rattle.model.specs.Attempt.{tried, attempt}
use Rattle.model.specs.Run.{stops, ended, run}
use Rattle.model.specs.Flat.{Flat, allow, flat_try, flat_instruction}
use Rattle.model.specs.declared.Pcs.{Pcs}
use Rattle.model.specs.declared.Stop.{Stop}
use Rattle.model.specs.declared.Stop.TheVariants.{Trap, IllegalMemory}
use Rattle.model.specs.declared.Outcome.{Outcome}
use Rattle.model.specs.declared.Outcome.TheVariants.{Done, Wrote, Trapped, Missing, Stopped}
use Rattle.cpu.specs.Finished.{Finished}
use Rattle.plaincpu.specs.Sized.{Sized}
use Rattle.plaincpu.specs.Fetches.{fetches}
use Rattle.plaincpu.proofs.Ways.{fetched_of}
use Rattle.plainengine.specs.Engine.{flat_of, course, Ran, Walked}
use Rattle.plainengine.specs.declared.Ended.{Ended}
use Rattle.plainengine.specs.declared.Leg.{Leg}
use Rattle.plainengine.proofs.Running.{begun, joined, goes_on, stops_there, goes_done, goes_wrote, stops_trapped, stops_stopped, stops_missing, unchanged}

-- a memory of the same length is lent as well
pub sized_over : (rights m m' : List ℕ) → length m' ≡ length m → Sized rights m → Sized rights m'
sized_over rights m m' e s = record { long = e ∙ s.long; most = s.most }

module _ (n : ℕ) (rights g₀ : List ℕ) (p₀ : Pcs) (m₀ : List ℕ) where
  abbrev from : Flat
  from = flat_of g₀ p₀ rights m₀

  -- n − left instructions are finished; where none is, the leg is where it began
  pub record Walking (g : List ℕ) (p : Pcs) (m : List ℕ) (left : ℕ) : Type 0 where
    pub way : Ran n from left (flat_of g p rights m)
    pub more : 0 < left
    pub sized : Sized rights m
    pub first : n ≤ left → p ≡ p₀

  pub started : Sized rights m₀ → 0 < n → Walking g₀ p₀ m₀ n
  started s h = record { way = begun n from; more = h; sized = s; first = λ q. refl }

  -- the leg ends there, between two instructions, as the code has it
  pub left_between : (g : List ℕ) (p : Pcs) (m : List ℕ) (left : ℕ) → Ran n from left (flat_of g p rights m) → left < n
      → (g' : List ℕ) → g' ≡ g → (m' : List ℕ) → m' ≡ m → (p' : Pcs) → p' ≡ p → (left' : ℕ) → left' ≡ left
      → Walked from n (record { outcome = Done p'; left = left'; pcs = p' }) g' m'
  left_between g p m left way h g' eg m' em p' ep left' el = rw (eg, em, ep, el) (record {
    way = way;
    between = λ y. h;
    ending = λ not. absurd (not tt);
  })

  module _ (g : List ℕ) (p : Pcs) (m : List ℕ) (left : ℕ) (u : Walking g p m left) where
    -- DPC has left the page of the first fetch, which was aligned: an instruction is finished
    pub moved : fetches rights p₀.dpc ≡ true → (on : Bool) → on ≡ eqb (4096 * (p.dpc / 4096) + p.dpc % 4) (4096 * (p₀.dpc / 4096)) → on ≡ false
        → left < n
    moved f on e off = pick (dec_lt left n)
      where
        pick : Dec (left < n) → left < n
        pick (yes q) = q
        pick (no q) =
            let s : p ≡ p₀ = u.first (omega (arith, q)) in
            let z : 4096 * (p.dpc / 4096) + p.dpc % 4 ≡ 4096 * (p₀.dpc / 4096) = rw s (omega (arith, (fetched_of rights p₀.dpc f).even)) in
            absurd (true≢false (sym (eq-eqb _ _ z) ∙ sym e ∙ off))

    module _ (r : Outcome) (g' m' : List ℕ) (is : tried r g' m' ≡ attempt (allow rights) g m p) where
      -- it finishes its instruction, and the code goes on with p'
      pub went_on : (q : Pcs) → r ≡ Done q → (p' : Pcs) → p' ≡ q → Ran n from (left - 1) (flat_of g' p' rights m')
      went_on q e p' is-p = rw is-p (goes_on n from left _ u.way u.more _ (goes_done (flat_of g p rights m) r g' m' is q e))

      pub stored_on : (q : Pcs) (i : ℕ) → r ≡ Wrote q i → (p' : Pcs) → p' ≡ q → Ran n from (left - 1) (flat_of g' p' rights m')
      stored_on q i e p' is-p = rw is-p (goes_on n from left _ u.way u.more _ (goes_wrote (flat_of g p rights m) r g' m' is q i e))

      pub once_more : (p' : Pcs) → Ran n from (left - 1) (flat_of g' p' rights m') → (left - 1 ≡ 0 → ⊥) → length m' ≡ length m → Walking g' p' m' (left - 1)
      once_more p' way h long = record {
        way = way;
        more = omega (arith, h);
        sized = sized_over rights m m' long u.sized;
        first = λ q. absurd (omega (arith, q, u.way.few, u.more));
      }

      -- the leg ends with this attempt
      pub left_with : ¬ Finished r → Walked from n (record { outcome = r; left = left; pcs = p }) g' m'
      left_with not =
          let same : (g' ≡ g) × (m' ≡ m) = unchanged (flat_of g p rights m) r g' m' is not in
          rw (same.0, same.1) (record {
            way = u.way;
            between = λ y. absurd (not y);
            ending = λ z. (u.more, ap₂ (λ x y. tried r x y) (sym same.0) (sym same.1) ∙ is);
          })

-- ---- a run whose next leg is r, which leaves the registers g and the bytes m
module _ (limit : ℕ) (f₀ : Flat) (rights g₀ : List ℕ) (p₀ : Pcs) (m₀ : List ℕ) (left : ℕ) (u : Ran limit f₀ left (flat_of g₀ p₀ rights m₀))
    (r : Leg) (g m : List ℕ) (w : Walked (flat_of g₀ p₀ rights m₀) left r g m) where
  abbrev here : Flat
  here = flat_of g r.pcs rights m

  pub leg_on : Ran limit f₀ r.left here
  leg_on = joined u w.way

  -- the attempt that ended it
  module _ (o : Outcome) (is-o : r.outcome ≡ o) (not : ¬ Finished o) where
    last : (0 < r.left) × (tried r.outcome g m ≡ flat_try here)
    last = w.ending (rw is-o not)

    pub leg_short : limit - r.left < limit
    leg_short = omega (arith, last.0, leg_on.few)

    -- ends the run with stop s, k more instructions finished
    stops_by : (s : Stop) (k : ℕ) (f : Flat) → flat_instruction here ≡ stops s k f → ended s (limit - r.left + k) f ≡ run flat_instruction limit f₀
    stops_by s k f e = stops_there limit f₀ r.left here leg_on last.0 s k f e

  pub leg_trapped : (q : Pcs) (n : ℕ) → r.outcome ≡ Trapped q n
      → (z : Ended) → z ≡ record { stop = Trap n; finished = limit - r.left + 1; pcs = q } → course z g rights m ≡ run flat_instruction limit f₀
  leg_trapped q n e z is = rw is (stops_by _ e (λ z. z) _ 1 _ (stops_trapped here _ g m (last _ e (λ z. z)).1 q n e))

  pub leg_stopped : (s : Stop) → r.outcome ≡ Stopped s
      → (z : Ended) → z ≡ record { stop = s; finished = limit - r.left; pcs = r.pcs } → course z g rights m ≡ run flat_instruction limit f₀
  leg_stopped s e z is =
      rw (is, ← (add-zero (limit - r.left))) (stops_by _ e (λ z. z) s 0 _ (stops_stopped here _ g m (last _ e (λ z. z)).1 s e))

  pub leg_missing : (va : ℕ) → r.outcome ≡ Missing va
      → (z : Ended) → z ≡ record { stop = IllegalMemory va; finished = limit - r.left; pcs = r.pcs } → course z g rights m ≡ run flat_instruction limit f₀
  leg_missing va e z is =
      rw (is, ← (add-zero (limit - r.left))) (stops_by _ e (λ z. z) _ 0 _ (stops_missing here _ g m (last _ e (λ z. z)).1 va e))
