-- Each load, instruction, run and change of spare bits from a sound machine on (`each_load`, `each_instruction`, `each_run`,
-- `each_spare`); and the page loaded last is never the victim, in any book (`never_victim`).
use mathlib.Core.Path.{◌≡◌, refl, sym, ap, subst⁻¹, ◌∙◌}
use mathlib.Core.Bool.{Bool, true, false}
use mathlib.Core.List.Memᴰ
use mathlib.Core.List.{List, [], ◌∷◌, Memᴰ}
use Prim.Native.Nat.{ℕ, ◌≤◌}
use native.Mathlib.Omega.{arith}
use borrow.Author.Tests.{ltb-false}
use lib.ListN.{length}
use Rattle.std.specs.Prelude.{if◌then◌else◌}
use Rattle.model.specs.Table.{valid, spare, entry}
use Rattle.model.specs.Frames.{page_in, free, frame}
use Rattle.model.specs.State.{State}
use Rattle.model.specs.Handler.{load}
use Rattle.model.specs.Run.{Step, goes, stops, Counted, uncounted, instruction}
use Rattle.model.specs.Order.{Demand, demand_of}
use Rattle.model.specs.Flat.{rights_byte}
use Rattle.model.specs.Series.{spared}
use Rattle.model.specs.declared.FrameBook.{FrameBook}
use Rattle.model.specs.declared.VirtualPage.{VirtualPage}
use Rattle.laws.specs.Good.{Good}
use Rattle.laws.specs.Mapped.{map_step}
use Rattle.laws.specs.Entries.{Place, SamePlace}
use Rattle.laws.specs.Demand2.{flat_of}
use Rattle.laws.specs.Named.{load_victims, run_copies}
use Rattle.laws.proofs.Sound.{resident_valid}
use Rattle.laws.proofs.Seats.{Seats, seats}
use Rattle.laws.proofs.Load.{load_good, load_flat, load_kept, load_came, load_left, load_cleared, load_others, load_remains}
use Rattle.laws.proofs.Instruction.{instruction_right}
use Rattle.laws.proofs.Loads.{instruction_loads}
use Rattle.laws.proofs.Copies.{run_copied}
use Rattle.laws.proofs.Frame.{load_swap_stays, instruction_swap_off, run_swap_off}
use Rattle.laws.proofs.Granted.{run_reported}
use Rattle.laws.proofs.Spare.{spared_machine, spared_swap, spared_here, spared_place, spared_rights, spared_off, spared_good, spared_flat}
use Rattle.bound.specs.Schedule.{Holds}
use Rattle.demands.specs.Demand3.{frames, residents, leaving, Serves}
use Rattle.demands.specs.Each.{entry_of, SwapStays, Missed, Finishes, EachLoad, NeverVictim, EachInstruction, EachRun, EachSpare}
use Rattle.demands.proofs.Turns.{Single, none, single, demand_single}
use Rattle.demands.proofs.OrderLength.{Asked, flat_asked}
use Rattle.demands.proofs.Demand3.{instruction_demand, run_demand}

-- a victim is the page in the frame taken, where none is free; a page that is not, is no victim
victim : (a : ℕ) (b : FrameBook) (y : VirtualPage) → Memᴰ y (load_victims a b) → (a ≤ b.used) × (y ≡ page_in b (frame a b))
victim a b y = pick (free a b) refl
  where
    pick : (x : Bool) → free a b ≡ x → Memᴰ y (if x then [] else page_in b (frame a b) ∷ []) → (a ≤ b.used) × (y ≡ page_in b (frame a b))
    pick true e m = absurd (Memᴰ.not-nil m)
    pick false e m = (ltb-false b.used a e, Memᴰ.eq_of_singleton m)

no_victim : (a : ℕ) (b : FrameBook) (y : VirtualPage) → (a ≤ b.used → y ≡ page_in b (frame a b) → ⊥) → ¬ Memᴰ y (load_victims a b)
no_victim a b y h m = let v : (a ≤ b.used) × (y ≡ page_in b (frame a b)) = victim a b y m in h v.0 v.1

-- ---- a load
module _ (p : State) (g : Good p) (y : VirtualPage) (h : Missed p y) where
  invalid : valid (entry p.machine.shape p.memory.main y) ≡ false
  invalid = sym (resident_valid p.machine.shape p.machine.book p.memory.main g.seated y h.inside) ∙ h.away

  after : Good (load p y)
  after = load_good p g y h.inside invalid

pub each_load : EachLoad
unfolding load
each_load p g y h = record {
  sound = after p g y h;
  stands = load_flat p g y h.inside (invalid p g y h);
  here =
      resident_valid p.machine.shape (load p y).machine.book (load p y).memory.main (after p g y h).seated y h.inside
      ∙ (load_came p g y h.inside (invalid p g y h)).there;
  came = load_came p g y h.inside (invalid p g y h);
  left = λ x m.
      let v : (frames p ≤ p.machine.book.used) × (x ≡ page_in p.machine.book (frame (frames p) p.machine.book))
      = victim (frames p) p.machine.book x m in
      subst⁻¹ (λ z. Place 0 false (entry_of (load p y) z)) v.1 (load_left p g y h.inside (invalid p g y h) v.0);
  kept = load_kept p g y h.inside (invalid p g y h);
  swap = λ j o. load_swap_stays (uncounted p) g y h.inside j (record { unframed = tt; clear = o });
  cleared = load_cleared p g y h.inside (invalid p g y h);
  others = load_others p g y h.inside (invalid p g y h);
  remains = λ z. no_victim p.machine.shape.frames (load p y).machine.book y (load_remains p g y h.inside (invalid p g y h));
}

pub never_victim : NeverVictim
never_victim a two most b g h y =
    let t : Seats a b y _ _ = seats a two most b y g h in
    record { seated = t.put; remains = t.moves }

-- ---- an instruction
-- one that finishes has a demand
together : (ds : List Demand) → Single ds → (c e : Counted) (ys : List VirtualPage) → Serves leaving ds c e ys → 1 ≤ length ds
    → (d : Demand) × (ds ≡ d ∷ []) × Holds (residents e.state) d
together ds none c e ys t q = absurd (omega (arith, q))
together ds (single d) c e ys t q = (d, refl, t.together)

asked : (ds : List Demand) (r : Step Counted) → Asked ds (map_step flat_of r) → Finishes r → 1 ≤ length ds
asked ds (goes d) a f = omega (arith, a)
asked ds (stops s n d) a f = omega (arith, a, f)

pub each_instruction : EachInstruction
each_instruction c g = record {
  right = instruction_right c g;
  served = instruction_demand c g;
  together = λ f.
      together _ (demand_single (flat_of c)) c _ _ (instruction_demand c g)
      (asked _ (instruction c) (subst⁻¹ (Asked (demand_of (flat_of c))) (instruction_right c g).same (flat_asked (flat_of c))) f);
  few = instruction_loads c g;
  swap = λ j o. instruction_swap_off c g j (record { unframed = tt; clear = o });
}

-- ---- a run
pub each_run : EachRun
each_run p g n few = record {
  served = run_demand p g n few;
  copied = ap (λ r. r.numbers.copied) (run_reported p g n few) ∙ omega (arith, run_copied n (uncounted p));
  swap = subst⁻¹ (λ r. SwapStays p (run_copies n (uncounted p)) r.state) (run_reported p g n few)
      (λ j o. run_swap_off n (uncounted p) g j (record { unframed = tt; clear = o }));
}

-- ---- the host's change of spare bits
pub each_spare : EachSpare
each_spare p g x v = record {
  sound = spared_good p g x v;
  stands = spared_flat p g x v;
  holds = λ hx hv. ap spare (same x) ∙ spared_here p g x v hx hv;
  places = λ y. subst⁻¹ (SamePlace (entry_of p y)) (same y) (spared_place p g x v y);
  rights = λ y. ap rights_byte (same y) ∙ spared_rights p g x v y;
  machine = spared_machine p g x v;
  swap = spared_swap p g x v;
  beside = spared_off p g x v;
}
  where
    same : (y : VirtualPage) → entry_of (spared p x v) y ≡ entry p.machine.shape (spared p x v).memory.main y
    same y = ap (λ m. entry m.shape (spared p x v).memory.main y) (spared_machine p g x v)
