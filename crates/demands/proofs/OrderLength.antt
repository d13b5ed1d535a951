-- The length of a run's order: one demand for each instruction finished, and one for an instruction that stopped after a legal fetch
-- (`order_length`).
use mathlib.Core.Path.{◌≡◌, refl, ap, subst, ◌∙◌}
use mathlib.Core.Bool.{Bool, true, false}
use mathlib.Core.List.{List, [], ◌∷◌, ◌++◌, append-nil}
use Prim.Native.Nat.{ℕ, suc, ◌+◌}
use native.Mathlib.Omega.{arith}
use lib.Dec.{leb}
use lib.ListN.{length, length-append}
use Rattle.std.specs.Prelude.{if◌then◌else◌}
use Rattle.model.specs.Words.{aligned}
use Rattle.model.specs.Bytes.{number}
use Rattle.model.specs.Pages.{page_of}
use Rattle.model.specs.Instruction.{plan}
use Rattle.model.specs.Attempt.{Tried, Width, byte, half, word, size, stopped, accessed, transfer, obey_load, obey_store, obey, attempt}
use Rattle.model.specs.Run.{Step, goes, stops, answered, run}
use Rattle.model.specs.Flat.{Flat, allow, flat_put, flat_instruction}
use Rattle.model.specs.Order.{Demand, demand_by, demand_of, onwards, order_of}
use Rattle.model.specs.Answers.{stop_number}
use Rattle.model.specs.declared.Pcs.{Pcs}
use Rattle.model.specs.declared.Access.{Access}
use Rattle.model.specs.declared.Access.TheVariants.{Illegal, Fault, At}
use Rattle.model.specs.declared.Plan.{Plan}
use Rattle.model.specs.declared.Plan.TheVariants.{Unknown, Set, LoadByte, LoadHalf, LoadWord, StoreByte, StoreHalf, StoreWord, Trapping}
use Rattle.model.specs.declared.Stop.TheVariants.{IllegalMemory, Misaligned}
use Rattle.model.specs.declared.Outcome.{Outcome}
use Rattle.model.specs.declared.Outcome.TheVariants.{Done, Wrote, Trapped, Missing, Stopped}
use Rattle.laws.proofs.Simulate.{run_all}
use Rattle.demands.specs.Demand3.{fetches, stopped_fetch}

-- ---- an attempt stops by 2, 3 or 4 alone
abbrev Ends : Outcome → Type 0
Ends (Done pcs) = Unit {0}
Ends (Wrote pcs i) = Unit {0}
Ends (Trapped pcs n) = Unit {0}
Ends (Missing va) = Unit {0}
Ends (Stopped s) = leb 2 (stop_number s) ≡ true

module _ (access : Bool → ℕ → Access) (gpr bytes : List ℕ) (pcs : Pcs) where
  transfer_ends : (writing : Bool) (width : Width) (va : ℕ) (k : ℕ → Tried) → ((i : ℕ) → Ends (k i).outcome)
      → Ends (transfer access gpr bytes pcs writing width va k).outcome
  unfolding transfer
  transfer_ends writing width va k h = pick (aligned (size width) va) (access writing va)
    where
      pick : (x : Bool) (a : Access) → Ends (if x then accessed access gpr bytes pcs a va k else stopped access gpr bytes pcs (Misaligned va)).outcome
      pick true Illegal = refl
      pick true Fault = tt
      pick true (At i) = h i
      pick false a = refl

  obey_ends : (w : ℕ) (x : Plan) → Ends (obey access gpr bytes pcs w x).outcome
  unfolding obey obey_load obey_store
  obey_ends w Unknown = refl
  obey_ends w (Set rd v target) = tt
  obey_ends w (LoadByte signed rd va) = transfer_ends false byte va _ (λ i. tt)
  obey_ends w (LoadHalf signed rd va) = transfer_ends false half va _ (λ i. tt)
  obey_ends w (LoadWord rd va) = transfer_ends false word va _ (λ i. tt)
  obey_ends w (StoreByte va v) = transfer_ends true byte va _ (λ i. tt)
  obey_ends w (StoreHalf va v) = transfer_ends true half va _ (λ i. tt)
  obey_ends w (StoreWord va v) = transfer_ends true word va _ (λ i. tt)
  obey_ends w (Trapping n) = tt

-- ---- the demands of one instruction, by what it comes to
abbrev pub Asked : List Demand → Step Flat → Type 0
Asked ds (goes next) = length ds ≡ 1
Asked ds (stops s k left) = length ds ≡ k + stopped_fetch (stop_number s) left

module _ (f : Flat) where
  abbrev again : ℕ → Step Flat
  again va = stops (IllegalMemory va) 0 f

  abbrev obeyed : ℕ → Tried
  obeyed i = obey (allow f.rights) f.gpr f.bytes f.pcs (number 4 f.bytes i) (plan f.gpr f.pcs.next (number 4 f.bytes i))

  -- after a legal fetch
  fetched_stop : (n : ℕ) → leb 2 n ≡ true → fetches f ≡ true → 1 ≡ 0 + stopped_fetch n f
  fetched_stop n h e = simp (h, e) refl

  fetched_asked : (d : Demand) (t : Tried) → Ends t.outcome → fetches f ≡ true → Asked (d ∷ []) (answered f (flat_put f) (λ i g. g) again t)
  fetched_asked d t h e = by t.outcome h
    where
      by : (o : Outcome) → Ends o → Asked (d ∷ []) (answered f (flat_put f) (λ i g. g) again (record { outcome = o; gpr = t.gpr; bytes = t.bytes }))
      by (Done pcs) u = refl
      by (Wrote pcs i) u = refl
      by (Trapped pcs n) u = refl
      by (Missing va) u = fetched_stop 2 refl e
      by (Stopped s) u = fetched_stop (stop_number s) u e

  pub flat_asked : Asked (demand_of f) (flat_instruction f)
  unfolding demand_of flat_instruction attempt transfer
  flat_asked = pick (aligned 4 f.pcs.dpc) refl (allow f.rights false f.pcs.dpc) refl
    where
      pick : (x : Bool) → aligned 4 f.pcs.dpc ≡ x → (a : Access) → allow f.rights false f.pcs.dpc ≡ a → Asked (demand_of f) (flat_instruction f)
      pick false h a e = simp h refl
      pick true h Illegal e = simp (h, e) refl
      pick true h Fault e = simp (h, e) refl
      pick true h (At i) e =
          rw (h, e)
          (fetched_asked (demand_by f (page_of f.pcs.dpc) (plan f.gpr f.pcs.next (number 4 f.bytes f.pcs.dpc))) (obeyed i)
          (obey_ends (allow f.rights) f.gpr f.bytes f.pcs (number 4 f.bytes i) (plan f.gpr f.pcs.next (number 4 f.bytes i)))
          (rw (h, e) refl))

-- ---- a run
pub order_length : (n : ℕ) (f : Flat)
    → length (order_of n f) ≡ (run flat_instruction n f).finished + stopped_fetch (stop_number (run flat_instruction n f).stop) (run flat_instruction n f).left
unfolding order_of
order_length n f =
    run_all flat_instruction (λ m. Unit {0}) (λ m g. tt)
    (λ k m r. length (order_of k m) ≡ r.finished + stopped_fetch (stop_number r.stop) r.left)
    (λ m g. refl)
    (λ k m g s j left e h. first k m (stops s j left) e ∙ ap length (append-nil (demand_of m)) ∙ subst (Asked (demand_of m)) e (flat_asked m))
    (λ k m g next e h t.
    first k m (goes next) e ∙ length-append (demand_of m) (order_of k next)
    ∙ omega (arith, t, subst (Asked (demand_of m)) e (flat_asked m)))
    n f tt
  where
    first : (k : ℕ) (m : Flat) (r : Step Flat) → flat_instruction m ≡ r
        → length (order_of (suc k) m) ≡ length (demand_of m ++ onwards r (λ next. order_of k next))
    first k m r e = ap (λ z. length (demand_of m ++ onwards z (λ next. order_of k next))) e
