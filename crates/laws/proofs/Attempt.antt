-- One attempt of the paged machine beside one of the flat machine it stands for (`came`); what an attempt misses (`missed`); and a
-- good machine stays good when an attempt is carried out (`set-good`, `store_good`), a store with the mark of its frame.
use mathlib.Core.Path.{◌≡◌, refl, sym, ap, ap₂, subst, subst⁻¹, ◌∙◌}
use mathlib.Core.Bool.{Bool, true, false, false≢true}
use mathlib.Core.List.{List}
use Prim.Native.Nat.{ℕ, ◌<◌}
use lib.Dec.{eqb}
use lib.ListN.{get_or, set}
use lib.Seq.{get_or-set_other}
use Rattle.std.specs.Prelude.{if◌then◌else◌}
use Rattle.model.specs.Words.{aligned}
use Rattle.model.specs.Bytes.{number, store}
use Rattle.model.specs.Pages.{page_of}
use Rattle.model.specs.Table.{entry, valid}
use Rattle.model.specs.Instruction.{plan, written}
use Rattle.model.specs.Attempt.{Tried, Width, size}
use Rattle.model.specs.State.{State}
use Rattle.model.specs.Translate.{translate}
use Rattle.model.specs.Run.{try, carried, marked_at}
use Rattle.model.specs.Flat.{Flat, allow, flat_bytes, flat_rights, flat, flat_try, flat_put}
use Rattle.model.specs.declared.Pcs.{Pcs}
use Rattle.model.specs.declared.Access.TheVariants.{At}
use Rattle.model.specs.declared.Outcome.TheVariants.{Missing}
use Rattle.laws.specs.Good.{Fit, Good}
pub use Rattle.laws.proofs.Choice.{clash}
use Rattle.laws.proofs.Bytes.{length-store}
use Rattle.laws.proofs.Entries.{same_place}
use Rattle.laws.proofs.Seated.{seated_over, seated_marks, hand_marks, safe}
use Rattle.laws.proofs.Access.{Absent, absent, legal, permits, illegal, reads}
use Rattle.laws.proofs.Stores.{entry_kept, rights_kept, bytes_kept, clean_kept}
use Rattle.laws.proofs.Agree.{Finishes, address, Both, halts, misses_code, misses_data, sets, stores, traps, attempt_both}

-- what the attempts of the two machines come to
abbrev pub Came : State → Tried → Tried → Type 0
Came p =
    Both (translate p.machine.shape p.memory.main) p.memory.main (allow (flat_rights p.machine.shape p.memory.main))
    (flat_bytes p.machine.shape p.memory) p.machine.gpr p.machine.pcs

pub came : (p : State) → Came p (try p) (flat_try (flat p))
unfolding flat
came p =
    attempt_both _ _ _ _ _ _ (record {
      illegal = illegal p.machine.shape p.memory;
      permits = permits p.machine.shape p.memory;
      legal = legal p.machine.shape p.memory;
      reads = reads p.machine.shape p.memory;
    })

-- ---- why an attempt misses the page of va
pub data Misses (p : State) (va : ℕ) : Type 0 where
  for_code : va ≡ p.machine.pcs.dpc → Absent p.machine.shape p.memory.main false va → Misses p va
  for_data : (writing : Bool) → va ≡ address (plan p.machine.gpr p.machine.pcs.next (number 4 (flat_bytes p.machine.shape p.memory) p.machine.pcs.dpc))
      → Absent p.machine.shape p.memory.main writing va → Finishes (flat_try (flat p)).outcome → Misses p va

pub missed : (p : State) (va : ℕ) → (try p).outcome ≡ Missing va → Misses p va
missed p va e = by (try p) (flat_try (flat p)) (came p) e refl
  where
    by : (t t' : Tried) → Came p t t' → t.outcome ≡ Missing va → (flat_try (flat p)).outcome ≡ t'.outcome → Misses p va
    by t t' (halts h) q r = clash (cc)
    by t t' (misses_code f) q r =
        let z : p.machine.pcs.dpc ≡ va = cc in
        for_code (sym z) (subst (λ (v : ℕ). Absent p.machine.shape p.memory.main false v) z (absent p.machine.shape p.memory.main false _ f))
    by t t' (misses_data {va = at} writing f a d) q r =
        let z : at ≡ va = cc in
        for_data writing (sym z ∙ a) (subst (λ (v : ℕ). Absent p.machine.shape p.memory.main writing v) z (absent p.machine.shape p.memory.main writing at f))
        (subst⁻¹ Finishes r d)
    by t t' (sets rd v target) q r = clash (cc)
    by t t' (stores width at i v a f) q r = clash (cc)
    by t t' (traps n) q r = clash (cc)

pub missing : (p : State) (va : ℕ) → (try p).outcome ≡ Missing va
    → ((page_of va).0 < p.machine.shape.ptl) × (valid (entry p.machine.shape p.memory.main (page_of va)) ≡ false)
missing p va e = by (missed p va e)
  where
    by : Misses p va → ((page_of va).0 < p.machine.shape.ptl) × (valid (entry p.machine.shape p.memory.main (page_of va)) ≡ false)
    by (for_code q a) = (a.inside, a.away)
    by (for_data writing q a d) = (a.inside, a.away)

-- ---- what is carried out leaves a good machine
zero_kept : (gpr : List ℕ) (i v : ℕ) → get_or gpr 0 0 ≡ 0 → get_or (written gpr i v) 0 0 ≡ 0
zero_kept gpr i v z = pick (eqb i 0) refl
  where
    pick : (c : Bool) → eqb i 0 ≡ c → get_or (if c then gpr else set gpr i v) 0 0 ≡ 0
    pick true e = z
    pick false e = get_or-set_other gpr i 0 v 0 (λ q. false≢true (sym e ∙ ap (λ (k : ℕ). eqb k 0) (sym q))) ∙ z

module _ (p : State) (g : Good p) (pcs : Pcs) where
  pub set-good : (i v : ℕ) → Good (carried p pcs (written p.machine.gpr i v) p.memory.main)
  set-good i v = record {
    fit = g.fit;
    whole = g.whole;
    seated = g.seated;
    hand = g.hand;
    clean = g.clean;
    zero = zero_kept p.machine.gpr i v g.zero;
  }

  pub trap_good : Good (carried p pcs p.machine.gpr p.memory.main)
  trap_good = record { fit = g.fit; whole = g.whole; seated = g.seated; hand = g.hand; clean = g.clean; zero = g.zero }

  pub store_good : (width : Width) (va i v : ℕ) → aligned (size width) va ≡ true → translate p.machine.shape p.memory.main true va ≡ At i
      → Good (marked_at (carried p pcs p.machine.gpr (store (size width) p.memory.main i v)) i)
  store_good width va i v a q = record {
    fit = subst⁻¹ (λ (n : ℕ). Fit p.machine.shape n) (length-store (size width) p.memory.main i v) g.fit;
    whole = g.whole;
    seated = seated_marks p.machine.shape p.machine.book (store (size width) p.memory.main i v) _
        (seated_over p.machine.shape p.machine.book p.memory.main (store (size width) p.memory.main i v)
        (λ x h. same_place (entry_kept p.machine.shape p.memory.main (safe p g) width va i v a q x h)) g.seated);
    hand = hand_marks p.machine.shape.frames p.machine.book _ g.hand;
    clean = clean_kept p.machine.shape p.machine.book p.memory g.fit g.seated width va i v a q g.clean;
    zero = g.zero;
  }

  -- a store is that store in the flat memory
  pub store_flat : (width : Width) (va i v : ℕ) → aligned (size width) va ≡ true → translate p.machine.shape p.memory.main true va ≡ At i
      → flat (marked_at (carried p pcs p.machine.gpr (store (size width) p.memory.main i v)) i)
      ≡ flat_put (flat p) pcs p.machine.gpr (store (size width) (flat_bytes p.machine.shape p.memory) va v)
  unfolding flat
  store_flat width va i v a q =
      ap₂ {C = Flat} (λ bytes rights. record { gpr = p.machine.gpr; pcs = pcs; bytes = bytes; rights = rights })
      (bytes_kept p.machine.shape p.machine.book p.memory g.fit g.seated width va i v a q)
      (rights_kept p.machine.shape p.memory.main (safe p g) width va i v a q)
