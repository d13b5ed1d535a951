-- One attempt on two memories, where each access that the first grants or misses the second grants at the address itself: unless
-- the first misses a page, the two come to the same, each store at its own place (`attempt_both`). `Both` lists every way an attempt
-- can go, with its cause.
use mathlib.Core.Path.{◌≡◌, refl}
use mathlib.Core.Bool.{Bool, true, false}
use mathlib.Core.List.{List}
use Prim.Native.Nat.{ℕ}
use Rattle.std.specs.Prelude.{if◌then◌else◌}
use Rattle.model.specs.Words.{aligned}
use Rattle.model.specs.Bytes.{number, store}
use Rattle.model.specs.Instruction.{plan, written}
use Rattle.model.specs.Attempt.{Tried, tried, Width, byte, half, word, size, stopped, pcs_to, pcs_onward, accessed, transfer, obey_load, obey_store, obey, attempt}
use Rattle.model.specs.declared.Pcs.{Pcs}
use Rattle.model.specs.declared.Access.{Access}
use Rattle.model.specs.declared.Access.TheVariants.{Illegal, Fault, At}
use Rattle.model.specs.declared.Plan.{Plan}
use Rattle.model.specs.declared.Plan.TheVariants.{Unknown, Set, LoadByte, LoadHalf, LoadWord, StoreByte, StoreHalf, StoreWord, Trapping}
use Rattle.model.specs.declared.Stop.{Stop}
use Rattle.model.specs.declared.Stop.TheVariants.{IllegalMemory, Misaligned, IllegalInstruction}
use Rattle.model.specs.declared.Outcome.{Outcome}
use Rattle.model.specs.declared.Outcome.TheVariants.{Done, Wrote, Trapped, Missing, Stopped}

-- the second memory has each address at the address itself, and never faults
pub record Agrees (access : Bool → ℕ → Access) (bytes : List ℕ) (access' : Bool → ℕ → Access) (bytes' : List ℕ) : Type 0 where
  pub illegal : (writing : Bool) (va : ℕ) → access writing va ≡ Illegal → access' writing va ≡ Illegal
  pub permits : (writing : Bool) (va : ℕ) → access writing va ≡ Fault → access' writing va ≡ At va
  pub legal : (writing : Bool) (va i : ℕ) → access writing va ≡ At i → access' writing va ≡ At va
  pub reads : (writing : Bool) (width : Width) (va i : ℕ) → aligned (size width) va ≡ true → access writing va ≡ At i
      → number (size width) bytes i ≡ number (size width) bytes' va

-- stops 2 to 4: those of an attempt
pub data Halts : Stop → Type 0 where
  at_memory : {va : ℕ} → Halts (IllegalMemory va)
  at_alignment : {va : ℕ} → Halts (Misaligned va)
  at_word : {w : ℕ} → Halts (IllegalInstruction w)

-- the attempt is carried out, and the machine goes on
pub data Finishes : Outcome → Type 0 where
  done : {pcs : Pcs} → Finishes (Done pcs)
  wrote : {pcs : Pcs} {i : ℕ} → Finishes (Wrote pcs i)

-- the address of the load or store that a plan asks for
abbrev pub address : Plan → ℕ
address Unknown = 0
address (Set rd v target) = 0
address (LoadByte signed rd va) = va
address (LoadHalf signed rd va) = va
address (LoadWord rd va) = va
address (StoreByte va v) = va
address (StoreHalf va v) = va
address (StoreWord va v) = va
address (Trapping n) = 0

module _ (access : Bool → ℕ → Access) (bytes : List ℕ) (access' : Bool → ℕ → Access) (bytes' : List ℕ) (gpr : List ℕ) (pcs : Pcs) where
  -- What the attempts on the two memories come to. A page that data misses is one that the second memory carries out.
  pub data Both : Tried → Tried → Type 0 where
    halts : {s : Stop} → Halts s → Both (tried (Stopped s) gpr bytes) (tried (Stopped s) gpr bytes')
    misses_code : {t : Tried} → access false pcs.dpc ≡ Fault → Both (tried (Missing pcs.dpc) gpr bytes) t
    misses_data : {va : ℕ} {t : Tried} → (writing : Bool) → access writing va ≡ Fault
        → va ≡ address (plan gpr pcs.next (number 4 bytes' pcs.dpc)) → Finishes t.outcome → Both (tried (Missing va) gpr bytes) t
    sets : (rd v target : ℕ) → Both (tried (Done (pcs_to access gpr bytes pcs target)) (written gpr rd v) bytes)
        (tried (Done (pcs_to access gpr bytes pcs target)) (written gpr rd v) bytes')
    stores : (width : Width) (va i v : ℕ) → aligned (size width) va ≡ true → access true va ≡ At i
        → Both (tried (Wrote (pcs_onward access gpr bytes pcs) i) gpr (store (size width) bytes i v))
        (tried (Wrote (pcs_onward access gpr bytes pcs) va) gpr (store (size width) bytes' va v))
    traps : (n : ℕ) → Both (tried (Trapped (pcs_onward access gpr bytes pcs) n) gpr bytes) (tried (Trapped (pcs_onward access gpr bytes pcs) n) gpr bytes')

  module _ (h : Agrees access bytes access' bytes') where
    access_both : (writing : Bool) (va : ℕ) (a : Access) → access writing va ≡ a → (k k' : ℕ → Tried)
        → (access writing va ≡ Fault → Both (tried (Missing va) gpr bytes) (k' va))
        → ((i : ℕ) → access writing va ≡ At i → Both (k i) (k' va))
        → Both (accessed access gpr bytes pcs a va k) (accessed access' gpr bytes' pcs (access' writing va) va k')
    access_both writing va Illegal e k k' f g = rw (h.illegal writing va e) (halts at_memory)
    access_both writing va Fault e k k' f g = rw (h.permits writing va e) (f e)
    access_both writing va (At i) e k k' f g = rw (h.legal writing va i e) (g i e)

    transfer_both : (writing : Bool) (width : Width) (va : ℕ) (k k' : ℕ → Tried)
        → (access writing va ≡ Fault → Both (tried (Missing va) gpr bytes) (k' va))
        → ((i : ℕ) → aligned (size width) va ≡ true → access writing va ≡ At i → Both (k i) (k' va))
        → Both (transfer access gpr bytes pcs writing width va k) (transfer access' gpr bytes' pcs writing width va k')
    unfolding transfer
    transfer_both writing width va k k' f g = pick (aligned (size width) va) refl
      where
        pick : (c : Bool) → aligned (size width) va ≡ c
            → Both (if c then accessed access gpr bytes pcs (access writing va) va k else stopped access gpr bytes pcs (Misaligned va))
            (if c then accessed access' gpr bytes' pcs (access' writing va) va k' else stopped access' gpr bytes' pcs (Misaligned va))
        pick true e = access_both writing va (access writing va) refl k k' f (λ i q. g i e q)
        pick false e = halts at_alignment

    -- the address asked for, as the second memory has it
    abbrev Asked : ℕ → Type 0
    Asked va = va ≡ address (plan gpr pcs.next (number 4 bytes' pcs.dpc))

    load_both : (width : Width) (signed : Bool) (rd va : ℕ) → Asked va
        → Both (obey_load access gpr bytes pcs width signed rd va) (obey_load access' gpr bytes' pcs width signed rd va)
    unfolding obey_load
    load_both width signed rd va q =
        transfer_both false width va _ _ (λ e. misses_data false e q done) (λ i a e. rw (h.reads false width va i a e) (sets rd _ _))

    store_both : (width : Width) (va v : ℕ) → Asked va → Both (obey_store access gpr bytes pcs width va v) (obey_store access' gpr bytes' pcs width va v)
    unfolding obey_store
    store_both width va v q = transfer_both true width va _ _ (λ e. misses_data true e q wrote) (λ i a e. stores width va i v a e)

    obey_both : (w : ℕ) (p : Plan) → Asked (address p) → Both (obey access gpr bytes pcs w p) (obey access' gpr bytes' pcs w p)
    unfolding obey
    obey_both w Unknown q = halts at_word
    obey_both w (Set rd v target) q = sets rd v target
    obey_both w (LoadByte signed rd va) q = load_both byte signed rd va q
    obey_both w (LoadHalf signed rd va) q = load_both half signed rd va q
    obey_both w (LoadWord rd va) q = load_both word false rd va q
    obey_both w (StoreByte va v) q = store_both byte va v q
    obey_both w (StoreHalf va v) q = store_both half va v q
    obey_both w (StoreWord va v) q = store_both word va v q
    obey_both w (Trapping n) q = traps n

    pub attempt_both : Both (attempt access gpr bytes pcs) (attempt access' gpr bytes' pcs)
    unfolding attempt
    attempt_both =
        transfer_both false word pcs.dpc _ _ (λ e. misses_code e) (λ i a e. rw (h.reads false word pcs.dpc i a e) (obey_both _ _ refl))
