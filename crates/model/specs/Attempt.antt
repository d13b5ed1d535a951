-- Section "One attempt", on any memory that says of an access to a virtual address whether it is illegal, faults, or where in a
-- list of bytes it goes. The paged machine and the flat machine are both this, each with its own access. A store that is carried out
-- says where.
use Rattle.std.specs.Prelude.{Bool, true, false, List, ℕ, ◌*◌, if◌then◌else◌}
use Rattle.model.specs.Words.{aligned, extend}
use Rattle.model.specs.Bytes.{number, store}
use Rattle.model.specs.Instruction.{plan, written, onward}
use Rattle.model.specs.declared.Pcs.{Pcs}
use Rattle.model.specs.declared.Access.{Access}
use Rattle.model.specs.declared.Access.TheVariants.{Illegal, Fault, At}
use Rattle.model.specs.declared.Plan.{Plan}
use Rattle.model.specs.declared.Plan.TheVariants.{Unknown, Set, LoadByte, LoadHalf, LoadWord, StoreByte, StoreHalf, StoreWord, Trapping}
use Rattle.model.specs.declared.Stop.{Stop}
use Rattle.model.specs.declared.Stop.TheVariants.{IllegalMemory, Misaligned, IllegalInstruction}
use Rattle.model.specs.declared.Outcome.{Outcome}
use Rattle.model.specs.declared.Outcome.TheVariants.{Done, Wrote, Trapped, Missing, Stopped}

-- what an attempt comes to, with the registers and the bytes afterwards
pub record Tried : Type 0 where
  pub outcome : Outcome
  pub gpr : List ℕ
  pub bytes : List ℕ

abbrev pub tried : Outcome → List ℕ → List ℕ → Tried
tried o gpr bytes = record { outcome = o; gpr = gpr; bytes = bytes }

-- the widths of loads and stores, in bytes
pub data Width : Type 0 where
  byte : Width
  half : Width
  word : Width

abbrev pub size : Width → ℕ
size byte = 1
size half = 2
size word = 4

module _ (access : Bool → ℕ → Access) (gpr bytes : List ℕ) (pcs : Pcs) where
  -- "Stops 2 to 4 leave registers as before that instruction"
  abbrev pub stopped : Stop → Tried
  stopped s = tried (Stopped s) gpr bytes

  -- what an access to va comes to: "illegal: stop 2; fault: load, begin anew", or what is done at its place
  abbrev pub accessed : Access → ℕ → (ℕ → Tried) → Tried
  accessed Illegal va done = stopped (IllegalMemory va)
  accessed Fault va done = tried (Missing va) gpr bytes
  accessed (At i) va done = done i

  -- an access of so many bytes: "address not a multiple of its width: stop 3"
  unfoldable pub transfer : Bool → Width → ℕ → (ℕ → Tried) → Tried
  transfer writing width va done =
      if aligned (size width) va then accessed (access writing va) va done
      else stopped (Misaligned va)

  -- ---- step 5: "Carry out. DPC becomes PC', PC' becomes the target or PC'+4."
  abbrev pub pcs_to : ℕ → Pcs
  pcs_to target = record { dpc = pcs.next; next = target }

  abbrev pub pcs_onward : Pcs
  pcs_onward = pcs_to (onward pcs.next)

  -- what a load reads at i, "lb and lh sign extended"
  abbrev pub value_at : Width → Bool → ℕ → ℕ
  value_at width signed i = if signed then extend (8 * size width) (number (size width) bytes i) else number (size width) bytes i

  -- ---- step 4, and step 5 where its access goes through
  unfoldable pub obey_load : Width → Bool → ℕ → ℕ → Tried
  obey_load width signed rd va = transfer false width va λ i. tried (Done pcs_onward) (written gpr rd (value_at width signed i)) bytes

  unfoldable pub obey_store : Width → ℕ → ℕ → Tried
  obey_store width va v = transfer true width va λ i. tried (Wrote pcs_onward i) gpr (store (size width) bytes i v)

  -- the word w, which asks for a plan
  unfoldable pub obey : ℕ → Plan → Tried
  -- step 3: "Unknown or privileged word: stop 4."
  obey w Unknown = stopped (IllegalInstruction w)
  -- step 4: "Load or store"
  obey w (LoadByte signed rd va) = obey_load byte signed rd va
  obey w (LoadHalf signed rd va) = obey_load half signed rd va
  obey w (LoadWord rd va) = obey_load word false rd va
  obey w (StoreByte va v) = obey_store byte va v
  obey w (StoreHalf va v) = obey_store half va v
  obey w (StoreWord va v) = obey_store word va v
  -- step 5: "Carry out.", "A trap does this too and is stop 1."
  obey w (Set rd v target) = tried (Done (pcs_to target)) (written gpr rd v) bytes
  obey w (Trapping n) = tried (Trapped pcs_onward n) gpr bytes

  -- step 1: "DPC not a multiple of 4: stop 3.", step 2: "Fetch illegal: stop 2. Fetch faults: load the page, begin the attempt anew."
  unfoldable pub attempt : Tried
  attempt = transfer false word pcs.dpc λ i. obey (number 4 bytes i) (plan gpr pcs.next (number 4 bytes i))
