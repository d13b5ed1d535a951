-- Demand 3's instructions "in the same order": the pages that each needs, by registers and flat memory only. No word here of frames.
use Rattle.std.specs.Prelude.{Bool, true, false, List, [], ◌∷◌, ◌++◌, ℕ, zero, suc, if◌then◌else◌}
use Rattle.model.specs.Words.{aligned}
use Rattle.model.specs.Bytes.{number}
use Rattle.model.specs.Pages.{page_of}
use Rattle.model.specs.Translate.{legal}
use Rattle.model.specs.Instruction.{plan}
use Rattle.model.specs.Attempt.{Width, byte, half, word, size}
use Rattle.model.specs.Run.{Step, goes, stops}
use Rattle.model.specs.Flat.{Flat, allow, flat_instruction}
use Rattle.model.specs.declared.VirtualPage.{VirtualPage}
use Rattle.model.specs.declared.Plan.{Plan}
use Rattle.model.specs.declared.Plan.TheVariants.{Unknown, Set, LoadByte, LoadHalf, LoadWord, StoreByte, StoreHalf, StoreWord, Trapping}

-- what an instruction needs: its code page alone, or its code page and its data page together (they may be one page)
pub data Demand : Type 0 where
  alone : VirtualPage → Demand
  both : VirtualPage → VirtualPage → Demand

-- code page c, and the data page of va where that access is aligned and legal
abbrev pub with_data : Flat → VirtualPage → Bool → Width → ℕ → Demand
with_data f c writing width va =
    if aligned (size width) va then (if legal (allow f.rights writing va) then both c (page_of va) else alone c) else alone c

abbrev pub demand_by : Flat → VirtualPage → Plan → Demand
demand_by f c Unknown = alone c
demand_by f c (Set rd v target) = alone c
demand_by f c (LoadByte signed rd va) = with_data f c false byte va
demand_by f c (LoadHalf signed rd va) = with_data f c false half va
demand_by f c (LoadWord rd va) = with_data f c false word va
demand_by f c (StoreByte va v) = with_data f c true byte va
demand_by f c (StoreHalf va v) = with_data f c true half va
demand_by f c (StoreWord va v) = with_data f c true word va
demand_by f c (Trapping n) = alone c

-- "an instruction that stops after a legal fetch needs its code page alone"; one whose fetch is misaligned or illegal needs none
unfoldable pub demand_of : Flat → List Demand
demand_of f =
    if aligned 4 f.pcs.dpc
    then (if legal (allow f.rights false f.pcs.dpc)
    then demand_by f (page_of f.pcs.dpc) (plan f.gpr f.pcs.next (number 4 f.bytes f.pcs.dpc)) ∷ [] else [])
    else []

-- what follows an instruction that goes on
abbrev pub onwards : Step Flat → (Flat → List Demand) → List Demand
onwards (goes f) rest = rest f
onwards (stops s k f) rest = []

-- the demands of a run of at most n instructions, in their order
unfoldable pub order_of : ℕ → Flat → List Demand
order_of zero f = []
order_of (suc n) f = demand_of f ++ onwards (flat_instruction f) (λ next. order_of n next)
