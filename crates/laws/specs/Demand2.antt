-- Demand 2 as statements: what an instruction and a run of the paged machine come to is what its flat machine comes to (`Right`,
-- `RunRight`); how many pages they load (`Few`, `RunFew`); and what a host write and a reply leave (`flat_write`, `with_marks`, `with_register`).
use Rattle.std.specs.Prelude.{◌≡◌, true, List, ◌++◌, ℕ, ◌+◌, ◌*◌, ◌<◌, ◌≤◌, length, take, drop, set}
use Rattle.model.specs.Pages.{page_of}
use Rattle.model.specs.Table.{entry, valid}
use Rattle.model.specs.Frames.{remarked}
use Rattle.model.specs.State.{State}
use Rattle.model.specs.Run.{Step, stops, Course, Counted, run, instruction}
use Rattle.model.specs.Flat.{Flat, flat, flat_instruction}
use Rattle.model.specs.declared.VirtualPage.{VirtualPage}
use Rattle.model.specs.declared.Machine.{Machine}
use Rattle.model.specs.declared.Stop.{Stop}
use Rattle.model.specs.declared.Stop.TheVariants.{Limit}
use Rattle.laws.specs.Good.{Good}
use Rattle.laws.specs.Mapped.{leaves, map_step, map_course, SameSize}

-- the flat machine of a counted one
abbrev pub flat_of : Counted → Flat
flat_of c = flat c.state

-- ---- an instruction of c that comes to r
pub record Right (c : Counted) (r : Step Counted) : Type 0 where
  pub same : map_step flat_of r ≡ flat_instruction (flat_of c)
  pub good : Good (leaves r).state
  pub size : SameSize c.state (leaves r).state

-- the code page is in a frame
abbrev pub Fetched : State → Type 0
Fetched p = valid (entry p.machine.shape p.memory.main (page_of p.machine.pcs.dpc)) ≡ true

-- The loads of an instruction that may take k: one that stops has loaded its code page at most, and not where that is in a frame.
pub record Few (k : ℕ) (c : Counted) (r : Step Counted) : Type 0 where
  pub least : c.loads ≤ (leaves r).loads
  pub most : (leaves r).loads ≤ c.loads + k
  pub stopping : (s : Stop) (n : ℕ) (d : Counted) → r ≡ stops s n d → d.loads ≤ c.loads + 1
  pub fetched : (s : Stop) (n : ℕ) (d : Counted) → r ≡ stops s n d → Fetched c.state → d.loads ≤ c.loads
  pub unlimited : (n : ℕ) (d : Counted) → r ≡ stops Limit n d → ⊥

-- ---- a run of at most n instructions from c on
pub record RunRight (n : ℕ) (c : Counted) : Type 0 where
  pub same : map_course flat_of (run instruction n c) ≡ run flat_instruction n (flat_of c)
  pub good : Good (run instruction n c).left.state
  pub size : SameSize c.state (run instruction n c).left.state

-- "A run reports at most 2·finished+1 loads, and at most 2·finished if it ended by stop 0."
pub record RunFew (c : Counted) (r : Course Counted) : Type 0 where
  pub most : r.left.loads ≤ c.loads + 2 * r.finished + 1
  pub limit : r.stop ≡ Limit → r.left.loads ≤ c.loads + 2 * r.finished

-- ---- the host
-- the flat machine with these bytes in the place of as many from va on
abbrev pub flat_write : Flat → ℕ → List ℕ → Flat
flat_write f va bytes = record {
  gpr = f.gpr;
  pcs = f.pcs;
  bytes = take va f.bytes ++ bytes ++ drop (va + length bytes) f.bytes;
  rights = f.rights;
}

-- the record with these marks
abbrev pub with_marks : Machine → ℕ → Machine
with_marks m marks = record { shape = m.shape; book = remarked m.book marks; gpr = m.gpr; pcs = m.pcs }

-- page x gets one of the n bytes from va on
abbrev pub Gets : ℕ → ℕ → VirtualPage → Type 0
Gets va n x = (i : ℕ) × (i < n) × (page_of (va + i) ≡ x)

-- the record with one register set
abbrev pub with_register : Machine → ℕ → ℕ → Machine
with_register m i v = record { shape = m.shape; book = m.book; gpr = set m.gpr i v; pcs = m.pcs }
