-- The flat machine, source document 000's virtual DLX: registers, 4096·ptl bytes and a rights byte for each page. It takes the same
-- attempt and the same run as the paged machine. And the flat machine that a paged one stands for.
use Rattle.std.specs.Prelude.{Bool, true, false, List, ℕ, ◌+◌, ◌*◌, eqb, ltb, length, get_or, if◌then◌else◌}
use Rattle.model.specs.Choice.{list_below}
use Rattle.model.specs.Words.{low, field}
use Rattle.model.specs.Pages.{virtual, page_of}
use Rattle.model.specs.Table.{entry}
use Rattle.model.specs.State.{Memory, State}
use Rattle.model.specs.Translate.{flat_byte}
use Rattle.model.specs.Attempt.{Tried, attempt}
use Rattle.model.specs.Run.{Step, stops, answered}
use Rattle.model.specs.declared.Shape.{Shape}
use Rattle.model.specs.declared.Pcs.{Pcs}
use Rattle.model.specs.declared.Access.{Access}
use Rattle.model.specs.declared.Access.TheVariants.{Illegal, At}
use Rattle.model.specs.declared.Stop.TheVariants as stop

pub record Flat : Type 0 where
  pub gpr : List ℕ
  pub pcs : Pcs
  pub bytes : List ℕ
  pub rights : List ℕ

-- a rights byte: 1 read, 2 write, 3 both, 0 none
abbrev pub grants : Bool → ℕ → Bool
grants true b = eqb (field 1 1 b) 1
grants false b = eqb (low 1 b) 1

-- an access to the flat memory never faults
unfoldable pub allow : List ℕ → Bool → ℕ → Access
allow rights writing va =
    if ltb (page_of va).0 (length rights) then (if grants writing (get_or rights (page_of va).0 0) then At va else Illegal)
    else Illegal

abbrev pub flat_try : Flat → Tried
flat_try f = attempt (allow f.rights) f.gpr f.bytes f.pcs

abbrev pub flat_put : Flat → Pcs → List ℕ → List ℕ → Flat
flat_put f pcs gpr bytes = record { gpr = gpr; pcs = pcs; bytes = bytes; rights = f.rights }

unfoldable pub flat_instruction : Flat → Step Flat
flat_instruction f = answered f (flat_put f) (λ i g. g) (λ va. stops (stop.IllegalMemory va) 0 f) (flat_try f)

-- ---- the flat machine that a paged machine stands for
-- r and w of an entry, as a rights byte
abbrev pub rights_byte : ℕ → ℕ
rights_byte e = field 2 1 e + 2 * field 1 1 e

abbrev pub flat_bytes : Shape → Memory → List ℕ
flat_bytes s m = list_below (4096 * s.ptl) (λ va. flat_byte s m va)

abbrev pub flat_rights : Shape → List ℕ → List ℕ
flat_rights s main = list_below s.ptl (λ x. rights_byte (entry s main (virtual x)))

unfoldable pub flat : State → Flat
flat p = record {
  gpr = p.machine.gpr;
  pcs = p.machine.pcs;
  bytes = flat_bytes p.machine.shape p.memory;
  rights = flat_rights p.machine.shape p.memory.main;
}
