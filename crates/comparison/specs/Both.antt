-- Both machines side by side, and where they agree: in "the registers (GPR, DPC, PC')" and in every "byte of the guest's memory".
use Rattle.std.specs.Prelude.{Bool, ◌≡◌, List, [], ◌∷◌, ℕ, ◌*◌, eqb, length}
use Rattle.model.specs.Choice.{passes}
use Rattle.model.specs.Bytes.{same}
use Rattle.model.specs.State.{State, state}
use Rattle.model.specs.Flat.{flat_bytes}
use Rattle.model.specs.declared.Machine.{Machine}
use Rattle.laws.specs.Good.{Good}
use Rattle.plainmodel.specs.State.{PlainState, plain_state}
use Rattle.plainmodel.specs.declared.Plain.{Plain}

pub record Both : Type 0 where
  pub paged : State
  pub plain : PlainState

-- the two records, and what is lent with each
abbrev pub both : Machine → List ℕ → List ℕ → Plain → List ℕ → List ℕ → Both
both m main swap p bytes rights = record { paged = state m main swap; plain = plain_state p bytes rights }

-- the paged machine beside the plain record and its memory: all 4096·ptl bytes of the guest, whatever the rights
unfoldable pub agreeing : State → Plain → List ℕ → Bool
agreeing p m bytes = passes (
    same p.machine.gpr m.gpr
    ∷ eqb p.machine.pcs.dpc m.pcs.dpc
    ∷ eqb p.machine.pcs.next m.pcs.next
    ∷ same (flat_bytes p.machine.shape p.memory) bytes
    ∷ [])

abbrev pub agree : Both → Bool
agree d = agreeing d.paged d.plain.plain d.plain.bytes

-- what holds between two lines: the paged machine is good, and the plain memory has as many pages
pub record Stands (p : State) (bytes : List ℕ) : Type 0 where
  pub good : Good p
  pub long : length bytes ≡ 4096 * p.machine.shape.ptl
