-- What an access comes to before anything is read or written, on any memory, and what follows from it: the outcome of a load or
-- store, the load or store itself, and the attempt that goes on from its place.
use Rattle.std.specs.Prelude.{◌≡◌, Bool, List, ℕ, ◌+◌, ◌*◌, ◌≤◌, if◌then◌else◌}
use Rattle.model.specs.Words.{aligned, extend}
use Rattle.model.specs.Bytes.{number}
use Rattle.model.specs.Bytes as bytes
use Rattle.model.specs.Instruction.{onward, written}
use Rattle.model.specs.Attempt.{Tried, tried}
use Rattle.model.specs.declared.Pcs.{Pcs}
use Rattle.model.specs.declared.Access.{Access}
use Rattle.model.specs.declared.Access.TheVariants as says
use Rattle.model.specs.declared.Stop.TheVariants as stop
use Rattle.model.specs.declared.Outcome.{Outcome}
use Rattle.model.specs.declared.Outcome.TheVariants.{Done, Wrote, Missing, Stopped}
use Rattle.cpu.specs.declared.access.Reached.{Reached}
use Rattle.cpu.specs.declared.access.Reached.TheVariants.{Misaligned, Illegal, Fault, At}

abbrev pub reached_by : Access → Reached
reached_by says.Illegal = Illegal
reached_by says.Fault = Fault
reached_by (says.At i) = At i

-- "address not a multiple of its width: stop 3", else what the memory says of the access to va
unfoldable pub reach : ℕ → ℕ → Access → Reached
reach width va a = if aligned width va then reached_by a else Misaligned

-- "illegal: stop 2; fault: load, begin anew", "DPC becomes PC', PC' becomes .. PC'+4"
abbrev pub ended : ℕ → (ℕ → Outcome) → Reached → Outcome
ended va done Misaligned = Stopped (stop.Misaligned va)
ended va done Illegal = Stopped (stop.IllegalMemory va)
ended va done Fault = Missing va
ended va done (At i) = done i

abbrev pub onward_of : Pcs → Pcs
onward_of p = record { dpc = p.next; next = onward p.next }

unfoldable pub loaded : Pcs → ℕ → Reached → Outcome
loaded p va r = ended va (λ i. Done (onward_of p)) r

unfoldable pub stored : Pcs → ℕ → Reached → Outcome
stored p va r = ended va (λ i. Wrote (onward_of p) i) r

-- what is done at the place; where there is none, registers and bytes stay
unfoldable pub after : List ℕ → List ℕ → ℕ → (ℕ → Tried) → Reached → Tried
after gpr bytes va done Misaligned = tried (Stopped (stop.Misaligned va)) gpr bytes
after gpr bytes va done Illegal = tried (Stopped (stop.IllegalMemory va)) gpr bytes
after gpr bytes va done Fault = tried (Missing va) gpr bytes
after gpr bytes va done (At i) = done i

-- ---- a load and a store of n bytes, whose access came to r
-- its place, if there is one, ends within so many bytes
abbrev pub Ends : ℕ → ℕ → Reached → Type 0
Ends n most r = (i : ℕ) → r ≡ At i → i + n ≤ most

-- "lb and lh sign extended"
abbrev pub read : ℕ → Bool → List ℕ → ℕ → ℕ
read n signed memory i = if signed then extend (8 * n) (number n memory i) else number n memory i

unfoldable pub load : ℕ → Bool → ℕ → ℕ → Pcs → List ℕ → List ℕ → Reached → Tried
load n signed rd va p gpr memory r =
    after gpr memory va (λ i. tried (Done (onward_of p)) (written gpr rd (read n signed memory i)) memory) r

unfoldable pub store : ℕ → ℕ → ℕ → Pcs → List ℕ → List ℕ → Reached → Tried
store n va v p gpr memory r = after gpr memory va (λ i. tried (Wrote (onward_of p) i) gpr (bytes.store n memory i v)) r
