-- Sentences of document 01 that demand 2 cannot tell from others, since the paged and the flat machine share the definition: where a
-- virtual address is in swap, and where an instruction that is carried out goes.
use mathlib.Core.Path.{◌≡◌, refl}
use mathlib.Core.Bool.{Bool, true, false}
use mathlib.Core.List.{List}
use Prim.Native.Nat.{ℕ, ◌+◌, ◌*◌}
use native.Mathlib.Omega.{arith}
use Rattle.model.specs.Words.{aligned}
use Rattle.model.specs.Bytes.{number}
use Rattle.model.specs.Pages.{page_of, offset, swap_of, swap_at}
use Rattle.model.specs.Instruction.{plan, written}
use Rattle.model.specs.Attempt.{tried, transfer, obey, attempt}
use Rattle.model.specs.declared.Shape.{Shape}
use Rattle.model.specs.declared.Pcs.{Pcs}
use Rattle.model.specs.declared.Access.{Access}
use Rattle.model.specs.declared.Access.TheVariants.{At}
use Rattle.model.specs.declared.Plan.TheVariants.{Set}
use Rattle.model.specs.declared.Outcome.TheVariants.{Done}

-- "sbase counts pages: swap address = sbase·4096 + va"
pub swap_address : (s : Shape) (va : ℕ) → swap_at (swap_of s (page_of va)) (offset va) ≡ s.sbase * 4096 + va
swap_address s va = omega arith

-- "DPC becomes PC', PC' becomes the target", and the target is reckoned from PC', not from DPC
pub set_target : (access : Bool → ℕ → Access) (gpr bytes : List ℕ) (pcs : Pcs) (i rd v target : ℕ) → aligned 4 pcs.dpc ≡ true
    → access false pcs.dpc ≡ At i → plan gpr pcs.next (number 4 bytes i) ≡ Set rd v target
    → attempt access gpr bytes pcs ≡ tried (Done (record { dpc = pcs.next; next = target })) (written gpr rd v) bytes
unfolding attempt transfer obey
set_target access gpr bytes pcs i rd v target a f e = rw (a, f, e) refl
