-- Whether both machines agree, at each way out: the registers differ, DPC or PC' does, or it is the memory that tells.
use mathlib.Core.Path.{◌≡◌, sym}
use mathlib.Core.Bool.{true, false, and-true}
use mathlib.Core.List.{List}
use Prim.Native.Nat.{ℕ}
use borrow.Author.Tests.{eq-eqb, ne_eqb}
use Rattle.model.specs.Choice.{passes}
use Rattle.model.specs.Bytes.{same}
use Rattle.model.specs.State.{State}
use Rattle.model.specs.Flat.{flat_bytes}
use Rattle.laws.proofs.Choice.{pass_not}
use Rattle.plainmodel.specs.declared.Plain.{Plain}
use Rattle.comparison.specs.Both.{agreeing}

module _ (p : State) (m : Plain) (bytes : List ℕ) where
  pub registers_differ : same p.machine.gpr m.gpr ≡ false → false ≡ agreeing p m bytes
  unfolding agreeing
  registers_differ e = sym (pass_not _ 0 e)

  pub dpc_differs : (p.machine.pcs.dpc ≡ m.pcs.dpc → ⊥) → false ≡ agreeing p m bytes
  unfolding agreeing
  dpc_differs h = sym (pass_not _ 1 (ne_eqb _ _ h))

  pub next_differs : (p.machine.pcs.next ≡ m.pcs.next → ⊥) → false ≡ agreeing p m bytes
  unfolding agreeing
  next_differs h = sym (pass_not _ 2 (ne_eqb _ _ h))

  pub memory_tells : same p.machine.gpr m.gpr ≡ true → p.machine.pcs.dpc ≡ m.pcs.dpc → p.machine.pcs.next ≡ m.pcs.next
      → same (flat_bytes p.machine.shape p.memory) bytes ≡ agreeing p m bytes
  unfolding agreeing passes
  memory_tells e d n = rw (e, eq-eqb _ _ d, eq-eqb _ _ n) (sym (and-true (same (flat_bytes p.machine.shape p.memory) bytes)))
