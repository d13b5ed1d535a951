-- `agree::same_memory`: before page x all pages below it are compared.
use Prim.Native.Nat.{◌*◌}
use Rattle.model.specs.State.{memory}
use Rattle.model.specs.Flat.{flat_bytes}
use Rattle.comparison.proofs.Compared.{So}
use Rattle.comparison.proofs.agree.same_memory.Given as goal

abbrev pub invariant-loop-x : goal.invariant-loop-x
invariant-loop-x l = So (flat_bytes l.m.shape (memory l.main l.swap)) l.memory l.equal (4096 * l.x)
