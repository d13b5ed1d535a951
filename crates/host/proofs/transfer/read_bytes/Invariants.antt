-- `transfer::read_bytes`: the first i bytes have come.
use Prim.Native.Nat.{◌-◌}
use lib.ListN.{length}
use Rattle.model.specs.State.{memory}
use Rattle.host.proofs.Transfers.{Reading}
use Rattle.host.proofs.transfer.read_bytes.Given as goal

abbrev pub invariant-loop-i : goal.invariant-loop-i
invariant-loop-i l = Reading l.s (memory l.main l.swap) l.va l.initial.into l.into l.i

abbrev pub decreases-loop-i : goal.decreases-loop-i
decreases-loop-i l = length l.initial.into - l.i
