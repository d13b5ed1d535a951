-- `transfer::write_bytes`: what is left of the bytes, written to the memories as they are, comes to all of them.
use Prim.Native.Nat.{◌-◌}
use lib.ListN.{length}
use Rattle.host.proofs.Transfers.{Writing}
use Rattle.host.proofs.transfer.write_bytes.Given as goal

abbrev pub invariant-loop-i : goal.invariant-loop-i
invariant-loop-i l = Writing l.s l.initial.main l.initial.swap l.va l.from l.main l.swap l.i

abbrev pub decreases-loop-i : goal.decreases-loop-i
decreases-loop-i l = length l.from - l.i
