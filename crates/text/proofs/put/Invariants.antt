-- `put`: after i turns the first i bytes stand in the buffer.
use Prim.Native.Nat.{◌+◌}
use lib.ListN.{take}
use Rattle.text.specs.Text.{Appended}
use Rattle.text.proofs.put.Given as goal

abbrev pub invariant-loop-i : goal.invariant-loop-i
invariant-loop-i l = Appended l.initial.out l.at l.out (l.at + l.i) (take l.i l.bytes)
