-- `put`: after i turns the first i bytes stand in the buffer.
use Prim.Native.Nat.{◌+◌}
use native.Mathlib.Nat.{add_assoc}
use native.Mathlib.Numerals.{add-one}
use native.Mathlib.Omega.{arith}
use lib.ListN.{get_or}
use lib.Seq.{take-suc}
use Rattle.text.proofs.Appending.{byte, joined, length_appended}
use Rattle.text.proofs.put.Goals as goal

pub loop-i-preserved : goal.loop-i-preserved
loop-i-preserved c =
    let a = c.args in
    let v = c.loop-i in
    rw (add-one, take-suc a.bytes.now v.i 0 (omega arith))
    (rw (← add-one, ← add_assoc) (joined v.invariant (byte v.out (a.at + v.i) (get_or a.bytes.now v.i 0) (omega (arith, length_appended)))))
