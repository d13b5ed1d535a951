-- `transfer::read_bytes`: no byte, or the part of the memory.
use native.Mathlib.Omega.{arith}
use Rattle.plainmachine.proofs.Parts.{read_none, read_part}
use Rattle.plainmachine.proofs.transfer.read_bytes.Goals as goal

pub returns-then-into-eq0 : goal.returns-then-into-eq0
returns-then-into-eq0 c =
    let a = c.args in
    read_none a.into.now a.memory.now a.va (omega arith)

pub slice_bounds-copy-end : goal.slice_bounds-copy-end
slice_bounds-copy-end c = omega (arith, c.requires (omega arith))

pub returns : goal.returns
returns c =
    let a = c.args in
    read_part a.memory.now _ a.va _ c.copy.ensures
