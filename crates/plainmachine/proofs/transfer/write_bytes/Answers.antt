-- `transfer::write_bytes`: no byte, or the part of the memory.
use native.Mathlib.Omega.{arith}
use Rattle.plainmachine.proofs.Parts.{written_part}
use Rattle.plainmachine.proofs.transfer.write_bytes.Goals as goal

pub slice_bounds-copy-end : goal.slice_bounds-copy-end
slice_bounds-copy-end c = omega (arith, c.requires (omega arith))

pub returns : goal.returns
returns c =
    let a = c.args in
    written_part a.memory.now a.from.now _ a.va c.copy.ensures
