-- `transfer::write_bytes`: what is left of the bytes, written to the memories as they are, comes to all of them.
use native.Mathlib.Omega.{arith}
use Rattle.host.proofs.Transfers.{writing_start, writing_next, writing_done}
use borrow.Author.Rules.{rules}
use Rattle.host.proofs.transfer.write_bytes.Goals as goal

pub loop-i-init : goal.loop-i-init
loop-i-init c = writing_start _ _ _ _ _ c.requires.0

pub overflow_cast-at : goal.overflow_cast-at
overflow_cast-at c =
    let pre = c.requires in
    omega (arith, pre.1 c.loop-i.i (omega arith), pre.0.safe.fit.ptl_most)

pub overflow_add-at : goal.overflow_add-at
overflow_add-at c =
    let pre = c.requires in
    omega (arith, pre.1 c.loop-i.i (omega arith), pre.0.safe.fit.ptl_most)

pub write_part-requires : goal.write_part-requires
write_part-requires c =
    let inside = c.requires.1 c.loop-i.i (omega arith) in
    (c.loop-i.invariant.reach, omega (arith, inside), omega (arith, c.within.ensures))

pub loop-i-smaller : goal.loop-i-smaller
loop-i-smaller c = omega (arith, c.within.ensures)

pub loop-i-preserved : goal.loop-i-preserved
loop-i-preserved c =
    writing_next _ _ _ _ _ _ _ _ c.loop-i.invariant c.requires.1 _ (omega (arith, c.within.ensures)) _ (omega arith) _ _
    c.write_part.ensures

pub returns : goal.returns
returns c = writing_done _ _ _ _ _ _ _ _ c.loop-i.invariant (search rules)
