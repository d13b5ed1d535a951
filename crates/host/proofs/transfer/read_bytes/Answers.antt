-- `transfer::read_bytes`: the first i bytes have come.
use native.Mathlib.Omega.{arith}
use Rattle.host.proofs.Transfers.{reading_start, reading_next, reading_done}
use borrow.Author.Rules.{rules}
use Rattle.host.proofs.transfer.read_bytes.Goals as goal

pub loop-i-init : goal.loop-i-init
loop-i-init c = reading_start _ _ _ _

pub overflow_cast-at : goal.overflow_cast-at
overflow_cast-at c =
    let pre = c.requires in
    omega (arith, pre.1 c.loop-i.i (omega (arith, c.loop-i.invariant.long)), pre.0.safe.fit.ptl_most)

pub overflow_add-at : goal.overflow_add-at
overflow_add-at c =
    let pre = c.requires in
    omega (arith, pre.1 c.loop-i.i (omega (arith, c.loop-i.invariant.long)), pre.0.safe.fit.ptl_most)

pub read_part-requires : goal.read_part-requires
read_part-requires c =
    let pre = c.requires in
    (pre.0, omega (arith, pre.1 c.loop-i.i (omega (arith, c.loop-i.invariant.long))), omega (arith, c.within.ensures))

pub loop-i-smaller : goal.loop-i-smaller
loop-i-smaller c =
    omega (arith, c.within.ensures, c.loop-i.invariant.long)

pub loop-i-preserved : goal.loop-i-preserved
loop-i-preserved c =
    reading_next _ _ _ _ _ _ c.loop-i.invariant _ (omega (arith, c.within.ensures)) _ (omega arith) _ c.read_part.ensures

pub shape_of-into : goal.shape_of-into
shape_of-into c = c.loop-i.invariant.long

pub returns : goal.returns
returns c = reading_done _ _ _ _ _ _ c.loop-i.invariant (search rules)
