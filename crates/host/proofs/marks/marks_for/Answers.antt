-- `marks::marks_for`: the pages of the first byte and of the last are those of all.
use Prim.Native.Nat.{◌-◌}
use native.Mathlib.Omega.{arith}
use Rattle.host.proofs.Where.{mark_ends}
use Rattle.host.proofs.marks.marks_for.Goals as goal

pub overflow_add-last : goal.overflow_add-last
overflow_add-last c =
    omega (arith, c.requires.1 (c.args.n - 1) (omega arith), c.requires.0.fit.ptl_most)

pub mark_for-requires : goal.mark_for-requires
mark_for-requires c =
    (c.requires.0, omega (arith, c.requires.1 0 (omega arith)))

pub mark_for-requires-2 : goal.mark_for-requires-2
mark_for-requires-2 c =
    (c.requires.0, omega (arith, c.requires.1 (c.args.n - 1) (omega arith)))

pub returns : goal.returns
returns c = mark_ends _ _ _ _ _ _ _ _ c.mark_for-2.ensures c.mark_for.ensures (omega arith) (omega arith) (omega arith)
