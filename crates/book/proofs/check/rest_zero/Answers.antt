-- `check::rest_zero`: whether the pages from b on are 0, so far.
use Prim.Native.Nat.{◌-◌}
use Rattle.book.proofs.Ways.{zero_before, zero_next}
use borrow.Author.Rules.{rules}
use Rattle.book.proofs.check.rest_zero.Goals as goal

pub loop-x-init : goal.loop-x-init
loop-x-init c = zero_before _ c.args.held.now

pub loop-x-preserved : goal.loop-x-preserved
loop-x-preserved c =
    let a = c.args in
    zero_next a.used a.held.now c.loop-x.x-index (32 - a.used) (search rules) _ c.loop-x.invariant
