-- `walk` meets its contract: between two attempts the leg is `Walking`, and each outcome of the next attempt is one law. The measure: the
-- instructions that are left.
use mathlib.Core.Path.{◌≡◌}
use lib.ListN.{length}
use Rattle.plainengine.proofs.Walking.{Walking}
use Rattle.plainengine.proofs.walk.Given as goal

abbrev pub invariant-loop-g : goal.invariant-loop-g
invariant-loop-g l = Walking l.n l.rights l.initial.g l.initial.pcs l.initial.m l.g l.pcs l.m l.left × (length l.m ≡ length l.initial.m)

abbrev pub decreases-loop-g : goal.decreases-loop-g
decreases-loop-g l = l.left
