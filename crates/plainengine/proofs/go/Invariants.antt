-- `go` meets its contract: between two legs the run under way is `Ran`, and each outcome of the next leg is one law. The measure: the
-- instructions that are left.
use mathlib.Core.Path.{◌≡◌}
use lib.ListN.{length}
use Rattle.plaincpu.specs.Sized.{Sized}
use Rattle.plainengine.specs.Engine.{flat_of, Ran}
use Rattle.plainengine.proofs.go.Given as goal

abbrev pub invariant-loop-left : goal.invariant-loop-left
invariant-loop-left l =
    Ran l.limit (flat_of l.initial.g l.initial.pcs l.rights l.initial.m) l.left (flat_of l.g l.pcs l.rights l.m) × Sized l.rights l.m × (length l.m ≡ length l.initial.m)

abbrev pub decreases-loop-left : goal.decreases-loop-left
decreases-loop-left l = l.left
