-- `go` meets its contract: between two legs the run under way is `Running`, and each outcome of the next leg is one law. The measure:
-- the instructions and the loads that are left.
use Prim.Native.Nat.{◌+◌, ◌-◌, ◌*◌, ◌≤◌}
use Rattle.model.specs.Run.{uncounted}
use Rattle.engine.specs.Engine.{of, counted}
use Rattle.engine.proofs.Running.{Running}
use Rattle.engine.proofs.go.Given as goal

abbrev pub invariant-loop-left : goal.invariant-loop-left
invariant-loop-left l =
    (l.left ≤ l.limit) × Running l.limit (uncounted (of l.s l.initial.book l.initial.g l.initial.pcs l.initial.main l.initial.swap)) (counted l.s l.book l.g l.pcs l.main l.swap l.loads l.copied) (l.limit - l.left)

abbrev pub decreases-loop-left : goal.decreases-loop-left
decreases-loop-left l = l.left + (2 * l.limit + 2 - l.loads)
