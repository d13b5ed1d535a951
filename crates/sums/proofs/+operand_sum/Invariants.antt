-- `operand` and `sum`, measured by the bytes left: what is read from `from` on behind `acc` is the sum that begins at `at`.
use mathlib.Core.Path.{◌≡◌}
use Prim.Native.Nat.{◌+◌, ◌-◌, ◌*◌, ◌≤◌, ◌<◌, ◌^◌}
use lib.ListN.{length}
use Rattle.notation.specs.Sums.{terms, read_at, sum_at}
use Rattle.sums.proofs.+operand_sum.Given as goal

abbrev pub decreases-operand : goal.decreases-operand
decreases-operand l = 2 * (length l.s.now - l.at) + 1

abbrev pub decreases-sum : goal.decreases-sum
decreases-sum l = 2 * (length l.s.now - l.at) + 2

abbrev pub invariant-sum-loop-value : goal.invariant-sum-loop-value
invariant-sum-loop-value l =
    (l.at ≤ l.from) × (l.acc < 2 ^ 32) × (read_at l.s (terms l.at l.from l.acc l.minus l.depth) ≡ sum_at l.s l.at l.depth)

abbrev pub decreases-sum-loop-value : goal.decreases-sum-loop-value
decreases-sum-loop-value l = length l.s - l.from
