-- `put_numbers`: the first i are put.
use Prim.Native.Nat.{◌+◌, ◌*◌, ◌≤◌}
use lib.ListN.{take}
use Rattle.text.specs.Text.{Appended}
use Rattle.answerlines.specs.Lines.{spaced_all}
use Rattle.answerlines.proofs.put_numbers.Given as goal

abbrev pub invariant-loop-n : goal.invariant-loop-n
invariant-loop-n l = (l.to ≤ l.at + 11 * l.n-index) × Appended l.initial.out l.at l.out l.to (spaced_all (take l.n-index l.numbers))
