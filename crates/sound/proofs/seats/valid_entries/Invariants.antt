-- `seats::valid_entries`: n of the first x entries are valid.
use mathlib.Core.Path.{◌≡◌}
use Prim.Native.Nat.{◌≤◌}
use Rattle.sound.specs.Count.{valid_below}
use Rattle.sound.proofs.seats.valid_entries.Given as goal

abbrev pub invariant-loop-x : goal.invariant-loop-x
invariant-loop-x l = (l.n ≤ l.x) × (l.n ≡ valid_below l.s l.main l.x)
