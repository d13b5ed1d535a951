-- `format::rights_right`: the rights bytes so far are tested.
use mathlib.Core.Path.{◌≡◌}
use lib.Dec.{leb}
use lib.ListN.{get_or}
use Rattle.model.specs.Choice.{every_below}
use Rattle.image.proofs.format.rights_right.Given as goal

abbrev pub invariant-loop-byte : goal.invariant-loop-byte
invariant-loop-byte l = l.right ≡ every_below l.byte-index (λ k. leb (get_or l.rights k 0) 3)
