-- `speak`: between two lines, what is said and what is still to be said are together what was to be said.
use Prim.Native.Nat.{◌-◌}
use lib.ListN.{length}
use Rattle.talk.specs.Stretch.{point}
use Rattle.talk.proofs.Talking.{Between}
use Rattle.session.specs.Desk.{desk, spoken}
use Rattle.session.specs.Ready.{Room, Lent}
use Rattle.session.proofs.speak.Given as goal

abbrev pub invariant-loop-place : goal.invariant-loop-place
invariant-loop-place l =
    Between spoken l.script l.initial.out (point l.initial.number (desk l.initial.at l.initial.main l.initial.swap) l.initial.place) l.out (point l.number (desk l.at l.main l.swap) l.place) l.filled
    × Lent l.at × Room l.main l.swap l.out

abbrev pub decreases-loop-place : goal.decreases-loop-place
decreases-loop-place l = length l.script - l.place
