-- `speak`: between two lines, what is said and what is still to be said are together what was to be said.
use Prim.Native.Nat.{◌-◌}
use lib.ListN.{length}
use Rattle.talk.specs.Stretch.{point}
use Rattle.talk.proofs.Talking.{Between}
use Rattle.plainsession.specs.Desk.{desk, spoken}
use Rattle.plainsession.specs.Ready.{Room, Lent}
use Rattle.plainsession.proofs.speak.Given as goal

abbrev pub invariant-loop-place : goal.invariant-loop-place
invariant-loop-place l =
    Between spoken l.script l.initial.out (point l.initial.number (desk l.initial.at l.initial.memory l.initial.rights) l.initial.place) l.out (point l.number (desk l.at l.memory l.rights) l.place) l.filled
    × Lent l.at × Room l.memory l.rights l.out

abbrev pub decreases-loop-place : goal.decreases-loop-place
decreases-loop-place l = length l.script - l.place
