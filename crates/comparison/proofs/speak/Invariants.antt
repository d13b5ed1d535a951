-- `speak`: between two lines, what is said and what is still to be said are together what was to be said.
use Prim.Native.Nat.{◌-◌}
use lib.ListN.{length}
use Rattle.model.specs.State.{state}
use Rattle.talk.proofs.Talking.{Between}
use Rattle.comparison.specs.Both.{Stands}
use Rattle.comparison.specs.Desk.{desk}
use Rattle.comparison.specs.Line.{spoken}
use Rattle.comparison.specs.Script.{reached}
use Rattle.comparison.proofs.Reached.{Lengths}
use Rattle.comparison.proofs.speak.Given as goal

abbrev pub invariant-loop-place : goal.invariant-loop-place
invariant-loop-place l =
    Between spoken l.script l.initial.out (reached (desk l.initial.at l.initial.main l.initial.swap l.initial.memory l.rights) l.initial.place) l.out (reached (desk l.at l.main l.swap l.memory l.rights) l.place) l.filled
    × Stands (state l.at.machine l.main l.swap) l.memory × Lengths l.initial.main l.initial.swap l.initial.memory l.main l.swap l.memory

abbrev pub decreases-loop-place : goal.decreases-loop-place
decreases-loop-place l = length l.script - l.place
