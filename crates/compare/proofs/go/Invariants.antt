-- `go`: stretch after stretch, to the script's end; what is written so far and what is still to be said are together what was to be said.
use mathlib.Core.Path.{◌≡◌}
use Prim.Native.Nat.{◌-◌}
use lib.ListN.{length}
use Rattle.files.proofs.Known.{Saying}
use Rattle.model.specs.State.{state}
use Rattle.talk.specs.Script.{talk, lines_of}
use Rattle.talk.specs.Stretch.{on_from}
use Rattle.talk.proofs.Going.{Going}
use Rattle.comparison.specs.Both.{Stands}
use Rattle.comparison.specs.Desk.{desk}
use Rattle.comparison.specs.Line.{spoken}
use Rattle.comparison.specs.Script.{reached}
use Rattle.comparison.proofs.Reached.{Lengths}
use Rattle.compare.proofs.go.Given as goal

abbrev pub invariant-loop-at : goal.invariant-loop-at
invariant-loop-at g l = record {
  going : Going spoken l.script (desk l.fn.first l.fn.main l.fn.swap l.fn.memory l.rights)
      (reached (desk l.at.standing l.main l.swap l.memory l.rights) l.at.place);
  saying : Saying (talk spoken 0 (desk l.fn.first l.fn.main l.fn.swap l.fn.memory l.rights) (lines_of l.script)).text
      (g.W.Write.contents l.fn.to) (g.W.Write.contents l.to)
      (on_from spoken l.script (reached (desk l.at.standing l.main l.swap l.memory l.rights) l.at.place)).text;
  stands : Stands (state l.at.standing.machine l.main l.swap) l.memory;
  lengths : Lengths l.fn.main l.fn.swap l.fn.memory l.main l.swap l.memory;
  out_as : length l.out ≡ length l.fn.out;
}

abbrev pub decreases-loop-at : goal.decreases-loop-at
decreases-loop-at g l = length l.script - l.at.place
