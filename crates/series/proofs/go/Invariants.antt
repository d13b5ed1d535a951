-- `go`: stretch after stretch, to the script's end; what is written so far and what is still to be said are together what was to be said.
use mathlib.Core.Path.{◌≡◌}
use Prim.Native.Nat.{◌-◌}
use lib.ListN.{length}
use Rattle.files.proofs.Known.{Saying}
use Rattle.talk.specs.Script.{talk, lines_of}
use Rattle.talk.specs.Stretch.{on_from}
use Rattle.talk.proofs.Going.{Going}
use Rattle.session.specs.Desk.{desk, spoken}
use Rattle.session.specs.Ready.{Room, Lent}
use Rattle.session.specs.Script.{reached}
use Rattle.series.proofs.go.Given as goal

abbrev pub invariant-loop-at : goal.invariant-loop-at
invariant-loop-at g l = record {
  going : Going spoken l.script (desk l.fn.first l.fn.main l.fn.swap) (reached l.at l.main l.swap);
  saying : Saying (talk spoken 0 (desk l.fn.first l.fn.main l.fn.swap) (lines_of l.script)).text
      (g.W.Write.contents l.fn.to) (g.W.Write.contents l.to) (on_from spoken l.script (reached l.at l.main l.swap)).text;
  lent : Lent l.at.standing;
  room : Room l.main l.swap l.out;
  main_as : length l.main ≡ length l.fn.main;
  swap_as : length l.swap ≡ length l.fn.swap;
  out_as : length l.out ≡ length l.fn.out;
}

abbrev pub decreases-loop-at : goal.decreases-loop-at
decreases-loop-at g l = length l.script - l.at.place
