-- The length of the array that a machine's book holds, from what owning the machine tells (`c.good` of a function that takes one).
use mathlib.Core.Path.{◌≡◌}
use mathlib.Core.List.{List}
use mir.Val.{Val}
use lib.ListN.{length}
use denote.Laws.{Is}
use denote.Struct.Laws as LL
use Rattle.model.specs.declared.Machine.{Machine}
use Rattle.model.specs.contracts.Machine as M
use Rattle.model.proofs.Machine.TheLaws as M'
use Rattle.model.specs.contracts.FrameBook as B
use Rattle.model.proofs.FrameBook.TheLaws as B'

pub held_length : (m : Machine) (vs : List Val) → Is M.the_row m vs → length m.book.held ≡ 32
held_length m vs p = (LL.owed B.the_type B'.the_laws m.book _ (LL.owed M.the_type M'.the_laws m vs p).1.0).1.1.0.1.0.1
