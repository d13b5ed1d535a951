-- `walk` meets its contract: between two attempts the leg is `Walking` and DPC on the code page, and each outcome of the next attempt
-- is one law. The measure: the instructions that are left.
use mathlib.Core.Path.{◌≡◌}
use lib.ListN.{length}
use Rattle.model.specs.Pages.{page_of}
use Rattle.engine.proofs.Walking.{Walking}
use Rattle.engine.proofs.walk.Given as goal

abbrev pub invariant-loop-left : goal.invariant-loop-left
invariant-loop-left l =
    Walking l.s l.c l.n l.initial.g l.initial.pcs l.initial.main l.g l.pcs l.main l.left l.stored × ((page_of l.pcs.dpc).0 ≡ l.c.page.0) × (length l.main ≡ length l.initial.main)

abbrev pub decreases-loop-left : goal.decreases-loop-left
decreases-loop-left l = l.left
