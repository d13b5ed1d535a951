-- `page_view`: an empty part, or the page.
use mathlib.Core.Path.{refl}
use Rattle.laws.proofs.Parts.{cut_none}
use Rattle.model.specs.State.{state}
use Rattle.machine.proofs.Outcomes.{view_refused, view_done}
use Rattle.host.proofs.Leans.{view_leans}
use Rattle.machine.proofs.Length.{held_length}
use borrow.Author.Rules.{rules}
use Rattle.machine.proofs.page_view.Goals as goal

pub page_part-requires : goal.page_part-requires
page_part-requires c =
    let a = c.args in
    view_leans (state a.m a.main.now a.swap.now) (held_length a.m _ c.well_formed.0) _ _
    c.in-Ok.ensures refl

pub returns-in-Err : goal.returns-in-Err
returns-in-Err c =
    view_refused _ _ _ _ _ c.in-Err.ensures _ refl _
    (cut_none _ _ _ refl refl (search rules) refl)

pub returns-in-Ok : goal.returns-in-Ok
returns-in-Ok c = view_done _ _ _ _ _ c.in-Ok.ensures refl _ c.page_part.ensures
