-- `page_view`: the page.
use mathlib.Core.Path.{refl}
use borrow.Author.Rules.{rules}
use Rattle.plainmachine.proofs.Outcomes.{view_done}
use Rattle.plainmachine.proofs.page_view.Goals as goal

pub returns-in-Ok : goal.returns-in-Ok
returns-in-Ok c =
    let a = c.args in
    view_done a.m a.memory a.rights.now a.page _ c.in-Ok.ensures _ refl refl
    _ refl (search rules) refl
