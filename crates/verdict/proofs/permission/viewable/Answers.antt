-- `permission::viewable`: the page is outside the table, or its entry decides.
use Rattle.verdict.proofs.Rights.{not_viewable, viewable_by}
use borrow.Author.Rules.{rules}
use Rattle.verdict.proofs.permission.viewable.Goals as goal

pub returns-then-page-s : goal.returns-then-page-s
returns-then-page-s c = not_viewable _ _ _ (search rules)

pub returns : goal.returns
returns c = viewable_by _ _ _ _ c.first_va.ensures _ c.locate.ensures _ c.legal.ensures
