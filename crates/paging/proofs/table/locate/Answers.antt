-- `table::locate`: four ways out.
use mathlib.Core.Path.{ap}
use mathlib.Core.Bool.{not}
use Rattle.paging.proofs.Ways.{beyond_table, no_right, not_here, is_here}
use borrow.Author.Rules.{rules}
use Rattle.paging.proofs.table.locate.Goals as goal

pub returns-then-x-s : goal.returns-then-x-s
returns-then-x-s c = beyond_table _ _ _ _ _ c.page_of-x.ensures (search rules)

pub returns-then-not-has : goal.returns-then-not-has
returns-then-not-has c =
    no_right _ _ _ _ _ c.page_of-x.ensures (search rules) _
    c.entry-e.ensures _ c.has.ensures (ap not c.if-not-has.true)

pub returns-then-e-ne1 : goal.returns-then-e-ne1
returns-then-e-ne1 c =
    not_here _ _ _ _ _ c.page_of-x.ensures (search rules) _
    c.entry-e.ensures _ c.has.ensures (ap not c.if-not-has.false) (search rules)

pub returns : goal.returns
returns c =
    is_here _ _ _ _ _ c.page_of-x.ensures (search rules) _ c.entry-e.ensures _
    c.has.ensures (ap not c.if-not-has.false) (search rules) _ c.ppx.ensures _ c.main_at.ensures
