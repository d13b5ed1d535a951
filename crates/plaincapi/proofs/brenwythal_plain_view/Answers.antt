-- `brenwythal_plain_view`: a record or a buffer of another length, a refusal, or the page.
use Rattle.plaincapi.proofs.Views.{view_short, view_narrow, view_refused, view_done}
use borrow.Author.Rules.{rules}
use Rattle.plaincapi.proofs.brenwythal_plain_view.Goals as goal

pub returns-then-words-ne-RECORD : goal.returns-then-words-ne-RECORD
returns-then-words-ne-RECORD c = view_short _ _ _ _ _ (search rules)

pub returns-then-into-ne-PAGE : goal.returns-then-into-ne-PAGE
returns-then-into-ne-PAGE c = view_narrow _ _ _ _ _ (search rules) (search rules)

pub returns-then-part-ne-PAGE : goal.returns-then-part-ne-PAGE
returns-then-part-ne-PAGE c =
    view_refused _ _ _ _ _ (search rules) (search rules) _ c.plain_of-m.ensures _ c.page_view-part.ensures.bytes
    (search rules) c.view_answer.result c.view_answer.ensures _ c.verdict_number.ensures

pub returns : goal.returns
returns c =
    view_done _ _ _ _ _ (search rules) (search rules) _ c.plain_of-m.ensures _ c.page_view-part.ensures.bytes
    (search rules) _ c.copy.ensures
