-- `brenwythal_list`: an answer of another length, or the size of what was listed.
use Rattle.capi.proofs.Calls.{list_short, list_whole}
use borrow.Author.Rules.{rules}
use Rattle.capi.proofs.brenwythal_list.Goals as goal

pub returns-then-answer-ne1 : goal.returns-then-answer-ne1
returns-then-answer-ne1 c = list_short _ _ _ (search rules)

pub returns : goal.returns
returns c =
    let call = c.list in
    list_whole _ _ _ (search rules) call.result _ call.ensures _ _ c.put_listed.ensures
