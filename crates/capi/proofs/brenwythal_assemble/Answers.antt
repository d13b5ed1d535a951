-- `brenwythal_assemble`: an answer of another length, or the sizes of what was assembled.
use Rattle.capi.proofs.Calls.{assemble_short, assemble_whole}
use borrow.Author.Rules.{rules}
use Rattle.capi.proofs.brenwythal_assemble.Goals as goal

pub returns-then-answer-ne3 : goal.returns-then-answer-ne3
returns-then-answer-ne3 c = assemble_short _ _ _ (search rules)

pub returns : goal.returns
returns c =
    let call = c.assemble in
    assemble_whole _ _ _ (search rules) call.result _ call.ensures _ _ c.put_assembled.ensures
