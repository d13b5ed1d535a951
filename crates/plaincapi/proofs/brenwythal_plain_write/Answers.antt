-- `brenwythal_plain_write`: a record of another length, or what the host write leaves.
use Rattle.plaincapi.proofs.Calls.{write_short, write_whole}
use borrow.Author.Rules.{rules}
use Rattle.plaincapi.proofs.brenwythal_plain_write.Goals as goal

pub returns-then-words-ne-RECORD : goal.returns-then-words-ne-RECORD
returns-then-words-ne-RECORD c = write_short _ _ _ _ _ (search rules)

pub returns : goal.returns
returns c =
    write_whole _ _ _ _ _ (search rules) _ c.plain_of.ensures c.host_write.result _ c.host_write.ensures _
    c.verdict_number.ensures
