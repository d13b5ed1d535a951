-- `brenwythal_read`: a record of another length, or what the host read leaves.
use Rattle.capi.proofs.Calls.{read_short, read_whole}
use borrow.Author.Rules.{rules}
use Rattle.capi.proofs.brenwythal_read.Goals as goal

pub returns-then-words-ne-RECORD : goal.returns-then-words-ne-RECORD
returns-then-words-ne-RECORD c = read_short _ _ _ _ _ (search rules)

pub returns : goal.returns
returns c =
    read_whole _ _ _ _ _ (search rules) _ c.machine_of.ensures c.host_read.result _ c.host_read.ensures _
    c.verdict_number.ensures
