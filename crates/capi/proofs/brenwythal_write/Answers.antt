-- `brenwythal_write`: a record of another length, or what the host write leaves.
use mathlib.Core.Path.{◌∙◌}
use Rattle.capi.proofs.Calls.{handed, write_short, write_whole}
use borrow.Author.Rules.{rules}
use Rattle.capi.proofs.brenwythal_write.Goals as goal

pub returns-then-words-ne-RECORD : goal.returns-then-words-ne-RECORD
returns-then-words-ne-RECORD c = write_short _ _ _ _ _ (search rules)

pub returns : goal.returns
returns c =
    handed _ c.host_write-h.result.verdict _ _ _ c.verdict_number.ensures _ c.put_machine.ensures _ c.host_write-h.ensures
    ∙ write_whole _ _ _ _ _ (search rules) _ c.machine_of.ensures
