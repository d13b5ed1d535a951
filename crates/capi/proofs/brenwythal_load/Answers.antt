-- `brenwythal_load`: a record of another length, or what loading leaves.
use mathlib.Core.Path.{◌∙◌}
use Rattle.capi.proofs.Calls.{handed, load_short, load_whole}
use borrow.Author.Rules.{rules}
use Rattle.capi.proofs.brenwythal_load.Goals as goal

pub returns-then-words-ne-RECORD : goal.returns-then-words-ne-RECORD
returns-then-words-ne-RECORD c = load_short _ _ _ _ (search rules)

pub returns : goal.returns
returns c =
    handed _ c.load-h.result.verdict _ _ _ c.verdict_number.ensures _ c.put_machine.ensures _ c.load-h.ensures
    ∙ load_whole _ _ _ _ (search rules)
