-- `brenwythal_plain_load`: a record of another length, or what loading leaves.
use Rattle.plaincapi.proofs.Calls.{load_short, load_whole}
use borrow.Author.Rules.{rules}
use Rattle.plaincapi.proofs.brenwythal_plain_load.Goals as goal

pub returns-then-words-ne-RECORD : goal.returns-then-words-ne-RECORD
returns-then-words-ne-RECORD c = load_short _ _ _ _ (search rules)

pub returns : goal.returns
returns c =
    load_whole _ _ _ _ (search rules) _ c.load-h.result.verdict _ _ c.load-h.ensures _ c.verdict_number.ensures _ c.put_plain.ensures
