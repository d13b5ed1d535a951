-- `format::answer`: too short, another edition, another format, or an image.
use mathlib.Core.Path.{ap}
use mathlib.Core.Bool.{not}
use Rattle.image.proofs.Tests.{too_short, edition_wrong, format_wrong, format_right}
use borrow.Author.Rules.{rules}
use Rattle.image.proofs.format.answer.Goals as goal

pub returns-then-file-lt24 : goal.returns-then-file-lt24
returns-then-file-lt24 c = too_short _ (search rules)

pub returns-then-t-ne1 : goal.returns-then-t-ne1
returns-then-t-ne1 c = edition_wrong _ (search rules) c.numbers-t.result c.numbers-t.ensures (search rules)

pub returns-then-not-well_formed : goal.returns-then-not-well_formed
returns-then-not-well_formed c =
    let t = c.numbers-t in
    format_wrong _ (search rules) t.result t.ensures (search rules) _ c.well_formed-2.ensures (ap not c.if-not-well_formed.true)

pub returns : goal.returns
returns c =
    let t = c.numbers-t in
    format_right _ (search rules) t.result t.ensures (search rules) _ c.well_formed-2.ensures (ap not c.if-not-well_formed.false)
