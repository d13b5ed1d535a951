-- `agree::same_page`: what is handed out is the flat memory's page.
use mathlib.Core.Path.{ap₂, ◌∙◌}
use Rattle.model.specs.Bytes.{same}
use Rattle.words.proofs.Compared.{pointwise_same}
use Rattle.words.proofs.Copies.{part_page}
use Rattle.comparison.proofs.Compared.{reachable, page_flat}
use Rattle.comparison.proofs.agree.same_page.Goals as goal

pub page_part-part-requires : goal.page_part-part-requires
page_part-part-requires c =
    (reachable c.requires.0, c.requires.1)

pub returns : goal.returns
returns c =
    let a = c.args in
    let e = c.page_part-part.ensures.bytes ∙ page_flat c.requires.0 a.page c.requires.1 in
    c.eq.ensures ∙ pointwise_same _ _ ∙ ap₂ same e (part_page a.memory.now a.page.0)
