-- `same_page`: the parts that are compared are the pages.
use mathlib.Core.Path.{ap₂, ◌∙◌}
use Rattle.model.specs.Bytes.{same}
use Rattle.words.proofs.Compared.{pointwise_same}
use Rattle.words.proofs.Copies.{part_page}
use Rattle.words.proofs.same_page.Goals as goal

pub returns : goal.returns
returns c =
    let a = c.args in
    c.eq.ensures ∙ pointwise_same _ _ ∙ ap₂ same (part_page a.a.now a.x) (part_page a.b.now a.y)
