-- `lay`: each part behind the one before it.
use mathlib.Core.Path.{ap, ◌∙◌}
use Rattle.laws.specs.Over.{over}
use Rattle.plainrecord.specs.Words.{gpr_at, dpc_at}
use Rattle.plainrecord.proofs.Words.{laid}
use Rattle.plainrecord.proofs.lay.Goals as goal

pub returns : goal.returns
returns c =
    let a = c.args in
    -- what the arrays tell of themselves
    let g = c.well_formed.1 in
    c.put-3.ensures ∙ ap (λ l. over dpc_at a.tail l) (c.put-2.ensures ∙ ap (λ l. over gpr_at a.gpr l) c.put.ensures)
    ∙ laid a.head a.gpr a.tail g.0.1.0.1 g.1.0.1.0.1 a.to.now g.1.1.0.1.0.1 c.requires
