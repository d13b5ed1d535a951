-- `reach` of the paged machine: a place that is reached ends within main memory.
use mathlib.Core.Path.{ap, ◌∙◌}
use Prim.Native.Nat.{ℕ}
use Rattle.model.specs.Translate.{translate}
use Rattle.cpu.specs.Reach.{reach}
use Rattle.cpu.proofs.Ways.{inside}
use Rattle.cpu.proofs.access.ShapeReaching.reach.Goals as goal

pub returns-clause-inside : goal.returns-clause-inside
returns-clause-inside c =
    let a = c.args in
    λ w e.
    inside _ _ c.requires.0 a.writing w _ _
    (c.reach.ensures ∙ ap (λ (n : ℕ). reach n a.va (translate a.self a.m.now a.writing a.va)) e)
