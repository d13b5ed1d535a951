-- `reach` of the flat memory: a place that is reached ends within it.
use mathlib.Core.Path.{ap, ◌∙◌}
use Prim.Native.Nat.{ℕ}
use Rattle.model.specs.Flat.{allow}
use Rattle.cpu.specs.Reach.{reach}
use Rattle.plaincpu.proofs.Ways.{inside}
use Rattle.plaincpu.proofs.rights.RightsReaching.reach.Goals as goal

pub returns-clause-inside : goal.returns-clause-inside
returns-clause-inside c =
    let a = c.args in
    λ w e.
    inside _ _ c.requires.0 a.writing w _ _
    (c.reach.ensures ∙ ap (λ (n : ℕ). reach n a.va (allow a.self.of.now a.writing a.va)) e)
