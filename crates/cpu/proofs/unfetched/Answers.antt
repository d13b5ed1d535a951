-- `unfetched`: what the fetch comes to ends the attempt.
use mathlib.Core.Path.{sym, ◌∙◌}
use Rattle.cpu.proofs.Ways.{placed, attempt_ended}
use Rattle.cpu.proofs.unfetched.Goals as goal

pub returns : goal.returns
returns c =
    λ gpr.
    attempt_ended _ gpr _ _ _ c.reach.ensures
    (λ i at. c.requires.1 i (placed _ _ _ i (sym c.reach.ensures ∙ at)).at) _ c.loaded.ensures
