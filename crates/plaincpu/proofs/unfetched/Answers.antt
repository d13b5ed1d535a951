-- `unfetched`: what the fetch comes to ends the attempt.
use Rattle.cpu.proofs.Ways.{attempt_ended}
use Rattle.plaincpu.proofs.Ways.{fetches_none}
use Rattle.plaincpu.proofs.unfetched.Goals as goal

pub returns : goal.returns
returns c =
    λ gpr bytes. attempt_ended _ gpr bytes c.args.p _ c.reach.ensures (fetches_none _ _ _ c.reach.ensures c.requires) _ c.loaded.ensures
