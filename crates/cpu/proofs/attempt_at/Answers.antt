-- `attempt_at`: the word there is obeyed.
use Rattle.dlx.proofs.Fields.{register_below}
use Rattle.cpu.proofs.Ways.{attempt_at}
use Rattle.cpu.proofs.attempt_at.Goals as goal

pub obey-requires : goal.obey-requires
obey-requires g c = (c.requires.0, register_below _ _ _ _ c.plan-t.ensures)

pub returns : goal.returns
returns g c = attempt_at _ _ _ _ _ c.requires.1 _ c.number_at-w.ensures _ c.plan-t.ensures _ c.obey.ensures
