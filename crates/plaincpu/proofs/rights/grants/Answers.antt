-- `rights::grants`: bit 1, or bit 0.
use Rattle.plaincpu.proofs.Ways.{grants_write, grants_read}
use Rattle.plaincpu.proofs.rights.grants.Goals as goal

pub returns-then-writing : goal.returns-then-writing
returns-then-writing c = grants_write _ _ c.if-writing.true

pub returns : goal.returns
returns c = grants_read _ _ c.if-writing.false
