-- `memory::entry`: r and w as the definition has them.
use Rattle.std.proofs.Common.{arith}
use Rattle.loading.proofs.memory.entry.Goals as goal

pub returns : goal.returns
returns c = omega arith
