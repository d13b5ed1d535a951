-- `fresh::room`: no rule is broken. `Roomy.rules_broken` has the ways where one is.
use Rattle.std.proofs.Common.{arith}
use Rattle.loading.proofs.Roomy.{has_room}
use Rattle.loading.proofs.fresh.room.Goals as goal

pub returns : goal.returns
returns c = has_room _ _ _ _ (record {
  whole = omega arith;
  pages_least = omega arith;
  pages_most = omega arith;
  frames_in = omega (arith, c.meant.ensures);
  swap_long = omega arith;
})
