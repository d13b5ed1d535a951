-- `fresh::machine`: the fresh record, of every file with these numbers.
use Rattle.std.proofs.Common.{◌∙◌}
use Rattle.model.specs.Image.{fresh}
use Rattle.loading.proofs.fresh.machine.Goals as goal

pub returns : goal.returns
unfolding fresh
returns c = λ l frames ptl start. c.blank.ensures ∙ simp (c.meant.ensures, frames, ptl, start)
