-- `plain_of`: each word in its place.
use Rattle.plainrecord.specs.Words.{plain_of}
use Rattle.plainrecord.proofs.plain_of.Goals as goal

pub returns : goal.returns
unfolding plain_of
returns c = rw c.part-gpr.ensures
