-- `machine_of`: each word in its place.
use Rattle.record.specs.Words.{machine_of}
use Rattle.record.proofs.machine_of.Goals as goal

pub returns : goal.returns
unfolding machine_of
returns c =
    rw (c.part-gpr.ensures, c.pages_of-held.ensures, c.part.ensures)
