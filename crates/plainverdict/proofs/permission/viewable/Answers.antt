-- `permission::viewable`: the right to read.
use Rattle.plainmodel.specs.Calls.{viewable}
use Rattle.plainverdict.proofs.permission.viewable.Goals as goal

pub returns : goal.returns
unfolding viewable
returns c = c.granted.ensures
