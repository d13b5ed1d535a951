-- `table::entry`: the word at the entry's place.
use Rattle.model.specs.Table.{entry}
use Rattle.paging.proofs.table.entry.Goals as goal

pub returns : goal.returns
unfolding entry
returns c = cc
