-- `put_machine`: the parts are those of its words.
use Rattle.record.specs.Words.{words_of}
use Rattle.record.proofs.put_machine.Goals as goal

pub returns : goal.returns
unfolding words_of
returns c = rw (← c.numbers_of.ensures) c.lay.ensures
