-- `put_plain`: the parts are those of its words.
use Rattle.plainrecord.specs.Words.{words_of}
use Rattle.plainrecord.proofs.put_plain.Goals as goal

pub returns : goal.returns
unfolding words_of
returns c = c.lay.ensures
