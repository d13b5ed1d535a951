-- `set_word`: words out, one set, words in.
use mathlib.Core.Path.{ap, ◌∙◌}
use lib.ListN.{set}
use Rattle.plainrecord.specs.Words.{plain_of, with_word}
use Rattle.plainrecord.proofs.set_word.Goals as goal

pub returns : goal.returns
unfolding with_word
returns c =
    let a = c.args in
    c.plain_of.ensures ∙ ap plain_of (c.set_at.ensures ∙ ap (λ l. set l a.i a.v) c.put_plain.ensures)
