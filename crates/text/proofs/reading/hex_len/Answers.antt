-- `reading::hex_len`: as many digits as the longest front has.
use Rattle.std.proofs.Common.{◌∙◌, rules, tests}
use Rattle.std.proofs.lemmas.Iterator.{YieldsList-from_slice}
use Rattle.std.proofs.lemmas.Iterator.Consumers.{count_from_yields_List}
use Rattle.std.proofs.lemmas.Iterator.Search.{YieldsList-from_take_while}
use Rattle.std.proofs.lemmas.List.Folds.{length-prefix_len}
use Rattle.text.specs.Reading.{is_hex}
use Rattle.text.proofs.Fronts.{length-front}
use Rattle.text.proofs.reading.hex_len.Goals as goal

pub returns-clause-value : goal.returns-clause-value
unfolding is_hex
returns-clause-value c =
    let s = c.args.s.now in
    count_from_yields_List c.take_while.result _ c.count.ensures.ran
    (YieldsList-from_take_while _ is_hex (YieldsList-from_slice s cc) c.take_while.ensures.closure c.take_while.ensures.done (λ x b q k. search (rules, tests)))
    ∙ length-prefix_len is_hex s ∙ length-front is_hex s
