-- `named`: the first row that the word is.
use Rattle.std.proofs.Common.{◌≡◌, ap, ◌∙◌, rules, tests}
use Rattle.std.specs.Option.{option_map}
use Rattle.std.specs.Str.{bytes_eq}
use Rattle.std.proofs.lemmas.Iterator.{YieldsList-from_slice}
use Rattle.std.proofs.lemmas.Iterator.Search.{find_from_yields_List}
use Rattle.script.proofs.Ways.{first_row, meant}
use Rattle.script.proofs.table.named.Goals as goal

pub returns : goal.returns
returns g c =
    let w = c.args.word.now in
    let t = c.args.rows.now in
    let f =
    find_from_yields_List (λ e. bytes_eq w e.0.now) _ _ c.find.result c.find.ensures.ran (YieldsList-from_slice t cc) (λ x b q k. search (rules, tests))
    in
    let m : c.map.result ≡ option_map (λ x. x.now.1) c.find.result = search rules in
    m ∙ meant c.find.result ∙ ap (option_map (λ e. e.1)) f ∙ first_row w t
