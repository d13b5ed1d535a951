-- `keyed`: the first row in code whose word is the key.
use Rattle.std.proofs.Common.{rules}
use Rattle.std.proofs.lemmas.Iterator.Adapters.{YieldsList-from_rev_slice}
use Rattle.std.proofs.lemmas.Iterator.Search.{find_from_yields_List}
use lib.Dec.{eqb}
use Rattle.notation.specs.Listing.{key_of, is_keyed}
use Rattle.mnemonics.specs.Rows.{row_of}
use Rattle.mnemonics.proofs.Search.{found, bases_distinct, one_base}
use Rattle.mnemonics.proofs.Formed.{found_formed}
use Rattle.mnemonics.proofs.keyed.Goals as goal

pub returns : goal.returns
returns c =
    let test = is_keyed c.args.w in
    let rs = c.all_rows.result.now in
    let e =
    found test (λ a b. eqb a.base b.base) (one_base (key_of c.args.w)) bases_distinct rs c.all_rows.ensures.rows c.find.result
    (find_from_yields_List (λ r. test (row_of r)) _ _ _ c.find.ensures.ran (YieldsList-from_rev_slice rs cc) (λ x b q k. search (rules))) in
    record { same = e; formed = found_formed test c.find.result e }
