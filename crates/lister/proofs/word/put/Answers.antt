-- `put`: the row that the word's key finds, where it makes the whole word; else one number.
use mathlib.Core.Path.{sym, ap, ◌∙◌}
use native.Mathlib.Omega.{arith}
use mathlib.Core.List.{◌∷◌, ◌++◌}
use lib.ListN.{length, length-set}
use Rattle.text.proofs.Appending.{byte, joined, same, length_appended}
use Rattle.notation.specs.Listing.{pieces_text}
use Rattle.mnemonics.specs.Rows.{pieces_of}
use Rattle.lister.proofs.Rows.{no_row, not_filled, by_name}
use Rattle.lister.proofs.word.put.Goals as goal

pub returns-in_default : goal.returns-in_default
returns-in_default c = same c.put_number.ensures.0 (no_row c.args.w _ c.keyed.ensures.same c.in_default.is)

pub returns-then-not-whole : goal.returns-then-not-whole
returns-then-not-whole c =
    same c.put_number-then-not-whole.ensures.0
    (not_filled c.args.w _ c.keyed.ensures.same c.in-Some.row c.in-Some.is (λ e. c.if-not-whole.true (c.filled-full.ensures ∙ e)))

pub put-to-requires : goal.put-to-requires
put-to-requires c = omega (arith, c.in-Some.ensures.formed.0, ap length c.name.ensures)

pub bounds-out-to : goal.bounds-out-to
bounds-out-to c = omega (arith, c.in-Some.ensures.formed.0, ap length c.name.ensures, length_appended c.put-to.ensures)

pub put_pieces-requires : goal.put_pieces-requires
put_pieces-requires c =
    (c.in-Some.ensures.formed, simp length-set (omega (arith, c.in-Some.ensures.formed.0, ap length c.name.ensures, length_appended c.put-to.ensures)))

pub shape_of-out : goal.shape_of-out
shape_of-out c =
    length_appended c.put_pieces.ensures ∙ simp length-set (length_appended c.put-to.ensures)

pub returns : goal.returns
returns c =
    let name = c.put-to in
    let space = byte name.new.out name.result 32 (omega (arith, c.in-Some.ensures.formed.0, ap length c.name.ensures, length_appended name.ensures)) in
    same (joined name.ensures (joined space c.put_pieces.ensures))
    (ap (λ n. n ++ 32 ∷ pieces_text (pieces_of c.in-Some.row.now) c.args.w) c.name.ensures
    ∙ by_name c.args.w _ c.keyed.ensures.same c.in-Some.row c.in-Some.is (sym c.filled-full.ensures ∙ c.if-not-whole.false))
