-- `put_piece`: a mark is its byte, a field its number.
use mathlib.Core.Path.{sym, ap, subst, ◌∙◌}
use native.Mathlib.Omega.{arith}
use Rattle.text.proofs.Appending.{byte, same}
use Rattle.notation.specs.Listing.{value_text, piece_text}
use Rattle.mnemonics.specs.Rows.{Fine}
use Rattle.lister.proofs.word.put_piece.Goals as goal

pub field-requires : goal.field-requires
field-requires c =
    let f = subst Fine c.in-Field.is c.requires.1 in (f.0, omega arith)

pub put_value-requires : goal.put_value-requires
put_value-requires c =
    let f = subst Fine c.in-Field.is c.requires.1 in (omega arith, omega arith, f.3)

pub returns-in-Mark : goal.returns-in-Mark
unfolding piece_text
returns-in-Mark c =
    let a = c.args in
    (same (byte a.out.now a.at _ (omega arith)) (sym (ap (λ p. piece_text p a.w) c.in-Mark.is)), omega arith)

pub returns-in-Field : goal.returns-in-Field
unfolding piece_text
returns-in-Field c =
    let a = c.args in
    let put = c.put_value in
    (same put.ensures.0 (ap (λ n. value_text c.in-Field.size c.in-Field.signed n) c.field.ensures.0 ∙ sym (ap (λ p. piece_text p a.w) c.in-Field.is)), omega arith)
