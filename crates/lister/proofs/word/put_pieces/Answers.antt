-- `put_pieces`: the text of the pieces so far stands in the buffer.
use mathlib.Core.Path.{sym, ap, subst, ◌∙◌}
use native.Mathlib.Omega.{arith}
use lib.ListN.{length}
use lib.Seq.{take_all}
use Rattle.std.specs.List.{All}
use Rattle.text.proofs.Appending.{nothing, joined, same, length_appended}
use Rattle.notation.specs.Listing.{pieces_text}
use Rattle.notation.specs.declared.Piece.TheVariants.{Mark}
use Rattle.mnemonics.specs.Rows.{Fine}
use Rattle.lister.proofs.Pieces.{text_none, text_next}
use borrow.Author.Rules.{rules}
use Rattle.lister.proofs.word.put_pieces.Goals as goal

pub loop-piece-init : goal.loop-piece-init
loop-piece-init c =
    let a = c.args in
    (omega arith, same (nothing a.out.now a.at (omega (arith, c.requires.1))) (sym (text_none a.w)))

pub put_piece-to-requires : goal.put_piece-to-requires
put_piece-to-requires c =
    let v = c.loop-piece in
    let e = c.pieces-piece-items.ensures in (
      omega (arith, length_appended v.invariant.1, v.invariant.0, c.requires.0.1, ap length e, c.loop-piece-test.true),
      subst (All Fine) (sym e) c.requires.0.2 v.piece-index (Mark 0) (search rules),
    )

pub loop-piece-preserved : goal.loop-piece-preserved
loop-piece-preserved c =
    let v = c.loop-piece in
    let a = c.args in (
      omega (arith, v.invariant.0, c.put_piece-to.ensures.1),
      same (joined v.invariant.1 c.put_piece-to.ensures.0) (sym (text_next c.pieces-piece-items.result.now v.piece-index (Mark 0) (search rules) a.w)),
    )

pub shape_of-out : goal.shape_of-out
shape_of-out c = length_appended c.loop-piece.invariant.1

pub returns : goal.returns
returns c =
    let v = c.loop-piece in
    let a = c.args in
    same v.invariant.1 (ap (λ l. pieces_text l a.w) (take_all v.piece-index c.pieces-piece-items.result.now (search rules) ∙ c.pieces-piece-items.ensures))
