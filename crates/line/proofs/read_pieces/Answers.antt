-- `read_pieces`: the pieces so far are read.
use mathlib.Core.Path.{refl, sym, subst, ◌∙◌}
use native.Mathlib.Omega.{arith}
use Rattle.notation.specs.declared.Piece.TheVariants.{Mark}
use Rattle.std.specs.List.{All}
use Rattle.std.proofs.lemmas.Result.{err_from_is_err_and}
use Rattle.mnemonics.specs.Rows.{Fine}
use Rattle.line.proofs.Fields.{piece_small}
use Rattle.line.proofs.Pieces.{no_more, stops, steps}
use borrow.Author.Rules.{rules}
use Rattle.line.proofs.read_pieces.Goals as goal

pub returns-in_err-value : goal.returns-in_err-value
returns-in_err-value c =
    let v = c.loop-piece in
    let a = c.args in
    let p = err_from_is_err_and c.from_residual.result c.from_residual.ensures.1 in
    rw (p.1, p.2) (stops a.s.now v.w v.n c.pieces-piece-items.result.now v.piece-index (search rules) _ refl _ c.in_err-value.ensures refl v.invariant.1)

pub loop-piece-preserved : goal.loop-piece-preserved
loop-piece-preserved c =
    let v = c.loop-piece in
    let a = c.args in
    let e = c.in_ok-value.ensures in
    let fine = subst (All Fine) (sym c.pieces-piece-items.ensures) c.requires.2 in (
      omega (arith, piece_small a.s.now _ v.w v.n _ _ _ (fine v.piece-index (Mark 0) (search rules)) e refl, v.invariant.0),
      steps a.s.now v.w v.n c.pieces-piece-items.result.now v.piece-index (search rules) _ refl _ e refl v.invariant.1,
    )

pub returns : goal.returns
returns c =
    let v = c.loop-piece in
    let a = c.args in
    c.ended.ensures ∙ sym (no_more a.s.now v.w v.n c.pieces-piece-items.result.now v.piece-index (search rules)) ∙ v.invariant.1
