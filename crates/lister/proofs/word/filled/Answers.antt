-- `filled`: the pieces that are left fill the same word.
use mathlib.Core.Path.{sym, ap, subst, ◌∙◌}
use Prim.Native.Nat.{◌+◌}
use native.Mathlib.Omega.{arith}
use lib.ListN.{length, drop, drop_of_length-le}
use Rattle.std.specs.List.{All}
use Rattle.notation.specs.Listing.{filled}
use Rattle.notation.specs.declared.Piece.TheVariants.{Mark}
use Rattle.mnemonics.specs.Rows.{Fine}
use Rattle.lister.proofs.Pieces.{filled_none, filled_next}
use borrow.Author.Rules.{rules}
use Rattle.lister.proofs.word.filled.Goals as goal

pub with_piece-v-requires : goal.with_piece-v-requires
with_piece-v-requires c =
    let v = c.loop-piece in
    let e = c.pieces-piece-items.ensures in (
      subst (All Fine) (sym e) c.requires.2 v.piece-index (Mark 0) (search rules),
      omega (arith, v.invariant.0, c.requires.1, ap length e, c.loop-piece-test.true),
    )

pub loop-piece-preserved : goal.loop-piece-preserved
loop-piece-preserved c =
    let v = c.loop-piece in
    let a = c.args in
    let ps = c.pieces-piece-items.result.now in (
      omega (arith, v.invariant.0, c.with_piece-v.ensures.1),
      ap (λ n. filled (drop (v.piece-index + 1) ps) n a.w) c.with_piece-v.ensures.0 ∙ sym (filled_next ps v.piece-index (Mark 0) (search rules) v.v a.w) ∙ v.invariant.1,
    )

pub returns : goal.returns
returns c =
    let v = c.loop-piece in
    let a = c.args in
    let none = drop_of_length-le c.pieces-piece-items.result.now {i = v.piece-index} (search rules) in
    sym (ap (λ l. filled l v.v a.w) none ∙ filled_none v.v a.w) ∙ v.invariant.1
