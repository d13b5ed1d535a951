-- `with_piece`: a field that lies within the word adds at most 2^32.
use mathlib.Core.Path.{sym, ap, subst, ◌∙◌}
use Prim.Native.Nat.{◌+◌, ◌*◌}
use native.Mathlib.Omega.{arith}
use Rattle.notation.specs.Listing.{with_piece}
use Rattle.mnemonics.specs.Rows.{Fine}
use Rattle.lister.proofs.Pieces.{piece_within}
use Rattle.lister.proofs.word.with_piece.Goals as goal

pub field-requires : goal.field-requires
field-requires c =
    let f = subst Fine c.in-Field.is c.requires.0 in (f.0, omega arith)

pub overflow_mul-result : goal.overflow_mul-result
overflow_mul-result c =
    let added = piece_within c.requires.0 c.in-Field.is c.field.ensures.1 in
    omega arith

pub overflow_add-result : goal.overflow_add-result
overflow_add-result c =
    let added = piece_within c.requires.0 c.in-Field.is c.field.ensures.1 in
    omega arith

pub returns-in-Field : goal.returns-in-Field
returns-in-Field c =
    let a = c.args in
    let p = c.in-Field in
    let added = piece_within c.requires.0 p.is c.field.ensures.1 in
    (ap (λ n. a.v + n * p.scale) c.field.ensures.0 ∙ sym (ap (λ q. with_piece q a.v a.w) p.is), omega arith)
