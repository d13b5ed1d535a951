-- `read_piece`: a mark or a field behind the blanks.
use native.Mathlib.Omega.{arith}
use mathlib.Core.Path.{refl}
use Rattle.std.proofs.Common.{rules}
use Rattle.std.proofs.lemmas.Result.{err_from_is_err_and}
use Rattle.line.proofs.Fields.{field_narrow, field_small}
use Rattle.line.proofs.Pieces.{mark_wrong, mark_right, mark_inside, field_wrong, field_right}
use Rattle.line.proofs.read_piece.Goals as goal

pub overflow_add-result : goal.overflow_add-result
overflow_add-result c =
    let a = c.args in
    omega (arith, mark_inside a.s.now _ a.p _ _ c.in-Mark.is c.byte_at.ensures c.requires.0 (search rules))

pub returns-then-byte_at-b : goal.returns-then-byte_at-b
returns-then-byte_at-b c =
    let a = c.args in
    mark_wrong a.s.now a.w a.n _ c.skip-at.ensures a.p _ _ c.in-Mark.is c.byte_at.ensures (search rules)

pub returns-else-byte_at-b : goal.returns-else-byte_at-b
returns-else-byte_at-b c =
    let a = c.args in
    mark_right a.s.now a.w a.n _ c.skip-at.ensures a.p _ _ c.in-Mark.is c.byte_at.ensures (search rules)

pub operand-requires : goal.operand-requires
operand-requires c = field_narrow _ _ _ _ c.in-Field.is c.requires.0

pub returns-in_err-value-in-Field : goal.returns-in_err-value-in-Field
returns-in_err-value-in-Field c =
    let a = c.args in
    let p = err_from_is_err_and c.from_residual.result c.from_residual.ensures.1 in
    rw (p.1, p.2) (field_wrong a.s.now a.w a.n _ c.skip-at.ensures a.p _ _ _ c.in-Field.is _ c.in_err-value-in-Field.ensures refl)

pub overflow_mul-result : goal.overflow_mul-result
overflow_mul-result c =
    omega (arith, field_small c.args.p _ _ _ c.in-Field.is c.requires.0 _ _ _ _ _ c.in_ok-value-in-Field.ensures refl)

pub overflow_add-result-in-Field : goal.overflow_add-result-in-Field
overflow_add-result-in-Field c =
    omega (arith, field_small c.args.p _ _ _ c.in-Field.is c.requires.0 _ _ _ _ _ c.in_ok-value-in-Field.ensures refl)

pub returns-in_ok-value-in-Field : goal.returns-in_ok-value-in-Field
returns-in_ok-value-in-Field c =
    let a = c.args in
    field_right a.s.now a.w a.n _ c.skip-at.ensures a.p _ _ _ c.in-Field.is _ c.in_ok-value-in-Field.ensures refl
