-- `read`: a number or an instruction behind the blanks.
use mathlib.Core.Path.{◌∙◌}
use native.Mathlib.Omega.{arith}
use Rattle.grammar.proofs.Places.{skip_inside}
use Rattle.line.proofs.Names.{begins_number, begins_name}
use Rattle.line.proofs.read.Goals as goal

pub returns-then-digit_at : goal.returns-then-digit_at
returns-then-digit_at c = c.plain.ensures ∙ begins_number _ _ c.skip-at.ensures _ c.digit_at.ensures c.if-digit_at.true

pub instruction-requires : goal.instruction-requires
instruction-requires c =
    let l = c.args.s.now in
    omega (arith, skip_inside l 0 (omega arith), c.skip-at.ensures)

pub returns : goal.returns
returns c = c.instruction.ensures ∙ begins_name _ _ c.skip-at.ensures _ c.digit_at.ensures c.if-digit_at.false
