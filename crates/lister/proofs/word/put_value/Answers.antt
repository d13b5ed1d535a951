-- `put_value`: a minus and what is left to the field's size, or the number as it is.
use mathlib.Core.Path.{sym, ◌∙◌}
use native.Mathlib.Omega.{arith}
use lib.ListN.{length-set}
use Rattle.text.proofs.Appending.{byte, joined, same, length_appended}
use Rattle.lister.proofs.Pieces.{value_below, value_plain}
use Rattle.lister.proofs.word.put_value.Goals as goal

pub put_number-requires : goal.put_number-requires
put_number-requires c = simp length-set (omega arith)

pub shape_of-out-then-signed-size : goal.shape_of-out-then-signed-size
shape_of-out-then-signed-size c = length_appended c.put_number.ensures.0 ∙ simp length-set

pub returns-then-signed-size : goal.returns-then-signed-size
returns-then-signed-size c =
    let a = c.args in
    let put = c.put_number in (
      same (joined (byte a.out.now a.at 45 (omega arith)) put.ensures.0)
          (sym (value_below a.size a.signed a.x c.if-signed-size.true)),
      omega arith,
    )

pub returns : goal.returns
returns c =
    let a = c.args in
    let put = c.put_number-2 in
    (same put.ensures.0 (sym (value_plain a.size a.signed a.x c.if-signed-size.false)), omega arith)
