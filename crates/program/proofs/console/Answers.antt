-- `console`: its four ways.
use mathlib.Core.Path.{sym, ap, ◌∙◌}
use Prim.Native.Nat.{◌*◌}
use native.Mathlib.Omega.{arith}
use lib.Seq.{length-take-le}
use Rattle.model.specs.State.{memory}
use Rattle.model.specs.Console.{with_others}
use Rattle.text.proofs.Appending.{same}
use Rattle.program.proofs.Printed.{not_image, is_ptl, many_pages, few_pages, refused_text, refused_memory, granted_text, granted_memory}
use Rattle.program.proofs.console.Goals as goal

pub returns-then-written-gt4 : goal.returns-then-written-gt4
returns-then-written-gt4 c =
    let input = c.args.input.now in
    let v = many_pages input (omega arith) _ c.in-Ok.ensures (omega arith) in
    (same c.refuse-then-written-gt4.ensures (refused_text input _ v), refused_memory input _ v _)

pub slice_bounds-load_and_run-end-in-Ok : goal.slice_bounds-load_and_run-end-in-Ok
slice_bounds-load_and_run-end-in-Ok c =
    let a = c.args in
    sym (length-take-le (4096 * c.in-Ok.written.ptl) a.swap.now (omega arith))

pub returns-in-Err : goal.returns-in-Err
returns-in-Err c =
    let input = c.args.input.now in
    let v = not_image input (omega arith) c.in-Err.refusal c.in-Err.ensures in
    (same c.refuse-in-Err.ensures (refused_text input _ v), refused_memory input _ v _)

pub returns-else-written-gt4 : goal.returns-else-written-gt4
returns-else-written-gt4 c =
    let a = c.args in
    let input = a.input.now in
    let ptl = c.in-Ok.written.ptl in
    let lent = memory a.main.now a.swap.now in
    let numbers = c.in-Ok.ensures in
    let v = few_pages input (omega arith) _ numbers (omega arith) in
    let is = is_ptl input (omega arith) _ numbers in (
      same c.load_and_run.ensures.0 (granted_text input v ptl is lent c.requires.0 (omega arith)),
      ap (λ left. with_others ptl left lent) c.load_and_run.ensures.1 ∙ granted_memory input v ptl is lent,
    )
