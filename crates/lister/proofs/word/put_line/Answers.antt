-- `put_line`: the line and its newline, put at once or made in a buffer and copied.
use native.Mathlib.Omega.{arith}
use Rattle.text.proofs.Appending.{byte, joined, same, length_appended, counted, written}
use Rattle.lister.proofs.word.put_line.Goals as goal

pub returns-then-out-at-ge80 : goal.returns-then-out-at-ge80
returns-then-out-at-ge80 c =
    let line = c.put-to in
    joined line.ensures (byte line.new.out line.result 10 (omega (arith, length_appended line.ensures)))

pub slice_bounds-put-end-2 : goal.slice_bounds-put-end-2
slice_bounds-put-end-2 c = counted c.put-n.ensures

pub put-end-requires : goal.put-end-requires
put-end-requires c = omega (arith, counted c.put-n.ensures)

pub bounds-out-end : goal.bounds-out-end
bounds-out-end c =
    omega (arith, counted c.put-n.ensures, length_appended c.put-end.ensures)

pub returns : goal.returns
returns c =
    let line = c.put-n in
    let copy = c.put-end in
    joined (same copy.ensures (written line.ensures))
    (byte copy.new.out copy.result 10 (omega (arith, counted line.ensures, length_appended copy.ensures)))
