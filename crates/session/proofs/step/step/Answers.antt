-- `step::step`: what the line asks for, by what the reader answered.
use mathlib.Core.Path.{refl, sym, ap}
use native.Mathlib.Omega.{arith}
use lib.ListN.{length}
use lib.Seq.{length-take-le}
use Rattle.script.specs.Table.{call_row, change_row}
use Rattle.script.proofs.Within.{line_known}
use Rattle.text.specs.Text.{hex_of}
use Rattle.text.proofs.Appending.{same}
use Rattle.answerlines.specs.Lines.{word_line}
use Rattle.script.proofs.Asked.{read_as, short_rest, rest_keeps, lent_long}
use Rattle.session.proofs.Spelled.{word_short, word_spelled_at}
use Rattle.session.proofs.Telling.{call_told, show_told, changed_told, bad_told}
use Rattle.session.proofs.step.step.Goals as goal

pub slice_bounds-digits-count : goal.slice_bounds-digits-count
slice_bounds-digits-count c =
    (line_known c.args.line.now c.parse.ensures (read_as c.in-Ok-Calls.is c.in-Ok-Calls.field-0-is)).0

pub slice_bounds-change-count : goal.slice_bounds-change-count
slice_bounds-change-count c =
    (line_known c.args.line.now c.parse.ensures (read_as c.in-Ok-Changes.is c.in-Ok-Changes.field-0-is)).0

pub overflow_cast-bad : goal.overflow_cast-bad
overflow_cast-bad c =
    omega (arith, c.requires.1, line_known c.args.line.now c.in-Err.ensures refl)

pub slice_bounds-digits-start : goal.slice_bounds-digits-start
slice_bounds-digits-start c =
    (line_known c.args.line.now c.parse.ensures (read_as c.in-Ok-Calls.is c.in-Ok-Calls.field-0-is)).0

pub slice_bounds-answer-end-in-Ok-Calls : goal.slice_bounds-answer-end-in-Ok-Calls
slice_bounds-answer-end-in-Ok-Calls c =
    let a = c.args in
    lent_long a.at.main a.main.now 262144 c.requires.0.lent.main_fits c.requires.0.room.main_long

pub slice_bounds-answer-end-in-Ok-Calls-3 : goal.slice_bounds-answer-end-in-Ok-Calls-3
slice_bounds-answer-end-in-Ok-Calls-3 c =
    let a = c.args in
    lent_long a.at.swap a.swap.now 327680 c.requires.0.lent.swap_fits c.requires.0.room.swap_long

pub answer-done-requires : goal.answer-done-requires
answer-done-requires c =
    let l = c.args.line.now in
    let n = c.in-Ok-Calls.n in
    (omega (arith, c.requires.0.left), short_rest l n.hex c.requires.1, rest_keeps l n.hex (call_row c.in-Ok-Calls.c) n (line_known l c.parse.ensures (read_as c.in-Ok-Calls.is c.in-Ok-Calls.field-0-is)).1)

pub slice_bounds-show-end-in-Ok-Shows : goal.slice_bounds-show-end-in-Ok-Shows
slice_bounds-show-end-in-Ok-Shows c =
    let a = c.args in
    lent_long a.at.main a.main.now 262144 c.requires.0.lent.main_fits c.requires.0.room.main_long

pub slice_bounds-show-end-in-Ok-Shows-3 : goal.slice_bounds-show-end-in-Ok-Shows-3
slice_bounds-show-end-in-Ok-Shows-3 c =
    let a = c.args in
    lent_long a.at.swap a.swap.now 327680 c.requires.0.lent.swap_fits c.requires.0.room.swap_long

pub slice_bounds-change-start : goal.slice_bounds-change-start
slice_bounds-change-start c =
    (line_known c.args.line.now c.parse.ensures (read_as c.in-Ok-Changes.is c.in-Ok-Changes.field-0-is)).0

pub change-next-requires : goal.change-next-requires
change-next-requires c =
    let l = c.args.line.now in
    let n = c.in-Ok-Changes.n in
    (c.requires.0.lent, c.requires.0.room.main_long, c.requires.0.room.swap_long, rest_keeps l n.hex (change_row c.in-Ok-Changes.c) n (line_known l c.parse.ensures (read_as c.in-Ok-Changes.is c.in-Ok-Changes.field-0-is)).1)

pub slice_bounds-hex_line-end : goal.slice_bounds-hex_line-end
slice_bounds-hex_line-end c =
    sym (length-take-le c.find-word.result c.args.line.now (omega (arith, c.find-word.ensures.within.1)))

pub hex_line-requires : goal.hex_line-requires
hex_line-requires c =
    let word = word_spelled_at c.args.line.now c.parse.ensures c.in-Ok-Changes.c c.in-Ok-Changes.n (read_as c.in-Ok-Changes.is c.in-Ok-Changes.field-0-is) c.find-word.result c.find-word.ensures.place in
    omega (arith, ap length word, word_short c.in-Ok-Changes.c, c.requires.0.left)

pub returns-in-Ok-Calls : goal.returns-in-Ok-Calls
returns-in-Ok-Calls c =
    let a = c.args in
    call_told a.number a.line.now a.at a.main.now a.swap.now c.parse.ensures c.in-Ok-Calls.c c.in-Ok-Calls.n (read_as c.in-Ok-Calls.is c.in-Ok-Calls.field-0-is)
    c.told.ensures c.answer-done.ensures c.requires.0.lent

pub returns-in-Ok-Shows : goal.returns-in-Ok-Shows
returns-in-Ok-Shows c =
    let a = c.args in
    show_told a.number a.line.now a.at a.main.now a.swap.now c.parse.ensures c.in-Ok-Shows.x (read_as c.in-Ok-Shows.is c.in-Ok-Shows.field-0-is)
    c.told-in-Ok-Shows.ensures c.show-to.ensures c.requires.0.lent

pub returns-in-Ok-Changes : goal.returns-in-Ok-Changes
unfolding hex_of
returns-in-Ok-Changes c =
    let a = c.args in
    let word = word_spelled_at a.line.now c.parse.ensures c.in-Ok-Changes.c c.in-Ok-Changes.n (read_as c.in-Ok-Changes.is c.in-Ok-Changes.field-0-is) c.find-word.result c.find-word.ensures.place in
    let left = c.change-next.ensures in (
      changed_told a.number a.line.now a.at a.main.now a.swap.now c.parse.ensures c.in-Ok-Changes.c c.in-Ok-Changes.n (read_as c.in-Ok-Changes.is c.in-Ok-Changes.field-0-is)
          (record { desk_is = left.0; text = same c.hex_line.ensures (ap word_line word); goes = refl }),
      left.1,
    )

pub returns-in-Err : goal.returns-in-Err
returns-in-Err c =
    let a = c.args in
    bad_told a.number a.line.now a.at a.main.now a.swap.now c.in-Err.ensures c.in-Err.column refl
    c.told-in-Err.ensures c.numbers_line.ensures c.requires.0.lent
