-- `speak`: between two lines, what is said and what is still to be said are together what was to be said.
use Prim.Native.Nat.{◌-◌}
use native.Mathlib.Omega.{arith}
use lib.ListN.{drop, length-take}
use Rattle.text.proofs.Appending.{length_appended}
use Rattle.talk.proofs.Talking.{at_first, line_left, answer_fits, goes_on, ends, done}
use Rattle.plainsession.specs.Desk.{spoken}
use Rattle.plainsession.proofs.Roomy.{room_kept}
use Rattle.plainsession.proofs.speak.Goals as goal

pub loop-place-init : goal.loop-place-init
loop-place-init c =
    (at_first spoken c.args.script.now _ c.requires.0.out_long c.requires.3, c.requires.1, c.requires.0)

pub find-end-requires : goal.find-end-requires
find-end-requires c =
    let h = line_left spoken c.loop-place.invariant.0 c.loop-place-test.true in
    omega arith

pub overflow_add-number : goal.overflow_add-number
overflow_add-number c =
    omega (arith, line_left spoken c.loop-place.invariant.0 c.loop-place-test.true, c.loop-place.invariant.0.numbered, c.requires.2)

pub slice_bounds-step-start : goal.slice_bounds-step-start
slice_bounds-step-start c = omega (arith, c.find-end.ensures.place, c.find-end.ensures.within)

pub slice_bounds-step-end : goal.slice_bounds-step-end
slice_bounds-step-end c = omega (arith, c.find-end.ensures.place, c.find-end.ensures.within)

pub step-told-requires : goal.step-told-requires
step-told-requires c = (
  record {
    lent = c.loop-place.invariant.1;
    room = c.loop-place.invariant.2;
    left = answer_fits spoken c.loop-place.invariant.0 c.loop-place-test.true;
  },
  omega (
    arith,
    length-take (c.find-end.result - c.loop-place.place) (drop c.loop-place.place c.args.script.now),
    c.find-end.ensures.within,
    c.requires.2,
  ),
)

pub overflow_add-place : goal.overflow_add-place
overflow_add-place c =
    omega (arith, c.find-end.ensures.within, c.requires.2)

pub loop-place-smaller-then-told : goal.loop-place-smaller-then-told
loop-place-smaller-then-told c =
    omega (arith, line_left spoken c.loop-place.invariant.0 c.loop-place-test.true, c.find-end.ensures.place)

pub loop-place-preserved-then-told : goal.loop-place-preserved-then-told
loop-place-preserved-then-told c =
    let told = c.step-told.ensures in (
      goes_on spoken c.loop-place.invariant.0 c.loop-place-test.true c.find-end.result c.find-end.ensures.place told.0 c.if-told.true,
      told.1,
      room_kept c.loop-place.invariant.2 (omega arith) (omega arith) (length_appended told.0.text),
    )

pub loop-place-smaller : goal.loop-place-smaller
loop-place-smaller c =
    omega (arith, line_left spoken c.loop-place.invariant.0 c.loop-place-test.true, c.find-end.ensures.place)

pub loop-place-preserved : goal.loop-place-preserved
loop-place-preserved c =
    let told = c.step-told.ensures in (
      ends spoken c.loop-place.invariant.0 c.loop-place-test.true c.find-end.result c.find-end.ensures.place told.0 c.if-told.false,
      told.1,
      room_kept c.loop-place.invariant.2 (omega arith) (omega arith) (length_appended told.0.text),
    )

pub shape_of-memory : goal.shape_of-memory
shape_of-memory c =
    omega (arith, c.loop-place.invariant.2.memory_long, c.requires.0.memory_long)

pub shape_of-rights : goal.shape_of-rights
shape_of-rights c =
    omega (arith, c.loop-place.invariant.2.rights_long, c.requires.0.rights_long)

pub shape_of-out : goal.shape_of-out
shape_of-out c = length_appended c.loop-place.invariant.0.text

pub returns : goal.returns
returns c =
    let b = c.loop-place.invariant in
    record { lent = (b.1, b.0.numbered); goes = done spoken b.0 c.loop-place-test.false }
