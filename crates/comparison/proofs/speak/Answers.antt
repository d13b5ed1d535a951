-- `speak`: between two lines, what is said and what is still to be said are together what was to be said.
use Prim.Native.Nat.{◌-◌}
use native.Mathlib.Omega.{arith}
use lib.ListN.{drop, length-take}
use Rattle.text.proofs.Appending.{length_appended}
use Rattle.talk.proofs.Talking.{at_first, line_left, answer_fits, goes_on, ends, done}
use Rattle.comparison.specs.Line.{spoken}
use Rattle.comparison.proofs.Reached.{renumbered, as_they_were, kept}
use Rattle.comparison.proofs.speak.Goals as goal

pub loop-place-init : goal.loop-place-init
loop-place-init c =
    let a = c.args in
    (at_first spoken a.script.now _ c.requires.1 c.requires.3, c.requires.0, as_they_were a.main.now a.swap.now a.memory.now)

pub find-end-requires : goal.find-end-requires
find-end-requires c =
    let h = line_left spoken c.loop-place.invariant.0 c.loop-place-test.true in
    omega arith

pub overflow_add-number : goal.overflow_add-number
overflow_add-number c =
    omega (arith, line_left spoken c.loop-place.invariant.0 c.loop-place-test.true, c.loop-place.invariant.0.numbered, c.requires.2)

pub slice_bounds-step-start : goal.slice_bounds-step-start
slice_bounds-step-start c = omega (arith, c.find-end.ensures.place, c.find-end.ensures.within.1)

pub slice_bounds-step-end : goal.slice_bounds-step-end
slice_bounds-step-end c = omega (arith, c.find-end.ensures.place, c.find-end.ensures.within.1)

pub step-told-requires : goal.step-told-requires
step-told-requires c = (
  c.loop-place.invariant.1,
  answer_fits spoken c.loop-place.invariant.0 c.loop-place-test.true,
  omega (
    arith,
    length-take (c.find-end.result - c.loop-place.place) (drop c.loop-place.place c.args.script.now),
    c.find-end.ensures.within.1,
    c.requires.2,
  ),
)

pub overflow_add-place : goal.overflow_add-place
overflow_add-place c =
    omega (arith, c.find-end.ensures.within.1, c.requires.2)

pub loop-place-smaller-then-at : goal.loop-place-smaller-then-at
loop-place-smaller-then-at c =
    omega (arith, line_left spoken c.loop-place.invariant.0 c.loop-place-test.true, c.find-end.ensures.place)

pub loop-place-preserved-then-at : goal.loop-place-preserved-then-at
loop-place-preserved-then-at c =
    let told = c.step-told.ensures in (
      renumbered told.stands.1 (goes_on spoken c.loop-place.invariant.0 c.loop-place-test.true c.find-end.result c.find-end.ensures.place told.tells c.if-at.true),
      told.stands.0,
      kept c.loop-place.invariant.2 (omega arith) (omega arith) (omega arith),
    )

pub loop-place-smaller : goal.loop-place-smaller
loop-place-smaller c =
    omega (arith, line_left spoken c.loop-place.invariant.0 c.loop-place-test.true, c.find-end.ensures.place)

pub loop-place-preserved : goal.loop-place-preserved
loop-place-preserved c =
    let told = c.step-told.ensures in (
      renumbered told.stands.1 (ends spoken c.loop-place.invariant.0 c.loop-place-test.true c.find-end.result c.find-end.ensures.place told.tells c.if-at.false),
      told.stands.0,
      kept c.loop-place.invariant.2 (omega arith) (omega arith) (omega arith),
    )

pub shape_of-main : goal.shape_of-main
shape_of-main c = c.loop-place.invariant.2.main_as

pub shape_of-swap : goal.shape_of-swap
shape_of-swap c = c.loop-place.invariant.2.swap_as

pub shape_of-memory : goal.shape_of-memory
shape_of-memory c = c.loop-place.invariant.2.memory_as

pub shape_of-out : goal.shape_of-out
shape_of-out c = length_appended c.loop-place.invariant.0.text

pub returns : goal.returns
returns c =
    let b = c.loop-place.invariant in
    record { stands = (b.1, b.0.numbered); goes = done spoken b.0 c.loop-place-test.false }
