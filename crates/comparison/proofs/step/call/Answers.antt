-- `step::call`: both answers, compared; the plain engine's is said.
use Prim.Native.Nat.{ℕ}
use native.Mathlib.Omega.{arith}
use lib.ListN.{length-replicate}
use Rattle.model.specs.State.{state}
use Rattle.text.specs.Reading.{bytes_of}
use mathlib.Core.Path.{◌∙◌}
use Rattle.text.proofs.Words.{equal_same}
use Rattle.text.proofs.Appending.{counted, length_appended}
use Rattle.comparison.specs.Both.{both}
use Rattle.comparison.proofs.Called.{call_told, stands_after, stands_told}
use Rattle.comparison.proofs.step.call.Goals as goal

pub slice_bounds-eq-end : goal.slice_bounds-eq-end
slice_bounds-eq-end c =
    counted c.answer-ours.ensures.text

pub slice_bounds-eq-end-2 : goal.slice_bounds-eq-end-2
slice_bounds-eq-end-2 c =
    counted c.answer-theirs.ensures.text

pub agree-requires : goal.agree-requires
agree-requires c =
    let a = c.args in
    stands_after a.c a.n (bytes_of a.digits.now) (state a.at.machine a.main.now a.swap.now) c.requires.0 c.answer-theirs.ensures.state
    c.answer-ours.auto.memory

pub slice_bounds-put-end : goal.slice_bounds-put-end
slice_bounds-put-end c =
    counted c.answer-ours.ensures.text

pub put-behind-requires : goal.put-behind-requires
put-behind-requires c =
    let text = c.answer-ours.ensures.text in
    omega (arith, c.requires.1, text.room, counted text, length-replicate {A = ℕ} 8900 0)

pub judged-requires : goal.judged-requires
judged-requires c =
    let text = c.answer-ours.ensures.text in
    omega (
      arith,
      c.requires.1,
      text.room,
      counted text,
      length-replicate {A = ℕ} 8900 0,
      c.put-behind.ensures.place,
      length_appended c.put-behind.ensures,
    )

pub shape_of-main : goal.shape_of-main
shape_of-main c = c.answer-theirs.auto.main

pub shape_of-swap : goal.shape_of-swap
shape_of-swap c = c.answer-theirs.auto.swap

pub shape_of-memory : goal.shape_of-memory
shape_of-memory c = c.answer-ours.auto.memory

pub returns : goal.returns
returns c =
    let a = c.args in
    let bytes = bytes_of a.digits.now in
    let judged = c.judged.ensures in record {
      tells = call_told a.c a.n bytes a.number (both a.at.machine a.main.now a.swap.now a.at.plain a.memory.now a.rights.now)
          c.answer-ours.ensures c.answer-theirs.ensures (c.eq-answer.ensures ∙ equal_same _ _) c.agree.ensures c.put-behind.ensures judged.0 judged.1;
      stands = stands_told a.c a.n bytes (state a.at.machine a.main.now a.swap.now) c.requires.0 c.answer-theirs.ensures.state c.answer-ours.auto.memory judged.0;
    }
