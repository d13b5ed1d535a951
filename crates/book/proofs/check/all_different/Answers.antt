-- `check::all_different`: the first j pages are all different, and the first i of them differ from page j.
use mathlib.Core.Path.{◌≡◌, refl, ◌∙◌}
use native.Mathlib.Omega.{arith}
use Rattle.book.proofs.Loops.{none_yet, one_more, all_passed}
use Rattle.book.proofs.Ways.{pair_differs, pair_equal}
use borrow.Author.Rules.{rules}
use Rattle.book.proofs.check.all_different.Goals as goal

pub frames-init : goal.frames-init
frames-init c = (refl, none_yet _)

pub loop-i-init : goal.loop-i-init
loop-i-init c = (search rules, none_yet _)

pub loop-i-preserved : goal.loop-i-preserved
loop-i-preserved c =
    let a = c.args in
    (c.loop-i.invariant.0, one_more _ _ c.loop-i.invariant.1 (pair_differs a.used a.held.now _ _ c.if-held-i.false))

pub frames-preserved : goal.frames-preserved
frames-preserved c =
    let e : c.loop-i.i ≡ c.frames.j = omega arith in
    (c.loop-i.invariant.0, one_more _ _ c.frames.invariant.1 (rw e at c.loop-i.invariant.1))

pub returns-after-frames : goal.returns-after-frames
returns-after-frames c = λ hand marks. c.frames.invariant.0 ∙ all_passed _ _ _ c.frames.invariant.1 (search rules) (search rules)

pub returns-then-held-i : goal.returns-then-held-i
returns-then-held-i c =
    λ hand marks. pair_equal c.args.used c.args.held.now _ _ (search rules) (search rules) c.if-held-i.true
