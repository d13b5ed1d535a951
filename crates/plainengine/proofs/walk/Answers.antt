-- `walk` meets its contract: between two attempts the leg is `Walking`, and each outcome of the next attempt is one law. The measure: the
-- instructions that are left.
use mathlib.Core.Path.{refl, sym, ◌∙◌}
use native.Mathlib.Omega.{arith}
use borrow.Author.Tests.{eqb-true}
use Rattle.cpu.proofs.Finishing.{unfinished_not}
use Rattle.plaincpu.proofs.Ways.{fetches_on}
use Rattle.plainengine.proofs.Walking.{started, left_between, moved, went_on, stored_on, once_more, left_with}
use borrow.Author.Rules.{rules}
use Rattle.plainengine.proofs.walk.Goals as goal
use Rattle.plainengine.proofs.walk.Goals.{in-Done, in-Wrote}

pub loop-g-init : goal.loop-g-init
loop-g-init c = let pre = c.requires in (started _ _ _ _ _ pre.0 pre.2, refl)

pub attempt-o-requires : goal.attempt-o-requires
attempt-o-requires c =
    (c.loop-g.invariant.0.sized, fetches_on _ _ c.requires.1 _ (eqb-true _ _ (sym c.on_page.ensures ∙ c.loop-g-test.true)))

pub returns-in_default : goal.returns-in_default
returns-in_default c =
    left_with _ _ _ _ _ _ _ _ _ c.loop-g.invariant.0 _ _ _ c.attempt-o.ensures
    (unfinished_not c.attempt-o.result c.in_default.not-Done c.in_default.not-Wrote)

pub loop-g-preserved : goal.loop-g-preserved
loop-g-preserved c =
    let inv = c.loop-g.invariant in (
      once_more _ _ _ _ _ _ _ _ _ inv.0 _ _ _ c.attempt-o.ensures _
          (elim c.match-o.branch [
            | in-Done w ↦ went_on _ _ _ _ _ _ _ _ _ inv.0 _ _ _ w.in-Done.ensures _ refl _ w.pcs-is
            | in-Wrote w ↦ stored_on _ _ _ _ _ _ _ _ _ inv.0 _ _ _ w.in-Wrote.ensures _ _ refl _ w.pcs-is
          ])
          c.if-left-eq0.false (search rules),
      search rules,
    )

pub returns-after-loop-g : goal.returns-after-loop-g
returns-after-loop-g c =
    let inv = c.loop-g.invariant.0 in
    left_between _ _ _ _ _ _ _ _ _ inv.way
    (moved _ _ _ _ _ _ _ _ _ inv c.requires.1 _ c.on_page.ensures c.loop-g-test.false) _ refl _ refl _ refl _ refl

pub returns-then-left-eq0 : goal.returns-then-left-eq0
returns-then-left-eq0 c =
    let inv = c.loop-g.invariant.0 in
    left_between _ _ _ _ _ _ _ _ _
    (elim c.match-o.branch [
      | in-Done w ↦ went_on _ _ _ _ _ _ _ _ _ inv _ _ _ w.in-Done.ensures _ refl _ w.pcs-is
      | in-Wrote w ↦ stored_on _ _ _ _ _ _ _ _ _ inv _ _ _ w.in-Wrote.ensures _ _ refl _ w.pcs-is
    ])
    (omega (arith, inv.way.few, inv.more)) _ refl _ refl _ refl _ refl
