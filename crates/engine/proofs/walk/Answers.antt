-- `walk` meets its contract: between two attempts the leg is `Walking` and DPC on the code page, and each outcome of the next attempt
-- is one law. The measure: the instructions that are left.
use borrow.Author.Tests.{eqb-true}
use mathlib.Core.Path.{sym, refl, ◌∙◌}
use native.Mathlib.Omega.{arith}
use Rattle.cpu.proofs.Finishing.{unfinished_not}
use Rattle.engine.proofs.Walking.{begun, went_on, stored_on, page_most, left_between, left_with}
use borrow.Author.Rules.{rules}
use Rattle.engine.proofs.walk.Goals as goal
use Rattle.engine.proofs.walk.Goals.{in-Done, in-Wrote}

pub loop-left-init : goal.loop-left-init
loop-left-init c = let pre = c.requires in (begun _ _ _ _ _ _ pre.0 pre.1, pre.2, refl)

pub attempt-o-requires : goal.attempt-o-requires
attempt-o-requires c = let inv = c.loop-left.invariant in (inv.0.safe, inv.0.found, inv.1)

pub overflow_shl-stored : goal.overflow_shl-stored
overflow_shl-stored c =
    page_most _ _ _ _ _ _ _ _ _ _ _ c.loop-left.invariant.0 (search rules) _ _ _ c.attempt-o.ensures _ _ c.in-Wrote.is

pub returns-in_default : goal.returns-in_default
returns-in_default c =
    left_with _ _ _ _ _ _ _ _ _ _ _ c.loop-left.invariant.0 (search rules) _ _ _ c.attempt-o.ensures
    (unfinished_not c.attempt-o.result c.in_default.not-Done c.in_default.not-Wrote)

pub loop-left-preserved : goal.loop-left-preserved
loop-left-preserved c = (
  elim c.match-o.branch [
    | in-Done w ↦ went_on _ _ _ _ _ _ _ _ _ _ _ c.loop-left.invariant.0 c.loop-left-test.true _ _ _ c.attempt-o.ensures _ w.in-Done.is _ w.pcs-is _ w.stored-is
    | in-Wrote w ↦ stored_on _ _ _ _ _ _ _ _ _ _ _ c.loop-left.invariant.0 c.loop-left-test.true _ _ _ c.attempt-o.ensures _ _ w.in-Wrote.is _ w.pcs-is _ w.stored-is
  ],
  eqb-true _ _ (sym c.covers.ensures ∙ c.if-not-covers.false),
  c.attempt-o.auto.m ∙ c.loop-left.invariant.2,
)

pub returns-after-loop-left : goal.returns-after-loop-left
returns-after-loop-left c =
    left_between _ _ _ _ _ _ _ _ _ _ _ c.loop-left.invariant.0 (omega (arith, c.requires.3, c.loop-left-test.false)) _ refl _ refl _ refl _ refl _ refl

pub returns-then-not-covers : goal.returns-then-not-covers
returns-then-not-covers c =
    let inv = c.loop-left.invariant.0 in
    left_between _ _ _ _ _ _ _ _ _ _ _
    (elim c.match-o.branch [
      | in-Done w ↦ went_on _ _ _ _ _ _ _ _ _ _ _ inv c.loop-left-test.true _ _ _ c.attempt-o.ensures _ w.in-Done.is _ w.pcs-is _ w.stored-is
      | in-Wrote w ↦ stored_on _ _ _ _ _ _ _ _ _ _ _ inv c.loop-left-test.true _ _ _ c.attempt-o.ensures _ _ w.in-Wrote.is _ w.pcs-is _ w.stored-is
    ])
    (omega (arith, inv.few, c.loop-left-test.true)) _ refl _ refl _ refl _ refl _ refl
