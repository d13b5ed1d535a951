-- `clean::frames_clean`: the pages of the first f frames have their marks, or equal their swap pages.
use mathlib.Core.Path.{ap}
use mathlib.Core.Bool.{not}
use Rattle.sound.proofs.Loops.{none_yet, one_more, fails, all_passed, failed, passed}
use Rattle.sound.proofs.Pages.{held_below, in_book}
use borrow.Author.Rules.{rules}
use Rattle.sound.proofs.clean.frames_clean.Goals as goal

pub loop-f-init : goal.loop-f-init
loop-f-init c = none_yet _

pub clean-requires : goal.clean-requires
clean-requires c =
    let a = c.args in
    (c.requires.0, c.requires.1, search rules, held_below a.s a.main.now a.swap.now a.marks a.used a.held.now c.loop-f.f (c.requires.4 0 a.marks) (search rules))

pub returns-then-not-clean : goal.returns-then-not-clean
returns-then-not-clean c =
    let a = c.args in
    λ hand. fails _ _ c.loop-f.f (search rules)
    (failed _ _ (in_book a.s a.main.now a.swap.now a.marks a.used a.held.now c.loop-f.f _ c.clean.ensures) (ap not c.if-not-clean.true))

pub loop-f-preserved : goal.loop-f-preserved
loop-f-preserved c =
    let a = c.args in
    one_more _ _ c.loop-f.invariant (passed _ _ (in_book a.s a.main.now a.swap.now a.marks a.used a.held.now c.loop-f.f _ c.clean.ensures) (ap not c.if-not-clean.false))

pub returns : goal.returns
returns c =
    λ hand. all_passed _ _ _ c.loop-f.invariant (search rules) (search rules)
