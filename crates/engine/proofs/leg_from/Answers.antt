-- `leg_from`: no fetch, or along the page.
use borrow.Author.Tests.{eqb-true}
use mathlib.Core.Path.{sym, ap, subst, ◌∙◌}
use Rattle.cpu.specs.Finished.{Finished}
use Rattle.cpu.proofs.Ways.{placed}
use Rattle.cpu.proofs.CodePages.{uncovered}
use Rattle.cpu.proofs.Finishing.{no_fetch}
use Rattle.engine.proofs.Walking.{begun, left_with}
use Rattle.engine.proofs.leg_from.Goals as goal

pub unfetched-requires : goal.unfetched-requires
unfetched-requires c =
    (c.requires.0, uncovered _ _ c.find-c.result _ c.find-c.ensures.1 _ c.covers.ensures (simp c.if-not-covers.true))

pub returns-then-not-covers : goal.returns-then-not-covers
returns-then-not-covers c =
    let tries = c.unfetched.ensures c.args.g.now in
    left_with _ _ _ _ _ _ _ _ _ _ _ (begun _ _ _ _ _ _ c.requires.0 c.find-c.ensures.0) c.requires.1 _ _ _ tries
    (λ f. no_fetch _ _ _ _
    (λ i at. uncovered _ _ c.find-c.result _ c.find-c.ensures.1 _ c.covers.ensures (simp c.if-not-covers.true) i (placed _ _ _ i at).at)
    (subst Finished (ap (λ z. z.outcome) tries) f))

pub walk-requires : goal.walk-requires
walk-requires c =
    (c.requires.0, c.find-c.ensures.0, eqb-true _ _ (sym c.covers.ensures ∙ c.if-not-covers.false), c.requires.1)
