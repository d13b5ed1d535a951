-- `leg_from`: no fetch, or along the page.
use mathlib.Core.Path.{refl, sym, ap, subst, ◌∙◌}
use Rattle.cpu.specs.Finished.{Finished}
use Rattle.cpu.proofs.Finishing.{no_fetch}
use Rattle.plaincpu.proofs.Ways.{fetches_none}
use Rattle.plainengine.proofs.Walking.{started, left_with}
use Rattle.plainengine.proofs.leg_from.Goals as goal

pub unfetched-requires : goal.unfetched-requires
unfetched-requires c = sym c.fetched.ensures ∙ c.if-not-fetched.true

pub returns-then-not-fetched : goal.returns-then-not-fetched
returns-then-not-fetched c =
    let tries = c.unfetched.ensures c.args.g.now c.args.m.now in
    left_with _ _ _ _ _ _ _ _ _ (started _ _ _ _ _ c.requires.0 c.requires.1) _ _ _ tries
    (λ f. no_fetch _ _ _ _ (fetches_none _ _ _ refl (sym c.fetched.ensures ∙ c.if-not-fetched.true))
    (subst Finished (ap (λ z. z.outcome) tries) f))

pub walk-requires : goal.walk-requires
walk-requires c =
    (c.requires.0, sym c.fetched.ensures ∙ c.if-not-fetched.false, c.requires.1)
