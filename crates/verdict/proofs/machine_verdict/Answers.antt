-- `machine_verdict`: refused 1, or by the test of soundness.
use Rattle.sound.specs.Lean.{whole}
use Rattle.verdict.proofs.Verdicts.{bound, fitted, unsound, in_order}
use Rattle.verdict.proofs.machine_verdict.Goals as goal

pub returns-then-not-fits : goal.returns-then-not-fits
returns-then-not-fits c =
    let a = c.args in
    bound (whole a.l a.held.now) _ _ _ c.fits.ensures c.if-not-fits.true

pub sound-requires : goal.sound-requires
sound-requires c =
    let a = c.args in
    let fit = fitted (whole a.l a.held.now) a.main.now a.swap.now _ c.fits.ensures c.if-not-fits.false in
    (fit.0, fit.1, c.requires)

pub returns-then-not-sound : goal.returns-then-not-sound
returns-then-not-sound c =
    let a = c.args in
    unsound (whole a.l a.held.now) _ _ _ c.fits.ensures c.if-not-fits.false _ c.sound.ensures c.if-not-sound.true

pub returns : goal.returns
returns c =
    let a = c.args in
    in_order (whole a.l a.held.now) _ _ _ c.fits.ensures c.if-not-fits.false _ c.sound.ensures c.if-not-sound.false
