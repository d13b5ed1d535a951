-- `sound`: a way out at each test that fails, and one behind them all.
use mathlib.Core.Path.{ap, ◌∙◌}
use mathlib.Core.Bool.{not}
use native.Mathlib.Omega.{arith}
use Rattle.laws.proofs.Choice.{and_left}
use Rattle.sound.specs.Lean.{whole}
use Rattle.sound.proofs.Loops.{failed, passed}
use Rattle.sound.proofs.Rows.{unsound, seats_not, sound_so_far}
use Rattle.sound.proofs.sound.Goals as goal

pub returns-then-not-all_different : goal.returns-then-not-all_different
returns-then-not-all_different c =
    let a = c.args in
    unsound (whole a.l a.held.now) _ 3 (failed _ _ (c.all_different.ensures a.l.hand a.l.marks) (ap not c.if-not-all_different.true))

pub returns-then-not-rest_zero : goal.returns-then-not-rest_zero
returns-then-not-rest_zero c =
    let a = c.args in
    unsound (whole a.l a.held.now) _ 4 (failed _ _ (c.rest_zero.ensures a.l.hand a.l.marks) (ap not c.if-not-rest_zero.true))

pub returns-then-not-frames_seated : goal.returns-then-not-frames_seated
returns-then-not-frames_seated c =
    let a = c.args in
    seats_not (whole a.l a.held.now) _ (failed _ _ (c.frames_seated.ensures a.l.hand a.l.marks) (ap not c.if-not-frames_seated.true))

pub returns-then-not-hand_right : goal.returns-then-not-hand_right
returns-then-not-hand_right c =
    let a = c.args in
    unsound (whole a.l a.held.now) _ 7 (failed _ _ (c.hand_right.ensures a.held.now a.l.marks) (ap not c.if-not-hand_right.true))

pub marks_right-requires : goal.marks_right-requires
marks_right-requires c =
    omega (arith, c.requires.0.frames_most)

pub returns-then-not-marks_right : goal.returns-then-not-marks_right
returns-then-not-marks_right c =
    let a = c.args in
    unsound (whole a.l a.held.now) _ 8 (failed _ _ (c.marks_right.ensures a.l.hand a.held.now) (ap not c.if-not-marks_right.true))

pub frames_clean-requires : goal.frames_clean-requires
frames_clean-requires c = (
  c.requires.0,
  c.requires.1,
  omega arith,
  c.requires.2,
  λ hand marks. and_left _ _ (passed _ _ (c.frames_seated.ensures hand marks) (ap not c.if-not-frames_seated.false)),
)

pub returns : goal.returns
returns c =
    let a = c.args in
    c.frames_clean.ensures a.l.hand
    ∙ sound_so_far (whole a.l a.held.now) _ (passed _ _ (c.all_different.ensures a.l.hand a.l.marks) (ap not c.if-not-all_different.false))
    (passed _ _ (c.frames_seated.ensures a.l.hand a.l.marks) (ap not c.if-not-frames_seated.false)) (omega arith) (omega arith)
    (passed _ _ (c.rest_zero.ensures a.l.hand a.l.marks) (ap not c.if-not-rest_zero.false)) (omega (arith, c.valid_entries.ensures))
    (passed _ _ (c.hand_right.ensures a.held.now a.l.marks) (ap not c.if-not-hand_right.false))
    (passed _ _ (c.marks_right.ensures a.l.hand a.held.now) (ap not c.if-not-marks_right.false))
