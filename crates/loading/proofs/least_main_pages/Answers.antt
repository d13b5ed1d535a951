-- `least_main_pages`: frames that no image has, or one page more than is meant.
use Rattle.std.proofs.Common.{ap, not, arith}
use Rattle.loading.proofs.Least.{no_image, few, least}
use Rattle.loading.proofs.least_main_pages.Goals as goal

pub returns-then-not-frames_right : goal.returns-then-not-frames_right
returns-then-not-frames_right c = no_image _ _ c.frames_right.ensures (ap not c.if-not-frames_right.true)

pub overflow_add-result : goal.overflow_add-result
overflow_add-result c =
    let frames = c.args.frames in
    omega (arith, few frames _ c.frames_right.ensures (ap not c.if-not-frames_right.false) _ c.meant.ensures)

pub returns : goal.returns
returns c =
    let frames = c.args.frames in
    omega (arith, least frames _ c.frames_right.ensures (ap not c.if-not-frames_right.false) _ c.meant.ensures)
