-- `format::well_formed`: four steps of the row.
use mathlib.Core.Path.{ap}
use mathlib.Core.Bool.{not}
use Rattle.image.proofs.Tests.{distances_wrong, rights_wrong, start_wrong, frames_decide}
use borrow.Author.Rules.{rules}
use Rattle.image.proofs.format.well_formed.Goals as goal

pub returns-then-not-distances_right : goal.returns-then-not-distances_right
returns-then-not-distances_right c =
    distances_wrong _ c.args.t c.requires _ c.distances_right.ensures (ap not c.if-not-distances_right.true)

pub returns-then-not-rights_right : goal.returns-then-not-rights_right
returns-then-not-rights_right c =
    rights_wrong _ c.args.t c.requires _ c.distances_right.ensures (ap not c.if-not-distances_right.false)
    _ c.rights_of.ensures.bytes _ c.rights_right.ensures (ap not c.if-not-rights_right.true)

pub returns-then-t-ne0 : goal.returns-then-t-ne0
returns-then-t-ne0 c =
    start_wrong _ c.args.t c.requires _ c.distances_right.ensures (ap not c.if-not-distances_right.false)
    _ c.rights_of.ensures.bytes _ c.rights_right.ensures (ap not c.if-not-rights_right.false) (search rules)

pub returns : goal.returns
returns c =
    frames_decide _ c.args.t c.requires _ c.distances_right.ensures (ap not c.if-not-distances_right.false)
    _ c.rights_of.ensures.bytes _ c.rights_right.ensures (ap not c.if-not-rights_right.false) (search rules) _ c.frames_right.ensures
