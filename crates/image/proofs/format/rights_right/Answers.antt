-- `format::rights_right`: one rights byte more, and all.
use mathlib.Core.Path.{◌≡◌, refl, ap, ◌∙◌}
use mathlib.Core.Bool.{◌&&◌}
use native.Mathlib.Numerals.{add-one}
use native.Mathlib.Omega.{arith}
use lib.Dec.{leb}
use lib.ListN.{length, get_or}
use Rattle.model.specs.Choice.{every_below}
use Rattle.image.proofs.format.rights_right.Goals as goal

pub loop-byte-init : goal.loop-byte-init
unfolding every_below
loop-byte-init c = refl

pub loop-byte-preserved : goal.loop-byte-preserved
unfolding every_below
loop-byte-preserved c =
    let r = c.args.rights.now in
    rw add-one (ap (λ b. b && leb (get_or r c.loop-byte.byte-index 0) 3) c.loop-byte.invariant)

pub returns : goal.returns
returns c =
    let r = c.args.rights.now in
    let all : c.loop-byte.byte-index ≡ length r = omega arith in
    c.loop-byte.invariant ∙ ap (λ n. every_below n (λ k. leb (get_or r k 0) 3)) all
