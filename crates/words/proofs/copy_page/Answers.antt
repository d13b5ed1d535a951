-- `copy_page`: the part of `to` that is lent comes back as the page of `from`.
use mathlib.Core.Path.{ap, ◌∙◌}
use Prim.Native.Nat.{◌+◌, ◌-◌, ◌*◌}
use borrow.Rule.Slice.PartMut.{put_mid}
use Rattle.model.specs.Bytes.{page}
use Rattle.words.proofs.Copies.{part_page, part_with_page}
use Rattle.words.proofs.copy_page.Goals as goal

pub returns : goal.returns
returns c =
    let a = c.args in
    ap (λ p. put_mid (4096 * a.y) (4096 * a.y + 4096 - 4096 * a.y) a.to.now p)
    (c.copy.ensures ∙ part_page a.from.now a.x)
    ∙ part_with_page a.to.now a.y (page a.from.now a.x)
