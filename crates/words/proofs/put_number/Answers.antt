-- `put_number`: the first bytes of the number go to their place.
use mathlib.Core.Path.{◌≡◌, ap, ap₂, ◌∙◌}
use Prim.Native.Nat.{◌+◌, ◌-◌}
use native.Mathlib.Omega.{arith}
use lib.ListN.{take}
use borrow.Rule.Slice.PartMut.{put_mid}
use Rattle.words.proofs.Numbers.{store_first}
use Rattle.words.proofs.put_number.Goals as goal

pub returns : goal.returns
returns g c =
    let a = c.args in
    let n = g.row.N in
    let e : a.at + n - a.at ≡ n = omega arith in
    ap₂ (λ k b. put_mid a.at k a.m.now b) e (c.copy_from_slice.ensures.after ∙ ap (λ b. take n b) c.to_le_bytes-bytes.ensures)
    ∙ store_first n a.at a.x a.m.now c.requires.1 c.requires.0
