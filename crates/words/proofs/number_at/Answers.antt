-- `number_at`: the bytes that come are the number's, and the others stay 0.
use mathlib.Core.Path.{◌≡◌, ap, ◌∙◌}
use mathlib.Core.List.{[], ◌∷◌}
use Prim.Native.Nat.{◌+◌, ◌-◌}
use native.Mathlib.Omega.{arith}
use lib.ListN.{take, drop}
use borrow.Rule.Slice.PartMut.{put_mid}
use Rattle.std.specs.Int.{w32, from_le_bytes}
use Rattle.words.proofs.Numbers.{number_first}
use Rattle.words.proofs.number_at.Goals as goal

pub returns : goal.returns
returns g c =
    let a = c.args in
    let n = g.row.N in
    let e : a.at + n - a.at ≡ n = omega arith in
    c.from_le_bytes.ensures
    ∙ ap (λ b. from_le_bytes w32 (put_mid 0 n (0 ∷ 0 ∷ 0 ∷ 0 ∷ []) b)) (c.copy_from_slice.ensures.after ∙ ap (λ k. take k (drop a.at a.m.now)) e)
    ∙ number_first n a.at a.m.now c.requires.1 c.requires.0
