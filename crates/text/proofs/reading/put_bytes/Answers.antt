-- `reading::put_bytes`: after k turns the first k bytes stand in the buffer.
use mathlib.Core.Path.{◌≡◌, refl, sym, ap, ◌∙◌}
use Prim.Native.Nat.{◌+◌, ◌*◌}
use native.Mathlib.Omega.{arith}
use lib.ListN.{get_or, set, length-set}
use lib.Seq.{paste, paste-zero}
use Rattle.laws.proofs.Over.{over_more, over_done}
use Rattle.text.specs.Reading.{bytes_of}
use Rattle.text.proofs.Pairs.{length-bytes_of, byte_at_lem}
use Rattle.text.proofs.reading.put_bytes.Goals as goal

pub loop-k-init : goal.loop-k-init
loop-k-init c =
    let a = c.args in
    (refl, paste-zero a.into.now a.at (bytes_of a.pairs.now))

pub loop-k-preserved : goal.loop-k-preserved
loop-k-preserved c =
    let v = c.loop-k in
    let a = c.args in
    let bytes = bytes_of a.pairs.now in
    let put = 16 * c.hex_value.result + c.hex_value-in-loop-k.result in
    let e : put ≡ get_or bytes v.k 0 =
    rw (c.hex_value.ensures.0, c.hex_value-in-loop-k.ensures.0) (sym (byte_at_lem a.pairs.now v.k (omega arith)))
    in (
      length-set v.into (a.at + v.k) put ∙ v.invariant.0,
      ap (λ l. set l (a.at + v.k) put) v.invariant.1 ∙ ap (λ x. set (paste a.into.now a.at bytes v.k) (a.at + v.k) x) e
          ∙ over_more a.into.now a.at bytes v.k (omega arith) (omega (arith, length-bytes_of a.pairs.now)),
    )

pub returns : goal.returns
returns c =
    let v = c.loop-k in
    let a = c.args in
    v.invariant.1 ∙ over_done a.into.now a.at (bytes_of a.pairs.now) v.k (omega (arith, length-bytes_of a.pairs.now))
