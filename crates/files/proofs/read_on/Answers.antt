-- `read_on`: what is read now stands behind what was read before.
use mathlib.Core.Path.{◌≡◌, ◌∙◌}
use Rattle.std.proofs.Common.{◌-◌, length, take, drop, arith, ℕ, List}
use lib.ListN.{length-drop}
use lib.Seq.{length-take-le}
use borrow.Rule.Slice.PartMut.{same_len_mid}
use Rattle.std.proofs.lemmas.Slice.{take-put_mid_below}
use Rattle.files.proofs.Known.{consumed, grown}
use Rattle.files.proofs.read_on.Goals as goal

-- the rest of a list, as long as it is
rest_long : (d : ℕ) (xs : List ℕ) → length (take (length xs - d) (drop d xs)) ≡ length xs - d
rest_long d xs = length-take-le (length xs - d) (drop d xs) (omega (arith, length-drop d xs))

pub loop-done-preserved : goal.loop-done-preserved
loop-done-preserved g c =
    let l = c.loop-done in
    let v = l.invariant in
    let long : length c.read.new.buf ≡ length l.bytes - l.done = c.read.auto.buf ∙ rest_long l.done l.bytes in
    let same = same_len_mid l.done (length l.bytes - l.done) l.bytes c.read.new.buf c.read.auto.buf in
    let h = c.in_ok-more.ensures in
    record {
      on = omega (arith, v.on);
      within = omega (arith, v.within, same, long, h.bound.0);
      long = same ∙ v.long;
      kept = take-put_mid_below l.done (length l.bytes - l.done) l.bytes c.read.new.buf c.args.first v.on v.within ∙ v.kept;
      read =
          rw (grown l.bytes c.read.new.buf l.done (length l.bytes - l.done) c.in_ok-more.more c.args.first v.within h.bound.0 v.on)
          (consumed _ _ _ _ _ v.read h.bytes.0);
    }
