-- `with_file`: what is lent lies within the arrays, which are zeros, and the script is short enough; all that is written is the definition's.
use mathlib.Core.Path.{◌≡◌, sym, ap, ◌∙◌}
use Prim.Native.Nat.{ℕ, ◌*◌, ◌≤◌}
use native.Mathlib.Omega.{arith}
use lib.ListN.{length, take, replicate, length-replicate}
use lib.Seq.{length-take-le}
use Rattle.text.proofs.Appending.{written}
use Rattle.files.proofs.Known.{of_all_last, ends}
use Rattle.talk.specs.Script.{Spoken, talk_after}
use Rattle.talk.proofs.Going.{short}
use Rattle.comparison.specs.Desk.{Desk}
use Rattle.comparison.specs.Line.{spoken}
use Rattle.comparison.specs.Compare.{closed, compare_text}
use Rattle.comparison.proofs.Begun.{image_admitted}
use Rattle.compare.proofs.Closed.{text_granted, text_refused, begun_zeros}
use Rattle.compare.proofs.with_file.Goals as goal

-- a part of an array of zeros
part_long : (k n : ℕ) → k ≤ n → k ≡ length {A = ℕ} (take k (replicate n 0))
part_long k n h = sym (length-take-le {A = ℕ} k (replicate n 0) (omega (arith, length-replicate {A = ℕ} n 0)))

pub slice_bounds-main-end : goal.slice_bounds-main-end
slice_bounds-main-end g c =
    let image = image_admitted c.args.file.now c.args.pages _ c.in-Ok.ensures in
    omega (arith, image.2)

pub slice_bounds-compare-end : goal.slice_bounds-compare-end
slice_bounds-compare-end g c =
    let image = image_admitted c.args.file.now c.args.pages _ c.in-Ok.ensures in
    part_long (4096 * c.args.pages) 262144 (omega (arith, image.2))

pub slice_bounds-swap-end : goal.slice_bounds-swap-end
slice_bounds-swap-end g c =
    let image = image_admitted c.args.file.now c.args.pages _ c.in-Ok.ensures in
    omega (arith, image.1)

pub slice_bounds-compare-end-in-Ok : goal.slice_bounds-compare-end-in-Ok
slice_bounds-compare-end-in-Ok g c =
    let image = image_admitted c.args.file.now c.args.pages _ c.in-Ok.ensures in
    part_long (4096 * c.in-Ok.written.ptl) 262144 (omega (arith, image.1))

pub slice_bounds-memory-end : goal.slice_bounds-memory-end
slice_bounds-memory-end g c =
    let image = image_admitted c.args.file.now c.args.pages _ c.in-Ok.ensures in
    omega (arith, image.1)

pub slice_bounds-compare-end-in-Ok-2 : goal.slice_bounds-compare-end-in-Ok-2
slice_bounds-compare-end-in-Ok-2 g c =
    let image = image_admitted c.args.file.now c.args.pages _ c.in-Ok.ensures in
    part_long (4096 * c.in-Ok.written.ptl) 262144 (omega (arith, image.1))

pub slice_bounds-rights-end : goal.slice_bounds-rights-end
slice_bounds-rights-end g c = (image_admitted c.args.file.now c.args.pages _ c.in-Ok.ensures).1

pub slice_bounds-compare-end-in-Ok-3 : goal.slice_bounds-compare-end-in-Ok-3
slice_bounds-compare-end-in-Ok-3 g c =
    part_long c.in-Ok.written.ptl 64 (image_admitted c.args.file.now c.args.pages _ c.in-Ok.ensures).1

pub compare-requires : goal.compare-requires
compare-requires g c =
    let image = image_admitted c.args.file.now c.args.pages _ c.in-Ok.ensures in (
      image.0,
      sym (part_long (4096 * c.in-Ok.written.ptl) 262144 (omega (arith, image.1))),
      omega (arith, length-replicate {A = ℕ} 65536 0),
      short c.in_ok-count.ensures.in_bounds.1 c.if-count-gt65536.false,
    )

pub returns-in-Err : goal.returns-in-Err
returns-in-Err g c =
    let r = c.in_ok-count.ensures in
    of_all_last _ (compare_text c.args.file.now c.args.pages) 65536 _ _ _ _ _ _ r.read
    (λ i. r.ended (ends _ _ _ 65536 r.in_bounds.1 i (c.read_full.auto.bytes ∙ length-replicate {A = ℕ} 65537 0)))
    (written c.turned_away-filled.ensures ∙ text_refused c.args.file.now c.args.pages _ _ c.in-Err.ensures) c.write_all.ensures.bytes

pub returns-in-Ok : goal.returns-in-Ok
returns-in-Ok g c =
    let r = c.in_ok-count.ensures in
    let image = image_admitted c.args.file.now c.args.pages _ c.in-Ok.ensures in
    let script = take c.in_ok-count.count c.read_full.new.bytes in
    of_all_last _ (compare_text c.args.file.now c.args.pages) 65536 script _ _ _ _ _ r.read
    (λ i. r.ended (ends _ _ _ 65536 r.in_bounds.1 i (c.read_full.auto.bytes ∙ length-replicate {A = ℕ} 65537 0)))
    (sym (
    text_granted c.args.file.now c.args.pages script c.in-Ok.ensures
    ∙ ap (λ (s : Spoken Desk). closed (talk_after spoken s script))
    (begun_zeros c.args.file.now c.args.pages c.in-Ok.written.ptl image.0.ptl_is image.1 image.2)
    )) c.compare.ensures
