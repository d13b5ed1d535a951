-- `list`: what is written and what is said are those of all that is read; a longer input is refused by its length alone.
use mathlib.Core.Path.{◌≡◌, refl, sym, ap, ◌∙◌}
use mathlib.Core.List.{List}
use Prim.Native.Nat.{ℕ, ◌<◌}
use lib.ListN.{length, take, replicate, length-replicate}
use lib.Seq.{length-take-le}
use Rattle.text.proofs.Appending.{written}
use Rattle.files.proofs.Known.{of_last, of_earlier, ends}
use Rattle.workshop.specs.Programs.{Work, list_work}
use Rattle.workshop.proofs.Works.{words_long, list_inside}
use Rattle.list.proofs.list.Goals as goal

abbrev zeros : List ℕ
zeros = replicate 294912 0

abbrev result : Work → List ℕ
result w = take w.length w.out

same : (xs ys : List ℕ) → 65536 < length xs → 65536 < length ys → list_work xs zeros ≡ list_work ys zeros
same xs ys i j = sym (words_long xs zeros i) ∙ words_long ys zeros j

pub slice_bounds-out-end : goal.slice_bounds-out-end
slice_bounds-out-end g c = (list_inside _ _ c.list-made.ensures).written

pub slice_bounds-write_all-end : goal.slice_bounds-write_all-end
slice_bounds-write_all-end g c = sym (length-take-le _ _ (list_inside _ _ c.list-made.ensures).written)

pub returns-clause-written : goal.returns-clause-written
returns-clause-written g c =
    let r = c.in_ok-length.ensures in
    let made = c.list-made.ensures in
    of_earlier _ (λ l. result (list_work l zeros)) 65536 _ _ _ _ _ _ r.read
    (λ i. r.ended (ends _ _ _ 65536 r.in_bounds.1 i (c.read_full.auto.bytes ∙ length-replicate {A = ℕ} 65537 0)))
    (λ xs ys i j. ap result (same xs ys i j)) (rw (made.written, made.output) refl) c.in_ok-write_all.ensures.bytes

pub returns-clause-said : goal.returns-clause-said
returns-clause-said g c =
    let r = c.in_ok-length.ensures in
    of_last _ (λ l. (list_work l zeros).line) 65536 _ _ _ _ _ _ r.read
    (λ i. r.ended (ends _ _ _ 65536 r.in_bounds.1 i (c.read_full.auto.bytes ∙ length-replicate {A = ℕ} 65537 0)))
    (λ xs ys i j. ap (λ (w : Work). w.line) (same xs ys i j)) (written c.list-made.ensures.line) c.write_all-2.ensures.bytes
