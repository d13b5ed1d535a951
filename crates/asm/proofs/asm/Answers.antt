-- `asm`: what is written and what is said are those of all that is read; a longer input is refused by its length alone.
use mathlib.Core.Path.{◌≡◌, refl, sym, ap, ◌∙◌}
use mathlib.Core.List.{List}
use Prim.Native.Nat.{ℕ, ◌<◌}
use lib.ListN.{length, take, replicate, length-replicate}
use lib.Seq.{length-take-le}
use Rattle.text.proofs.Appending.{written}
use Rattle.files.proofs.Known.{of_last, of_earlier, ends}
use Rattle.workshop.specs.Programs.{Work, asm_work}
use Rattle.workshop.proofs.Works.{text_long, asm_inside}
use Rattle.asm.proofs.asm.Goals as goal

abbrev zeros : List ℕ
zeros = replicate 65536 0

abbrev result : Work → List ℕ
result w = take w.length w.out

same : (xs ys : List ℕ) → 294912 < length xs → 294912 < length ys → asm_work xs zeros ≡ asm_work ys zeros
same xs ys i j = sym (text_long xs zeros i) ∙ text_long ys zeros j

pub slice_bounds-out-end : goal.slice_bounds-out-end
slice_bounds-out-end g c = (asm_inside _ _ c.asm-made.ensures).written

pub slice_bounds-write_all-end : goal.slice_bounds-write_all-end
slice_bounds-write_all-end g c = sym (length-take-le _ _ (asm_inside _ _ c.asm-made.ensures).written)

pub returns-clause-written : goal.returns-clause-written
returns-clause-written g c =
    let r = c.in_ok-length.ensures in
    let made = c.asm-made.ensures in
    of_earlier _ (λ l. result (asm_work l zeros)) 294912 _ _ _ _ _ _ r.read
    (λ i. r.ended (ends _ _ _ 294912 r.in_bounds.1 i (c.read_full.auto.bytes ∙ length-replicate {A = ℕ} 294913 0)))
    (λ xs ys i j. ap result (same xs ys i j)) (rw (made.written, made.output) refl) c.in_ok-write_all.ensures.bytes

pub returns-clause-said : goal.returns-clause-said
returns-clause-said g c =
    let r = c.in_ok-length.ensures in
    of_last _ (λ l. (asm_work l zeros).line) 294912 _ _ _ _ _ _ r.read
    (λ i. r.ended (ends _ _ _ 294912 r.in_bounds.1 i (c.read_full.auto.bytes ∙ length-replicate {A = ℕ} 294913 0)))
    (λ xs ys i j. ap (λ (w : Work). w.line) (same xs ys i j)) (written c.asm-made.ensures.line) c.write_all-2.ensures.bytes
