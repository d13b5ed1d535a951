-- The ways out of the format's tests: a law for each, over plain variables.
use mathlib.Core.Path.{◌≡◌, sym, ap, ◌∙◌}
use mathlib.Core.Bool.{Bool, true, false, ◌&&◌, not, and_assoc, and-true}
use mathlib.Core.List.{List}
use Prim.Native.Nat.{ℕ, ◌+◌, ◌*◌, ◌%◌, ◌≤◌, ◌<◌}
use native.Mathlib.Omega.{arith}
use borrow.Author.Tests.{le-leb, lt-leb, eq-eqb, ne_eqb, leb-true, eqb-true, not-true, not-false}
use lib.Dec.{eqb, leb}
use lib.ListN.{length, get_or}
use Rattle.std.specs.Prelude.{Err, Ok}
use Rattle.model.specs.Choice.{passes, every_below}
use Rattle.model.specs.Words.{aligned}
use Rattle.model.specs.Image.{trailer, ptl_of, start_of, frames_of, rights_of, known, frames_right, well_formed, image_verdict}
use Rattle.model.specs.Parts.{Part}
use Rattle.model.specs.declared.Refusal.TheVariants.{Edition, Format}
use Rattle.laws.proofs.Choice.{pass}
use Rattle.image.specs.Trailer.{trailer_of}
use Rattle.image.specs.Sections.{rights_by}
use Rattle.image.specs.Format.{distances_right, rights_right, answer_of}
use Rattle.image.specs.declared.trailer.Trailer.{Trailer}
use Rattle.image.proofs.Parts.{the_rights, length-section}

-- ---- ptl, the distances and the label's length
module _ (t : Trailer) (n : ℕ) where
  pub ptl_low : t.ptl < 1 → false ≡ distances_right t n
  unfolding distances_right passes
  ptl_low h = simp (lt-leb 1 t.ptl h)

  module _ (h : 1 ≤ t.ptl) where
    pub ptl_high : 1024 < t.ptl → false ≡ distances_right t n
    unfolding distances_right passes
    ptl_high k = simp (le-leb 1 t.ptl h, lt-leb t.ptl 1024 k)

    pub ptl_right : t.ptl ≤ 1024
        → (eqb t.rights (24 + t.ptl) && eqb t.pages (24 + t.ptl + 4096 * t.ptl) && leb t.pages n && leb n (t.pages + 1024))
        ≡ distances_right t n
    unfolding distances_right passes
    ptl_right k = simp (le-leb 1 t.ptl h, le-leb t.ptl 1024 k, and_assoc, and-true)

-- ---- the whole row, in the code's four steps
module _ (l : List ℕ) where
  every_right : Bool
  every_right = every_below (ptl_of l) (λ x. leb (get_or (rights_of l) x 0) 3)

  split : well_formed l ≡ (distances_right (trailer_of l) (length l) && (every_right && (aligned 4 (start_of l) && frames_right (frames_of l))))
  unfolding well_formed distances_right passes every_right
  split = simp (and_assoc, and-true)

  far_enough : distances_right (trailer_of l) (length l) ≡ true → 24 + ptl_of l + 4096 * ptl_of l ≤ length l
  unfolding distances_right
  far_enough e = omega (arith, eqb-true (trailer l 1) (24 + ptl_of l + 4096 * ptl_of l) (pass _ e 3), leb-true (trailer l 1) (length l) (pass _ e 4))

  rights_read : distances_right (trailer_of l) (length l) ≡ true → rights_right (rights_by l (ptl_of l)).bytes ≡ every_right
  unfolding every_right rights_of
  rights_read e =
      let h = far_enough e in
      ap (λ n. every_below n (λ x. leb (get_or (rights_by l (ptl_of l)).bytes x 0) 3))
      (length-section l (24 + ptl_of l) (ptl_of l) (omega arith) (omega arith))
      ∙ ap (λ (p : Part). every_below (ptl_of l) (λ x. leb (get_or p.bytes x 0) 3)) (the_rights l (omega arith))

  -- by the trailer t that the code has read, and what each of its calls says
  module _ (t : Trailer) (ht : t ≡ trailer_of l) (d : Bool) (hd : d ≡ distances_right t (length l)) where
    distances_are : distances_right (trailer_of l) (length l) ≡ d
    distances_are = sym (rw ht at hd)

    pub distances_wrong : not d ≡ true → false ≡ well_formed l
    distances_wrong h = rw (split, distances_are, not-true d h)

    module _ (h : not d ≡ false) (rights : List ℕ) (hr : rights ≡ (rights_by l t.ptl).bytes) (r : Bool) (e : r ≡ rights_right rights) where
      rights_are : every_right ≡ r
      rights_are = sym (e ∙ ap rights_right (rw ht at hr) ∙ rights_read (distances_are ∙ not-false d h))

      pub rights_wrong : not r ≡ true → false ≡ well_formed l
      rights_wrong k = rw (split, distances_are, not-false d h, rights_are, not-true r k)

      module _ (k : not r ≡ false) where
        the_rest : well_formed l ≡ (aligned 4 (start_of l) && frames_right (frames_of l))
        the_rest = rw (split, distances_are, not-false d h, rights_are, not-false r k)

        pub start_wrong : (t.start % 4 ≡ 0 → ⊥) → false ≡ well_formed l
        start_wrong q = rw (the_rest, ne_eqb (start_of l % 4) 0 (rw ht at q))

        pub frames_decide : t.start % 4 ≡ 0 → (f : Bool) → f ≡ frames_right t.frames → f ≡ well_formed l
        frames_decide q f e = rw (the_rest, eq-eqb (start_of l % 4) 0 (rw ht at q)) (rw ht at e)

-- ---- the answer
module _ (l : List ℕ) where
  pub too_short : length l < 24 → Err Edition ≡ answer_of l
  unfolding answer_of image_verdict known
  too_short h = simp (lt-leb 24 (length l) h)

  module _ (h : 24 ≤ length l) (t : Trailer) (ht : t ≡ trailer_of l) where
    pub edition_wrong : (t.edition ≡ 1 → ⊥) → Err Edition ≡ answer_of l
    unfolding answer_of image_verdict known
    edition_wrong k = simp (le-leb 24 (length l) h, ne_eqb (trailer l 5) 1 (rw ht at k))

    module _ (k : t.edition ≡ 1) (w : Bool) (hw : w ≡ well_formed l) where
      pub format_wrong : not w ≡ true → Err Format ≡ answer_of l
      unfolding answer_of image_verdict known
      format_wrong q = simp (le-leb 24 (length l) h, eq-eqb (trailer l 5) 1 (rw ht at k), sym hw ∙ not-true w q)

      pub format_right : not w ≡ false → Ok (record { ptl = t.ptl; start = t.start; frames = t.frames }) ≡ answer_of l
      unfolding answer_of image_verdict known
      format_right q = rw ht (simp (le-leb 24 (length l) h, eq-eqb (trailer l 5) 1 (rw ht at k), sym hw ∙ not-false w q))
