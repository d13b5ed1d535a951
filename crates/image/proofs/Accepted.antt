-- What the answer says of the file: of one that is accepted, and of one that is refused; and the reader's outcome by it. Whoever calls
-- the reader has these facts from the numbers of its answer: `read_image`, `read_refused`.
use mathlib.Core.Path.{◌≡◌, refl, sym, ap, ◌∙◌}
use mathlib.Core.List.{List}
use Prim.Native.Nat.{ℕ, ◌*◌}
use native.Mathlib.Omega.{arith}
use Rattle.std.specs.Prelude.{Ok, Err}
use Rattle.model.specs.Answers.{image_numbers, Verdict, ImageAnswer}
use Rattle.model.specs.Image.{ptl_of, start_of, frames_of, rights_place, rights_of, pages_place, pages_of, known, well_formed, image_verdict, image_by, image_call}
use Rattle.model.specs.Parts.{part_at, no_part, pages_part, rights_part}
use Rattle.model.specs.declared.Refusal.{Refusal}
use Rattle.model.specs.declared.Written.{Written}
use Rattle.model.specs.declared.Refusal.TheVariants.{Edition, Format}
use Rattle.laws.specs.Formed.{Known, Formed}
use Rattle.laws.proofs.Choice.{clash}
use Rattle.laws.proofs.Numbers.{image_told}
use Rattle.laws.proofs.Granted.{refused_first}
use Rattle.laws.proofs.Formed.{image_facts}
use Rattle.image.specs.Sections.{rights_by, pages_by, rights_by_answer, pages_by_answer}
use Rattle.image.specs.Format.{answer_by, answer_of}
use Rattle.image.proofs.Parts.{the_rights, the_pages}

-- the file is an image, and the answer's numbers are the file's
pub record Answered (l : List ℕ) (ptl start frames : ℕ) : Type 0 where
  pub known : Known l
  pub formed : Formed l
  pub is_ptl : ptl ≡ ptl_of l
  pub is_start : start ≡ start_of l
  pub is_frames : frames ≡ frames_of l

-- ---- the verdict from the answer
by_image : (v : Verdict) (l : List ℕ) (w : Written) → answer_by v l ≡ Ok w → v ≡ Ok tt
by_image (Ok tt) l w e = refl
by_image (Err r) l w e = clash (cc)

by_refusal : (v : Verdict) (l : List ℕ) (r : Refusal) → answer_by v l ≡ Err r → v ≡ Err r
by_refusal (Ok tt) l r e = clash (cc)
by_refusal (Err q) l r e = cc

module _ (l : List ℕ) where
  keeps : (after : Verdict) (r : Refusal) → answer_of l ≡ Err r → image_verdict l after ≡ Err r
  unfolding image_verdict answer_of
  keeps after r e = refused_first (known l) (well_formed l) Edition Format r after (by_refusal (image_verdict l (Ok tt)) l r e)

  answered : (w : Written) → answer_of l ≡ Ok w → Answered l w.ptl w.start w.frames
  unfolding answer_of
  answered w e =
      let v = by_image (image_verdict l (Ok tt)) l w e in
      let q : Ok (record { ptl = ptl_of l; start = start_of l; frames = frames_of l }) ≡ Ok w = sym (ap (λ u. answer_by u l) v) ∙ e in
      let f = image_facts l (Ok tt) v in
      record { known = f.0; formed = f.1; is_ptl = cc; is_start = cc; is_frames = cc }

-- ---- the reader
numbers_by : (v : Verdict) (l : List ℕ) → image_numbers (answer_by v l) ≡ (image_by v l).numbers
numbers_by (Ok tt) l = refl
numbers_by (Err r) l = refl

module _ (l : List ℕ) where
  pub read_numbers : image_numbers (answer_of l) ≡ (image_call l).numbers
  unfolding answer_of image_call
  read_numbers = numbers_by (image_verdict l (Ok tt)) l

  module _ (r : Refusal) (e : answer_of l ≡ Err r) where
    no_pages : no_part ≡ pages_part l
    unfolding image_call
    no_pages = rw (keeps l (Ok tt) r e)

    no_rights : no_part ≡ rights_part l
    unfolding image_call
    no_rights = rw (keeps l (Ok tt) r e)

  module _ (w : Written) (e : answer_of l ≡ Ok w) where
    -- the sections that code cuts by the answer's ptl
    the_pages_by : pages_by l w.ptl ≡ part_at l (pages_place l) (4096 * ptl_of l)
    the_pages_by =
        let a = answered l w e in
        rw a.is_ptl (the_pages l (omega (arith, a.formed.to_pages, a.formed.within)))

    the_rights_by : rights_by l w.ptl ≡ part_at l (rights_place l) (ptl_of l)
    the_rights_by =
        let a = answered l w e in
        rw a.is_ptl (the_rights l (omega (arith, a.formed.to_pages, a.formed.within)))

    verdict : image_verdict l (Ok tt) ≡ Ok tt
    unfolding answer_of
    verdict = by_image (image_verdict l (Ok tt)) l w e

    some_pages : pages_by l w.ptl ≡ pages_part l
    unfolding image_call pages_of
    some_pages = rw verdict the_pages_by

    some_rights : rights_by l w.ptl ≡ rights_part l
    unfolding image_call rights_of
    some_rights = rw verdict the_rights_by

  -- the sections by the answer at hand
  pub hand_pages : (a : ImageAnswer) → a ≡ answer_of l → pages_by_answer l a ≡ pages_part l
  hand_pages (Ok w) e = some_pages w (sym e)
  hand_pages (Err r) e = no_pages r (sym e)

  pub hand_rights : (a : ImageAnswer) → a ≡ answer_of l → rights_by_answer l a ≡ rights_part l
  hand_rights (Ok w) e = some_rights w (sym e)
  hand_rights (Err r) e = no_rights r (sym e)

-- ---- by the numbers of the answer
module _ (l : List ℕ) where
  by_numbers : (a : ImageAnswer) → image_numbers a ≡ (image_call l).numbers → answer_of l ≡ a
  by_numbers a e = image_told (answer_of l) a (read_numbers l ∙ sym e)

  pub read_image : (ptl start frames : ℕ) → image_numbers (Ok (record { ptl = ptl; start = start; frames = frames })) ≡ (image_call l).numbers → Answered l ptl start frames
  read_image ptl start frames e = answered l _ (by_numbers _ e)

  pub read_refused : (r : Refusal) → image_numbers (Err r) ≡ (image_call l).numbers → (after : Verdict) → image_verdict l after ≡ Err r
  read_refused r e after = keeps l after r (by_numbers _ e)
