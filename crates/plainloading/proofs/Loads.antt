-- Loading's outcome by the reader's numbers, the room, and what the lent slices hold in the end.
use Rattle.std.proofs.Common.{◌≡◌, ℕ, ◌*◌, Bool, true, false, ◌&&◌, eqb, List, length, sym, ap, ◌∙◌, eqb-true, Ok, Err}
use Rattle.model.specs.Answers.{verdict_numbers, image_numbers}
use Rattle.model.specs.Calls.{unless}
use Rattle.model.specs.Image.{ImageOutcome, image_by, image_call, rights_of, pages_of}
use Rattle.model.specs.declared.Refusal.{Refusal}
use Rattle.model.specs.declared.Written.{Written}
use Rattle.model.specs.declared.Refusal.TheVariants.{Room}
use Rattle.laws.proofs.Choice.{and_left, and_right}
use Rattle.laws.proofs.Formed.{image_onward, read_accepted}
use Rattle.laws.proofs.Fresh.{length-rights, length-pages}
use Rattle.image.proofs.Accepted.{Answered, read_image, read_refused}
use Rattle.plainmodel.specs.State.{plain_state}
use Rattle.plainmodel.specs.Load.{room, load_verdict, fresh, LoadOutcome, load_call}
use Rattle.plainmodel.specs.declared.Plain.{Plain}
use Rattle.plainmodel.specs.declared.PlainHanded.{PlainHanded}
use Rattle.plainloading.specs.Fresh.{fresh_plain, refused_by}

-- what a call of loading that hands back h comes to
abbrev outcome : PlainHanded → List ℕ → List ℕ → LoadOutcome
outcome h bytes rights = record { verdict = verdict_numbers h.verdict; state = plain_state h.plain bytes rights }

module _ (l bytes rights : List ℕ) where
  pub not_image : (r : Refusal) → image_numbers (Err r) ≡ (image_call l).numbers → (h : PlainHanded) → h ≡ refused_by r
      → outcome h bytes rights ≡ load_call l bytes rights
  unfolding load_call load_verdict
  not_image r e h q = rw (q, read_refused l r e _)

  -- an image, by what the code's test of the room says
  module _ (w : Written) (e : image_numbers (Ok w) ≡ (image_call l).numbers) (r : Bool) (hr : r ≡ room w.ptl (length bytes) (length rights)) where
    answer : Answered l w.ptl w.start w.frames
    answer = read_image l w.ptl w.start w.frames e

    verdict : load_verdict l bytes rights ≡ unless r Room (Ok tt)
    unfolding load_verdict
    verdict = image_onward l _ answer.known answer.formed ∙ rw (← answer.is_ptl, hr)

    pub no_room : r ≡ false → (h : PlainHanded) → h ≡ refused_by Room → outcome h bytes rights ≡ load_call l bytes rights
    unfolding load_call
    no_room n h q = rw (q, verdict, n)

    module _ (n : r ≡ true) where
      has_room : (length bytes ≡ 4096 * w.ptl) × (length rights ≡ w.ptl)
      unfolding room
      has_room =
          let both : (eqb (length bytes) (4096 * w.ptl) && eqb (length rights) w.ptl) ≡ true = sym hr ∙ n in
          (eqb-true _ _ (and_left _ _ both), eqb-true _ _ (and_right (eqb (length bytes) (4096 * w.ptl)) _ both))

      -- the sections that the reader hands out fit the slices
      sections : image_call l ≡ image_by (Ok tt) l
      sections = read_accepted l answer.known answer.formed

      the_pages : (image_call l).pages ≡ pages_of l
      the_pages = ap (λ (o : ImageOutcome). o.pages) sections

      the_rights : (image_call l).rights ≡ rights_of l
      the_rights = ap (λ (o : ImageOutcome). o.rights) sections

      pub pages_fit : (pages : List ℕ) → pages ≡ (image_call l).pages → (length pages ≡ 4096 * w.ptl) × (length bytes ≡ 4096 * w.ptl)
      pages_fit pages q = (rw (q, the_pages, answer.is_ptl) (length-pages l answer.formed), has_room.0)

      pub rights_fit : (given : List ℕ) → given ≡ (image_call l).rights → length given ≡ length rights
      rights_fit given q = rw (q, the_rights) (length-rights l answer.formed ∙ sym answer.is_ptl ∙ sym has_room.1)

      pub loaded : (plain : Plain) → plain ≡ fresh_plain w.ptl w.start → (pages given bytes' rights' : List ℕ)
          → pages ≡ (image_call l).pages → given ≡ (image_call l).rights → bytes' ≡ pages → rights' ≡ given
          → outcome (record { plain = plain; verdict = (Ok tt) }) bytes' rights' ≡ load_call l bytes rights
      unfolding load_call fresh
      loaded plain hp pages given bytes' rights' qp qr a b =
          rw (verdict, n, hp, a, b, qp, qr, the_pages, the_rights, answer.is_ptl, answer.is_start)
