-- Loading's outcome by the reader's numbers, the room, and what the lent memories hold in the end.
use Rattle.std.proofs.Common.{◌≡◌, ℕ, ◌-◌, ◌*◌, ◌/◌, ◌≤◌, Bool, true, false, not, List, ◌++◌, length, replicate, sym, ap, ◌∙◌, arith, Ok, Err}
use borrow.Author.Tests.{not-true, not-false}
use Rattle.model.specs.Answers.{verdict_numbers, image_numbers}
use Rattle.model.specs.Calls.{unless, StateOutcome}
use Rattle.model.specs.State.{Memory, memory, state}
use Rattle.model.specs.Image.{ImageOutcome, image_by, image_call, rights_of, pages_of, room, load_verdict, invalid_entries, fresh, load_call}
use Rattle.model.specs.declared.Machine.{Machine}
use Rattle.model.specs.declared.Refusal.{Refusal}
use Rattle.model.specs.declared.Refusal.TheVariants.{Room}
use Rattle.model.specs.declared.Handed.{Handed}
use Rattle.model.specs.declared.Written.{Written}
use Rattle.laws.specs.Formed.{Roomy}
use Rattle.laws.proofs.Formed.{roomy_of, image_onward, read_accepted}
use Rattle.laws.proofs.Fresh.{length-rights, length-pages}
use Rattle.image.proofs.Accepted.{Answered, read_image, read_refused}
use Rattle.loading.specs.Fresh.{IsFresh, refused_by}

-- what a call of loading that hands back h comes to
abbrev pub outcome : Handed → List ℕ → List ℕ → StateOutcome
outcome h main swap = record { verdict = verdict_numbers h.verdict; state = state h.machine main swap }

module _ (l main swap : List ℕ) where
  pub not_image : (r : Refusal) → image_numbers (Err r) ≡ (image_call l).numbers → (h : Handed) → h ≡ refused_by r
      → outcome h main swap ≡ load_call l (memory main swap)
  unfolding load_call load_verdict
  not_image r e h q = rw (q, read_refused l r e _)

  -- an image, by what the code's test of the room says
  module _ (w : Written) (e : image_numbers (Ok w) ≡ (image_call l).numbers) (r : Bool)
      (hr : r ≡ room w.frames w.ptl (length main) (length swap)) where
    abbrev m : Memory
    m = memory main swap

    answer : Answered l w.ptl w.start w.frames
    answer = read_image l w.ptl w.start w.frames e

    verdict : load_verdict l m ≡ unless r Room (Ok tt)
    unfolding load_verdict
    verdict = image_onward l _ answer.known answer.formed ∙ rw (← answer.is_frames, ← answer.is_ptl, hr)

    pub no_room : not r ≡ true → (h : Handed) → h ≡ refused_by Room → outcome h main swap ≡ load_call l m
    unfolding load_call
    no_room n h q = rw (q, verdict, not-true r n)

    module _ (n : not r ≡ false) where
      has_room : Roomy w.frames w.ptl (length main) (length swap)
      has_room = roomy_of w.frames w.ptl (length main) (length swap) (sym hr ∙ not-false r n)

      pub few_pages : length main / 4096 ≤ 64
      few_pages = has_room.pages_most

      -- the sections that the reader hands out fit the memories
      sections : image_call l ≡ image_by (Ok tt) l
      sections = read_accepted l answer.known answer.formed

      the_rights : (image_call l).rights ≡ rights_of l
      the_rights = ap (λ (o : ImageOutcome). o.rights) sections

      the_pages : (image_call l).pages ≡ pages_of l
      the_pages = ap (λ (o : ImageOutcome). o.pages) sections

      rights_length_lem : length (image_call l).rights ≡ w.ptl
      rights_length_lem = ap length the_rights ∙ length-rights l answer.formed ∙ sym answer.is_ptl

      pages_length : length (image_call l).pages ≡ 4096 * w.ptl
      pages_length = rw (the_pages, answer.is_ptl) (length-pages l answer.formed)

      pub table_fits : (rights : List ℕ) → rights ≡ (image_call l).rights → 4 * length rights ≤ length main
      table_fits rights q =
          rw (q, rights_length_lem) (omega (arith, answer.formed.ptl_most, answer.is_ptl, has_room.pages_least))

      pub pages_fit : (pages : List ℕ) → pages ≡ (image_call l).pages → (length pages ≡ 4096 * w.ptl) × (length swap ≡ 4096 * w.ptl)
      pages_fit pages q = (rw q pages_length, has_room.swap_long)

      pub loaded : (machine : Machine) → IsFresh (length main) w.frames w.ptl w.start machine → (rights pages main' swap' : List ℕ)
          → rights ≡ (image_call l).rights → pages ≡ (image_call l).pages
          → main' ≡ invalid_entries rights ++ replicate (length main - 4 * length rights) 0 → swap' ≡ pages
          → outcome (record { machine = machine; verdict = (Ok tt) }) main' swap' ≡ load_call l m
      unfolding load_call fresh
      loaded machine hm rights pages main' swap' qr qp a b =
          rw (
            verdict,
            not-false r n,
            hm l answer.is_frames answer.is_ptl answer.is_start,
            a,
            b,
            qr,
            qp,
            rights_length_lem,
            the_rights,
            the_pages,
            answer.is_ptl,
          )
