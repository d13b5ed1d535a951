-- The trailer's numbers as code reads them, and the sections as it cuts them: none, or the part that the definition names.
use mathlib.Core.Path.{◌≡◌, sym}
use mathlib.Core.List.{List}
use Prim.Native.Nat.{ℕ, ◌+◌, ◌-◌, ◌*◌, ◌≤◌, ◌<◌}
use native.Mathlib.Omega.{arith}
use native.Mathlib.Nat.{add-zero}
use borrow.Author.Tests.{le-leb, lt-leb}
use lib.ListN.{length, length-take, length-drop}
use Rattle.model.specs.Bytes.{number}
use Rattle.model.specs.Image.{trailer, ptl_of, rights_place, pages_place}
use Rattle.model.specs.Parts.{part_at, no_part}
use Rattle.image.specs.Trailer.{trailer_of}
use Rattle.image.specs.Sections.{section, rights_by, pages_by}

-- six words, the first 24 bytes before the end
pub six_numbers : (l : List ℕ) (rights pages ptl start frames edition : ℕ)
    → rights ≡ number 4 l (length l - 24)
    → pages ≡ number 4 l (length l - 24 + 4)
    → ptl ≡ number 4 l (length l - 24 + 8)
    → start ≡ number 4 l (length l - 24 + 12)
    → frames ≡ number 4 l (length l - 24 + 16)
    → edition ≡ number 4 l (length l - 24 + 20)
    → record { rights = rights; pages = pages; ptl = ptl; start = start; frames = frames; edition = edition } ≡ trailer_of l
unfolding trailer
six_numbers l rights pages ptl start frames edition a b c d e f = cc (add-zero (length l - 24))

module _ (l : List ℕ) (back n : ℕ) where
  pub no_such : back < n → no_part ≡ section l back n
  unfolding section
  no_such h = simp (lt-leb n back h)

  module _ (h : n ≤ back) where
    pub too_far : length l < back → no_part ≡ section l back n
    unfolding section
    too_far k = simp (le-leb n back h, lt-leb back (length l) k)

    module _ (k : back ≤ length l) where
      pub the_part : part_at l (length l - back) n ≡ section l back n
      unfolding section
      the_part = simp (le-leb n back h, le-leb back (length l) k)

      pub length-section : length (section l back n).bytes ≡ n
      length-section = rw (← the_part) (simp (length-take, length-drop) (omega arith))

-- in a file that has them, they are the sections
module _ (l : List ℕ) where
  pub the_rights : 24 + ptl_of l ≤ length l → rights_by l (ptl_of l) ≡ part_at l (rights_place l) (ptl_of l)
  the_rights h = sym (the_part l (24 + ptl_of l) (ptl_of l) (omega arith) h)

  pub the_pages : 24 + ptl_of l + 4096 * ptl_of l ≤ length l → pages_by l (ptl_of l) ≡ part_at l (pages_place l) (4096 * ptl_of l)
  the_pages h = sym (the_part l (24 + ptl_of l + 4096 * ptl_of l) (4096 * ptl_of l) (omega arith) h)
