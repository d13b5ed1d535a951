-- A frame in use by what the code finds: its page, and the entry of that page.
use mathlib.Core.Path.{◌≡◌, refl, sym, ap, ◌∙◌}
use mathlib.Core.Bool.{Bool, true, false, ◌&&◌, and-false}
use mathlib.Core.List.{List}
use Prim.Native.Nat.{ℕ, ◌%◌, ◌≤◌, ◌<◌}
use borrow.Author.Tests.{lt-ltb, le-ltb, eq-eqb, ne_eqb}
use lib.Dec.{ltb}
use lib.ListN.{get_or, get_or-map}
use Rattle.model.specs.Pages.{virtual, frame_at}
use Rattle.model.specs.Table.{entry, ppx, valid}
use Rattle.model.specs.Frames.{page_in}
use Rattle.model.specs.Sound.{held_in_table, seated, frames_seated}
use Rattle.model.specs.declared.Shape.{Shape}
use Rattle.model.specs.declared.FrameBook.{FrameBook}
use Rattle.model.specs.declared.VirtualPage.{VirtualPage}
use Rattle.laws.proofs.Choice.{and_both}
use Rattle.book.specs.Numbers.{book_of}
use Rattle.book.proofs.Loops.{fails}
use Rattle.book.proofs.Ways.{page_number}

module _ (s : Shape) (used : ℕ) (held main : List ℕ) where
  abbrev b : FrameBook
  b = book_of used 0 held 0

  -- both tests of the pages in use
  abbrev Both : Bool
  Both = held_in_table s.ptl b && frames_seated s b main

  pub both_pass : true ≡ held_in_table s.ptl b → true ≡ frames_seated s b main → true ≡ Both
  both_pass p q = sym (and_both _ _ (sym p) (sym q))

  module _ (i : ℕ) where
    pub page_within : get_or held i 0 < s.ptl → ltb (page_in b i).0 s.ptl ≡ true
    page_within h = ap (λ n. ltb n s.ptl) (page_number held i) ∙ lt-ltb _ _ h

    pub page_beyond : i < used → s.ptl ≤ get_or held i 0 → false ≡ Both
    page_beyond q h = rw (← fails used (λ k. ltb (page_in b k).0 s.ptl) i q (ap (λ n. ltb n s.ptl) (page_number held i) ∙ le-ltb _ _ h)) refl

    -- by the entry e of its page
    module _ (y : VirtualPage) (is : y ≡ virtual (get_or held i 0)) (e : ℕ) (he : e ≡ entry s main y) where
      its : e ≡ entry s main (page_in b i)
      its = he ∙ ap (entry s main) (is ∙ sym (get_or-map virtual held i 0))

      unseated : i < used → seated s b main i ≡ false → false ≡ Both
      unseated q h = rw (← fails used (λ k. seated s b main k) i q h) (sym (and-false (held_in_table s.ptl b)))

      pub seat_invalid : i < used → (e % 2 ≡ 1 → ⊥) → false ≡ Both
      seat_invalid q n = unseated q (rw (← its, ne_eqb (e % 2) 1 n) refl)

      pub seat_other : i < used → ((ppx e).0 ≡ (frame_at s i).0 → ⊥) → false ≡ Both
      seat_other q n = unseated q (rw (← its, ne_eqb (ppx e).0 (frame_at s i).0 n) (and-false (valid e)))

      pub seat_there : e % 2 ≡ 1 → (ppx e).0 ≡ (frame_at s i).0 → seated s b main i ≡ true
      seat_there v q = rw (← its) (and_both _ _ (eq-eqb (e % 2) 1 v) (eq-eqb (ppx e).0 (frame_at s i).0 q))

-- ---- the ways out at frame i, by what the code finds there
module _ (s : Shape) (used hand marks : ℕ) (held main : List ℕ) (i : ℕ) (q : i < used) where
  abbrev Said : Type 0
  Said = false ≡ (held_in_table s.ptl (book_of used hand held marks) && frames_seated s (book_of used hand held marks) main)

  pub beyond_way : s.ptl ≤ get_or held i 0 → Said
  beyond_way h = page_beyond s used held main i q h

  pub invalid_way : (entry s main (virtual (get_or held i 0)) % 2 ≡ 1 → ⊥) → Said
  invalid_way n = seat_invalid s used held main i _ refl _ refl q n

  pub other_way : ((ppx (entry s main (virtual (get_or held i 0)))).0 ≡ (frame_at s i).0 → ⊥) → Said
  other_way n = seat_other s used held main i _ refl _ refl q n

pub ruleset unseated_ways = (beyond_way, invalid_way, other_way)
