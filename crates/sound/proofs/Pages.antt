-- The page of a frame in use by what the code finds: it has its mark, or it is compared.
use mathlib.Core.Path.{◌≡◌, sym, ap, ap₂, ◌∙◌}
use mathlib.Core.Bool.{Bool, true, false, ◌||◌}
use mathlib.Core.List.{List}
use Prim.Native.Nat.{ℕ, ◌<◌}
use borrow.Author.Tests.{ltb-true}
use lib.Dec.{ltb}
use lib.ListN.{get_or, get_or-map}
use Rattle.model.specs.Bytes.{same}
use Rattle.model.specs.Pages.{virtual, frame_at, swap_of, main_page, swap_page}
use Rattle.model.specs.Frames.{marked}
use Rattle.model.specs.State.{memory}
use Rattle.model.specs.Sound.{held_in_table, clean}
use Rattle.model.specs.declared.Shape.{Shape}
use Rattle.model.specs.declared.VirtualPage.{VirtualPage}
use Rattle.model.specs.declared.MainPage.{MainPage}
use Rattle.model.specs.declared.SwapPage.{SwapPage}
use Rattle.laws.proofs.Choice.{or_left, every_at}
use Rattle.book.specs.Numbers.{book_of}
use Rattle.book.proofs.Ways.{page_number}

module _ (s : Shape) (main swap : List ℕ) (marks : ℕ) where
  -- frame f, which holds page x, by whether the code finds its mark
  module _ (f x : ℕ) (k : Bool) (is : k ≡ marked marks f) where
    abbrev Test : Bool
    Test = marked marks f || same (main_page main (frame_at s f)) (swap_page swap (swap_of s (virtual x)))

    pub by_mark : k ≡ true → true ≡ Test
    by_mark h = sym (or_left _ _ (sym is ∙ h))

    pub by_pages : k ≡ false → (p : MainPage) → p ≡ frame_at s f → (y : VirtualPage) → y ≡ virtual x → (q : SwapPage) → q ≡ swap_of s y
        → (r : Bool) → r ≡ same (main_page main p) (swap_page swap q) → r ≡ Test
    by_pages h p hp y hy q hq r e =
        rw (sym is ∙ h) (e ∙ ap₂ (λ a b. same (main_page main a) (swap_page swap b)) hp (hq ∙ ap (swap_of s) hy))

  -- frame i of the book
  module _ (used : ℕ) (held : List ℕ) (i : ℕ) where
    pub held_below : held_in_table s.ptl (book_of used 0 held marks) ≡ true → i < used → get_or held i 0 < s.ptl
    held_below t q = ltb-true _ _ (ap (λ n. ltb n s.ptl) (sym (page_number held i)) ∙ every_at used _ t i q)

    pub in_book : (r : Bool) → r ≡ (marked marks i || same (main_page main (frame_at s i)) (swap_page swap (swap_of s (virtual (get_or held i 0)))))
        → r ≡ clean s (book_of used 0 held marks) (memory main swap) i
    in_book r e = rw (get_or-map virtual held i 0) e
