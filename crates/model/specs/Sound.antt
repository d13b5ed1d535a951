-- Sections "Numbers that bound it" and "Table and frame book": when a shape fits its memories, and when a machine is sound.
use Rattle.std.specs.Prelude.{Bool, ◌&&◌, ◌||◌, not, List, [], ◌∷◌, ℕ, ◌+◌, ◌*◌, ◌^◌, eqb, leb, ltb, length, get_or, if◌then◌else◌}
use Rattle.model.specs.Choice.{passes, every_below}
use Rattle.model.specs.Words.{aligned}
use Rattle.model.specs.Bytes.{same}
use Rattle.model.specs.Pages.{virtual, frame_at, swap_of, main_page, swap_page}
use Rattle.model.specs.Table.{entry, ppx, valid}
use Rattle.model.specs.Frames.{page_in, marked, free, resident}
use Rattle.model.specs.State.{Memory}
use Rattle.model.specs.declared.Shape.{Shape}
use Rattle.model.specs.declared.FrameBook.{FrameBook}
use Rattle.model.specs.declared.Machine.{Machine}
use Rattle.model.specs.declared.VirtualPage.{VirtualPage}

-- every shape number within its bound, and both memories of the length that they say
abbrev pub shape_tests : Shape → Memory → List Bool
shape_tests s m =
    leb 3 s.pages ∷ leb s.pages 64
    ∷ leb 2 s.frames ∷ leb s.frames 32
    ∷ leb 1 s.abase ∷ leb (s.abase + s.frames) s.pages
    ∷ leb 1 s.ptl ∷ leb s.ptl 1024
    ∷ aligned 4 s.pto ∷ leb (s.pto + 4 * s.ptl) (4096 * s.abase)
    ∷ leb s.sbase 16
    ∷ eqb (length m.main) (4096 * s.pages)
    ∷ eqb (length m.swap) (4096 * (s.sbase + s.ptl))
    ∷ []

unfoldable pub fits : Shape → Memory → Bool
fits s m = passes (shape_tests s m)

-- ---- "A machine is sound when: GPR 0 is 0; b ≤ a;"
-- "B[0..b−1] are below ptl"
abbrev pub held_in_table : ℕ → FrameBook → Bool
held_in_table ptl b = every_below b.used (λ i. ltb (page_in b i).0 ptl)

-- "and all different": B[j] from each of B[0..n−1], and each B[j] from those before it
abbrev pub differs_before : FrameBook → ℕ → ℕ → Bool
differs_before b j n = every_below n (λ i. not (eqb (page_in b i).0 (page_in b j).0))

abbrev pub all_different : FrameBook → Bool
all_different b = every_below b.used (λ j. differs_before b j j)

-- "B is 0 from b on"
abbrev pub zero_from : FrameBook → ℕ → Bool
zero_from b i = ltb i b.used || eqb (page_in b i).0 0

abbrev pub rest_zero : FrameBook → Bool
rest_zero b = every_below 32 (λ i. zero_from b i)

-- "the entry of B[i] is valid with ppx abase+i"
abbrev pub seated : Shape → FrameBook → List ℕ → ℕ → Bool
seated s b main i =
    valid (entry s main (page_in b i)) && eqb (ppx (entry s main (page_in b i))).0 (frame_at s i).0

abbrev pub frames_seated : Shape → FrameBook → List ℕ → Bool
frames_seated s b main = every_below b.used (λ i. seated s b main i)

-- "no other entry is valid"
abbrev pub entry_right : Shape → FrameBook → List ℕ → VirtualPage → Bool
entry_right s b main x = not (valid (entry s main x)) || resident b x

abbrev pub table_only : Shape → FrameBook → List ℕ → Bool
table_only s b main = every_below s.ptl (λ x. entry_right s b main (virtual x))

-- "hand is 0 while b < a, else hand < a"
abbrev pub hand_right : ℕ → FrameBook → Bool
hand_right a b = if free a b then eqb b.hand 0 else ltb b.hand a

-- ---- document 02's request 3
-- "marks of unused frames are clear"
abbrev pub marks_right : FrameBook → Bool
marks_right b = ltb b.marks (2 ^ b.used)

-- "an unmarked resident page equals its swap page"
abbrev pub clean : Shape → FrameBook → Memory → ℕ → Bool
clean s b m i = marked b.marks i || same (main_page m.main (frame_at s i)) (swap_page m.swap (swap_of s (page_in b i)))

abbrev pub frames_clean : Shape → FrameBook → Memory → Bool
frames_clean s b m = every_below b.used (λ i. clean s b m i)

-- what soundness says of the book, the table and the pages
abbrev pub book_tests : Shape → FrameBook → Memory → List Bool
book_tests s b m =
    leb b.used s.frames
    ∷ held_in_table s.ptl b
    ∷ all_different b
    ∷ rest_zero b
    ∷ frames_seated s b m.main
    ∷ table_only s b m.main
    ∷ hand_right s.frames b
    ∷ marks_right b
    ∷ frames_clean s b m
    ∷ []

unfoldable pub sound : Machine → Memory → Bool
sound r m = passes (eqb (get_or r.gpr 0 0) 0 ∷ book_tests r.shape r.book m)
