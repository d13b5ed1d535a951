-- Section "Table and frame book": the frame book is b (frames used), hand, and B[0..31]; and by document 02's request 3 "a mark per
-- frame", bit f of marks for frame f. Here it stands apart from memory: which frame a load takes, and the book after it.
use Rattle.std.specs.Prelude.{Bool, false, not, ◌&&◌, ◌||◌, ℕ, zero, suc, ◌+◌, ◌%◌, ◌^◌, ltb, eqb, get_or, set, replicate, if◌then◌else◌}
use Rattle.std.specs.Int.Bits.{bit_and, bit_or, bit_xor}
use Rattle.model.specs.Words.{field}
use Rattle.model.specs.Pages.{virtual}
use Rattle.model.specs.declared.FrameBook.{FrameBook}
use Rattle.model.specs.declared.VirtualPage.{VirtualPage}

-- B[i]
abbrev pub page_in : FrameBook → ℕ → VirtualPage
page_in b i = get_or b.held i (virtual 0)

-- ---- the marks
-- frame f has its mark
abbrev pub marked : ℕ → ℕ → Bool
marked marks f = eqb (field f 1 marks) 1

-- the marks with that of frame f set, and with that of frame f cleared
abbrev pub with_mark : ℕ → ℕ → ℕ
with_mark marks f = bit_or marks (2 ^ f)

abbrev pub without_mark : ℕ → ℕ → ℕ
without_mark marks f = bit_xor marks (bit_and marks (2 ^ f))

abbrev pub remarked : FrameBook → ℕ → FrameBook
remarked b marks = record { used = b.used; hand = b.hand; held = b.held; marks = marks }

-- ---- a load
-- "If b < a": a frame is free
abbrev pub free : ℕ → FrameBook → Bool
free a b = ltb b.used a

-- the frame that the next load takes: "frame f = b", "otherwise f = hand"
abbrev pub frame : ℕ → FrameBook → ℕ
frame a b = if free a b then b.used else b.hand

-- "B[f] = y", and the mark is "cleared by a load"
abbrev pub seat : FrameBook → ℕ → VirtualPage → FrameBook
seat b f y = record { used = b.used; hand = b.hand; held = set b.held f y; marks = without_mark b.marks f }

-- "then b grows by 1", or "hand becomes (f+1) mod a"
abbrev pub grown : FrameBook → FrameBook
grown b = record { used = b.used + 1; hand = b.hand; held = b.held; marks = b.marks }

abbrev pub turned : ℕ → ℕ → FrameBook → FrameBook
turned a f b = record { used = b.used; hand = (f + 1) % a; held = b.held; marks = b.marks }

-- the book after page y is loaded
unfoldable pub advanced : ℕ → FrameBook → VirtualPage → FrameBook
advanced a b y = if free a b then grown (seat b (frame a b) y) else turned a (frame a b) (seat b (frame a b) y)

abbrev pub empty_book : FrameBook
empty_book = record { used = 0; hand = 0; held = replicate 32 (virtual 0); marks = 0 }

-- "An unmarked victim is not copied": whether the next load copies the page in its frame to swap
abbrev pub copies : ℕ → FrameBook → Bool
copies a b = not (free a b) && marked b.marks (frame a b)

-- page y is in one of the first n frames
unfoldable pub among : FrameBook → ℕ → VirtualPage → Bool
among b zero y = false
among b (suc n) y = eqb (page_in b n).0 y.0 || among b n y

-- page y is resident
unfoldable pub resident : FrameBook → VirtualPage → Bool
resident b y = among b b.used y
