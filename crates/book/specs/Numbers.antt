-- The frame book by its numbers, as the tests are handed it.
use Rattle.std.specs.Prelude.{List, map, ℕ}
use Rattle.model.specs.Pages.{virtual}
use Rattle.model.specs.declared.FrameBook.{FrameBook}

-- b, hand, the numbers of the pages B[0..31], and the marks
abbrev pub book_of : ℕ → ℕ → List ℕ → ℕ → FrameBook
book_of used hand held marks = record { used = used; hand = hand; held = map virtual held; marks = marks }
