-- What the handler needs, and what it hands back.
use Rattle.std.specs.Prelude.{ℕ, ◌≤◌, ◌<◌, if◌then◌else◌}
use Rattle.model.specs.Frames.{page_in, marked, free, frame, advanced}
use Rattle.model.specs.Handler.{out, loaded}
use Rattle.model.specs.State.{Memory}
use Rattle.model.specs.declared.Shape.{Shape}
use Rattle.model.specs.declared.FrameBook.{FrameBook}
use Rattle.model.specs.declared.VirtualPage.{VirtualPage}
use Rattle.laws.specs.Good.{Fit, SwapLong}

-- for memories of these lengths: shape and book within their bounds, the page that leaves and the page y in the table
pub record Ready (s : Shape) (b : FrameBook) (main_length swap_length : ℕ) (y : VirtualPage) : Type 0 where
  pub fit : Fit s main_length
  pub whole : SwapLong s swap_length
  pub taken : frame s.frames b < s.frames
  pub leaves : s.frames ≤ b.used → (page_in b (frame s.frames b)).0 < s.ptl
  pub comes : y.0 < s.ptl

-- the memories once the frame that the next load takes is free
unfoldable pub vacated : Shape → FrameBook → Memory → Memory
vacated s b m =
    if free s.frames b then m
    else out s m (marked b.marks (frame s.frames b)) (frame s.frames b) (page_in b (frame s.frames b))

-- the book and the memories after page y is loaded
pub record Stepped : Type 0 where
  pub book : FrameBook
  pub memory : Memory

abbrev pub after_load : Shape → FrameBook → Memory → VirtualPage → Stepped
after_load s b m y = record { book = advanced s.frames b y; memory = loaded s b m y }
