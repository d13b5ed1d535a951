-- "counted truly": the pages that the handler's steps bring in, along the definitions of an instruction, a run, a call and a series;
-- and what such steps do to the frame book (`Steps`).
use Rattle.std.specs.Prelude.{◌≡◌, false, List, [], ◌∷◌, ◌++◌, ℕ}
use Rattle.model.specs.Frames.{remarked, advanced, resident}
use Rattle.model.specs.State.{State}
use Rattle.model.specs.Run.{Counted}
use Rattle.model.specs.Series.{Call, SeriesStep, calls, spares, after_step}
use Rattle.model.specs.declared.FrameBook.{FrameBook}
use Rattle.model.specs.declared.VirtualPage.{VirtualPage}
use Rattle.laws.specs.Named.{along_instruction, along_run, along_call}

-- of a load, the page that comes
abbrev pub comes : State → VirtualPage → List VirtualPage
comes p y = y ∷ []

abbrev pub instruction_brings : State → List VirtualPage
instruction_brings p = along_instruction comes p

abbrev pub run_brings : ℕ → Counted → List VirtualPage
run_brings n c = along_run comes n c

abbrev pub call_brings : State → Call → List VirtualPage
call_brings p c = along_call comes p c

unfoldable pub step_brings : State → SeriesStep → List VirtualPage
step_brings p (calls c) = call_brings p c
step_brings p (spares x v) = []

unfoldable pub series_brings : State → List SeriesStep → List VirtualPage
series_brings p [] = []
series_brings p (s ∷ ss) = step_brings p s ++ series_brings (after_step p s) ss

-- the book but for its marks: b, hand and B
abbrev pub bare : FrameBook → FrameBook
bare b = remarked b 0

-- With a frames the book b becomes b' when the pages are brought in one after another, each of them not resident then.
pub data Steps (a : ℕ) : FrameBook → List VirtualPage → FrameBook → Type 0 where
  no_step : {b : FrameBook} → Steps a b [] b
  one_step : {b b' : FrameBook} {ys : List VirtualPage} (y : VirtualPage) → resident b y ≡ false
      → Steps a (advanced a b y) ys b' → Steps a b (y ∷ ys) b'
