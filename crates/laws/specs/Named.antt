-- "Outside the frames, a call changes main memory only in the table entries that a page load names": the pages that the handler's
-- steps name, brought in or put out, along the definitions of an instruction, a run and a call; the victims alone; and the victims
-- that are copied back to swap.
use Rattle.std.specs.Prelude.{List, [], ◌∷◌, ◌++◌, ℕ, zero, suc, ◌+◌, ◌≤◌, if◌then◌else◌, Ok, Err}
use Rattle.model.specs.Answers.{Verdict}
use Rattle.model.specs.Pages.{page_of}
use Rattle.model.specs.Frames.{page_in, free, frame, copies}
use Rattle.model.specs.State.{State}
use Rattle.model.specs.Handler.{load}
use Rattle.model.specs.Run.{Step, goes, stops, Counted, uncounted, try, instruction}
use Rattle.model.specs.Calls.{run_verdict}
use Rattle.model.specs.Series.{Call, runs, reads, writes, views, replies}
use Rattle.model.specs.declared.FrameBook.{FrameBook}
use Rattle.model.specs.declared.VirtualPage.{VirtualPage}
use Rattle.model.specs.declared.Outcome.{Outcome}
use Rattle.model.specs.declared.Outcome.TheVariants.{Done, Wrote, Trapped, Missing, Stopped}

-- the place j is none of the n places from i on
abbrev pub Off : ℕ → ℕ → ℕ → Type 0
Off i n j = i ≤ j → i + n ≤ j

-- one step of the handler, with a frames: the victim, where no frame is free; the same, where it is marked; and with the victim the
-- page that comes
abbrev pub load_victims : ℕ → FrameBook → List VirtualPage
load_victims a b = if free a b then [] else page_in b (frame a b) ∷ []

abbrev pub load_copies : ℕ → FrameBook → List VirtualPage
load_copies a b = if copies a b then page_in b (frame a b) ∷ [] else []

abbrev pub load_names : ℕ → FrameBook → VirtualPage → List VirtualPage
load_names a b y = y ∷ load_victims a b

-- what follows an attempt: only one that misses a page names any
abbrev pub names_after : Outcome → (ℕ → List VirtualPage) → List VirtualPage
names_after (Done pcs) again = []
names_after (Wrote pcs i) again = []
names_after (Trapped pcs n) again = []
names_after (Missing va) again = again va
names_after (Stopped s) again = []

-- what follows an instruction that goes on
abbrev pub names_onward : Step Counted → (Counted → List VirtualPage) → List VirtualPage
names_onward (goes c) rest = rest c
names_onward (stops s n c) rest = []

-- only a run that is granted names any
abbrev pub names_granted : Verdict → List VirtualPage → List VirtualPage
names_granted (Ok tt) names = names
names_granted (Err r) names = []

-- ---- what is told of the load of each page that is missed, by the state then, one load after another
module _ (told : State → VirtualPage → List VirtualPage) where
  -- an instruction with at most k page loads, as `attempts`
  unfoldable pub along_attempts : ℕ → State → List VirtualPage
  along_attempts zero p = []
  along_attempts (suc k) p = names_after (try p).outcome (λ va. told p (page_of va) ++ along_attempts k (load p (page_of va)))

  unfoldable pub along_instruction : State → List VirtualPage
  along_instruction p = along_attempts 2 p

  -- a run of at most n instructions, as `run`
  unfoldable pub along_run : ℕ → Counted → List VirtualPage
  along_run zero c = []
  along_run (suc n) c = along_instruction c.state ++ names_onward (instruction c) (λ next. along_run n next)

  unfoldable pub along_call : State → Call → List VirtualPage
  along_call p (runs n) = names_granted (run_verdict p n) (along_run n (uncounted p))
  along_call p (reads va n) = []
  along_call p (writes va bytes) = []
  along_call p (views x) = []
  along_call p (replies i v) = []

-- ---- the pages that are named, the victims among them, and of these the ones that are copied back
abbrev pub names : State → VirtualPage → List VirtualPage
names p y = load_names p.machine.shape.frames p.machine.book y

abbrev pub victims : State → VirtualPage → List VirtualPage
victims p y = load_victims p.machine.shape.frames p.machine.book

abbrev pub copied : State → VirtualPage → List VirtualPage
copied p y = load_copies p.machine.shape.frames p.machine.book

abbrev pub instruction_names : State → List VirtualPage
instruction_names p = along_instruction names p

abbrev pub run_names : ℕ → Counted → List VirtualPage
run_names n c = along_run names n c

abbrev pub call_names : State → Call → List VirtualPage
call_names p c = along_call names p c

abbrev pub instruction_copies : State → List VirtualPage
instruction_copies p = along_instruction copied p

abbrev pub run_copies : ℕ → Counted → List VirtualPage
run_copies n c = along_run copied n c
