-- What each public call promises: its complete result and every lent byte at exit are those of the call's one definition. The call's
-- `ensures` cites the promise by its name, and `unique` (crates/unique) shows that no two outcomes fit it.
use Rattle.std.specs.Prelude.{◌≡◌, List, ℕ}
use Rattle.std.specs.Borrow.{Bor}
use Rattle.model.specs.Frames.{advanced}
use Rattle.model.specs.State.{Memory, State, state}
use Rattle.model.specs.Answers.{verdict_numbers, image_numbers, Verdict, ImageAnswer}
use Rattle.model.specs.Calls.{run_outcome, run_call, read_call, write_call, view_call, reply_call}
use Rattle.model.specs.Image.{image_call, least_main_pages, load_call}
use Rattle.model.specs.Parts.{PartOf, pages_part, rights_part, view_home, view_part}
use Rattle.model.specs.declared.VirtualPage.{VirtualPage}
use Rattle.model.specs.declared.FrameBook.{FrameBook}
use Rattle.model.specs.declared.Machine.{Machine}
use Rattle.model.specs.declared.RunResult.{RunResult}
use Rattle.model.specs.declared.Handed.{Handed}

-- ---- the calls on a machine
-- run, of the machine p and a limit: the numbers answered, the record handed back and both memories at exit
abbrev pub RunPromise : State → ℕ → RunResult → List ℕ → List ℕ → Type 0
RunPromise p limit r main swap = run_outcome r.answer (state r.machine main swap) ≡ run_call p limit

-- host read, at va into a buffer: the number answered and the buffer at exit
abbrev pub ReadPromise : State → ℕ → List ℕ → Verdict → List ℕ → Type 0
ReadPromise p va buffer v filled = record { verdict = verdict_numbers v; buffer = filled } ≡ read_call p va buffer

-- host write, of bytes at va: the number answered, the record handed back and both memories at exit
abbrev pub WritePromise : State → ℕ → List ℕ → Handed → List ℕ → List ℕ → Type 0
WritePromise p va bytes r main swap =
    record { verdict = verdict_numbers r.verdict; state = state r.machine main swap } ≡ write_call p va bytes

-- the page view of page x: the number answered
abbrev pub ViewAnswerPromise : State → VirtualPage → Verdict → Type 0
ViewAnswerPromise p x v = verdict_numbers v ≡ (view_call p x).verdict

-- the page view of page x: the part handed back, its bytes, in which of the lent memories it lies and where in it
abbrev pub PageViewPromise : Machine → Bor (List ℕ) → Bor (List ℕ) → VirtualPage → Bor (List ℕ) → Type 0
PageViewPromise m main swap x r = PartOf (view_home m main swap x) (view_part (state m main.now swap.now) x) r

-- reply, of a value to a register: the number answered and the record handed back
abbrev pub ReplyPromise : Machine → ℕ → ℕ → Handed → Type 0
ReplyPromise m register value r = record { verdict = verdict_numbers r.verdict; machine = r.machine } ≡ reply_call m register value

-- ---- the calls on an image
-- the reader: the numbers answered
abbrev pub ImagePromise : List ℕ → ImageAnswer → Type 0
ImagePromise file a = image_numbers a ≡ (image_call file).numbers

-- its two sections: the part of the file handed back, its bytes and where in the file they begin
abbrev pub PagesPromise : Bor (List ℕ) → Bor (List ℕ) → Type 0
PagesPromise file r = PartOf file (pages_part file.now) r

abbrev pub RightsPromise : Bor (List ℕ) → Bor (List ℕ) → Type 0
RightsPromise file r = PartOf file (rights_part file.now) r

-- how many main pages loading needs at least, by the frames that the reader answered: the number
abbrev pub LeastMainPagesPromise : ℕ → ℕ → Type 0
LeastMainPagesPromise frames r = r ≡ least_main_pages frames

-- loading, of a file into the memories m: the number answered, the record handed back and both memories at exit
abbrev pub LoadPromise : List ℕ → Memory → Handed → List ℕ → List ℕ → Type 0
LoadPromise file m r main swap =
    record { verdict = verdict_numbers r.verdict; state = state r.machine main swap } ≡ load_call file m

-- ---- the frame book lent
-- one load of page y into a frames: the book at exit
abbrev pub AdvancePromise : ℕ → FrameBook → VirtualPage → FrameBook → Type 0
AdvancePromise a b y after = after ≡ advanced a b y
