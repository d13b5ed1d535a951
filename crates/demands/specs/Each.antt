-- What holds of each load, each instruction, each run and each change of spare bits, from every sound machine on. The theorems are in
-- proofs/Each.
use Rattle.std.specs.Prelude.{◌≡◌, true, false, ℕ, ◌+◌, ◌*◌, ◌<◌, ◌≤◌, length, get_or}
use mathlib.Core.List.{List, [], ◌∷◌, Memᴰ}
use Rattle.model.specs.Pages.{entry_at, swap_of}
use Rattle.model.specs.Table.{spare, entry}
use Rattle.model.specs.Frames.{page_in, marked, frame, advanced, resident}
use Rattle.model.specs.State.{State}
use Rattle.model.specs.Handler.{load}
use Rattle.model.specs.Run.{Step, goes, stops, Counted, uncounted, instruction}
use Rattle.model.specs.Flat.{rights_byte, flat}
use Rattle.model.specs.Order.{Demand, demand_of}
use Rattle.model.specs.Calls.{run_call}
use Rattle.model.specs.Series.{spared}
use Rattle.model.specs.declared.FrameBook.{FrameBook}
use Rattle.model.specs.declared.VirtualPage.{VirtualPage}
use Rattle.laws.specs.Good.{Booked, Hand, Good}
use Rattle.laws.specs.Mapped.{leaves}
use Rattle.laws.specs.Entries.{Place, SamePlace, SameKept}
use Rattle.laws.specs.Demand2.{Right, Few}
use Rattle.laws.specs.Named.{Off, victims, copied, instruction_copies, run_copies}
use Rattle.bound.specs.Schedule.{Holds}
use Rattle.demands.specs.Brought.{instruction_brings}
use Rattle.demands.specs.Demand3.{residents, leaving, Serves, RunServed}

-- the entry of page x
abbrev pub entry_of : State → VirtualPage → ℕ
entry_of p x = entry p.machine.shape p.memory.main x

-- "All other bytes stay": from p to q no byte of swap changes outside the swap pages of these pages
abbrev pub SwapStays : State → List VirtualPage → State → Type 0
SwapStays p xs q =
    (j : ℕ) → ((x : VirtualPage) → Memᴰ x xs → Off (4096 * (swap_of p.machine.shape x).0) 4096 j)
    → get_or q.memory.swap j 0 ≡ get_or p.memory.swap j 0

-- ---- a load of page y from p, which has it in its table and not in a frame
pub record Missed (p : State) (y : VirtualPage) : Type 0 where
  pub inside : y.0 < p.machine.shape.ptl
  pub away : resident p.machine.book y ≡ false

pub record OneLoad (p : State) (y : VirtualPage) : Type 0 where
  pub sound : Good (load p y)
  pub stands : flat (load p y) ≡ flat p
  pub here : resident (load p y).machine.book y ≡ true
  -- it "changes only ppx and v", in the entry of y and in the victim's, whose "ppx still becomes 0": bits 11–1 of every entry stay
  pub came : Place (p.machine.shape.abase + frame p.machine.shape.frames p.machine.book) true (entry_of (load p y) y)
  pub left : (x : VirtualPage) → Memᴰ x (victims p y) → Place 0 false (entry_of (load p y) x)
  pub kept : SameKept p (load p y)
  -- "the page x = B[f] is copied whole to swap"; but "An unmarked victim is not copied.": no other page of swap changes
  pub swap : SwapStays p (copied p y) (load p y)
  -- a mark is "cleared by a load": that of the frame that it takes, and no other
  pub cleared : marked (load p y).machine.book.marks (frame p.machine.shape.frames p.machine.book) ≡ false
  pub others : (f : ℕ) → ¬ (f ≡ frame p.machine.shape.frames p.machine.book)
      → marked (load p y).machine.book.marks f ≡ marked p.machine.book.marks f
  -- whichever page z comes next, y is not the one that leaves
  pub remains : (z : VirtualPage) → ¬ Memᴰ y (victims (load p y) z)

abbrev pub EachLoad : Type 0
EachLoad = (p : State) → Good p → (y : VirtualPage) → Missed p y → OneLoad p y

-- the same of the frame book alone: y stands in its frame, and the next load takes another
pub record LastRemains (a : ℕ) (b : FrameBook) (y : VirtualPage) : Type 0 where
  pub seated : page_in (advanced a b y) (frame a b) ≡ y
  pub remains : ¬ (frame a (advanced a b y) ≡ frame a b)

abbrev pub NeverVictim : Type 0
NeverVictim = (a : ℕ) → 2 ≤ a → a ≤ 32 → (b : FrameBook) → Booked a b → Hand a b → (y : VirtualPage) → LastRemains a b y

-- ---- an instruction of c
-- it finishes: it goes on, or it is a trap
abbrev pub Finishes : Step Counted → Type 0
Finishes (goes d) = Unit {0}
Finishes (stops s n d) = n ≡ 1

pub record OneInstruction (c : Counted) : Type 0 where
  -- it does what the flat machine's does, and leaves a sound machine
  pub right : Right c (instruction c)
  -- it brings in pages that it needs and no other, and at its end those that it needs are resident together
  pub served : Serves leaving (demand_of (flat c.state)) c (leaves (instruction c)) (instruction_brings c.state)
  -- one that finishes needs its code page, and its data page where it has one
  pub together : Finishes (instruction c) → (d : Demand) × (demand_of (flat c.state) ≡ d ∷ []) × Holds (residents (leaves (instruction c)).state) d
  -- "An instruction has at most two loads."
  pub few : Few 2 c (instruction c)
  pub swap : SwapStays c.state (instruction_copies c.state) (leaves (instruction c)).state

abbrev pub EachInstruction : Type 0
EachInstruction = (c : Counted) → Good c.state → OneInstruction c

-- ---- a run of at most n instructions, which is not refused
pub record OneRun (p : State) (n : ℕ) : Type 0 where
  -- the loads reported are the handler's steps, in the order of arrival; and the length of the order of demands
  pub served : RunServed leaving p n (run_call p n)
  -- "pages copied back, tied to the handler's steps": those whose victim was marked
  pub copied : (run_call p n).numbers.copied ≡ length (run_copies n (uncounted p))
  pub swap : SwapStays p (run_copies n (uncounted p)) (run_call p n).state

abbrev pub EachRun : Type 0
EachRun = (p : State) → Good p → (n : ℕ) → n ≤ 1000000 → OneRun p n

-- ---- the host's change of bits 11–3 of the entry of page x to n
pub record OneSpare (p : State) (x : VirtualPage) (n : ℕ) : Type 0 where
  -- "a sound machine may hold any value there", and it stands for the same flat machine
  pub sound : Good (spared p x n)
  pub stands : flat (spared p x n) ≡ flat p
  -- they hold n; ppx, r, w and v of every entry stay, and so do the record, swap, and main memory beside that entry
  pub holds : x.0 < p.machine.shape.ptl → n < 512 → spare (entry_of (spared p x n) x) ≡ n
  pub places : (y : VirtualPage) → SamePlace (entry_of p y) (entry_of (spared p x n) y)
  pub rights : (y : VirtualPage) → rights_byte (entry_of (spared p x n) y) ≡ rights_byte (entry_of p y)
  pub machine : (spared p x n).machine ≡ p.machine
  pub swap : (spared p x n).memory.swap ≡ p.memory.swap
  pub beside : (j : ℕ) → Off (entry_at p.machine.shape x) 4 j → get_or (spared p x n).memory.main j 0 ≡ get_or p.memory.main j 0

abbrev pub EachSpare : Type 0
EachSpare = (p : State) → Good p → (x : VirtualPage) (n : ℕ) → OneSpare p x n
