-- The three demands in one place: of every sound machine, of every fresh one, and of every image that loading accepts, with any series
-- of steps after it: calls, and the host's changes of spare bits between them. And what holds of each instruction, each run, each load
-- and each such change; and of the plain engine, alone and beside the paged machine. Each line stands for a statement of this crate; the
-- theorem is `summary` of proofs/Summary. That no two outcomes fit a promise is `unique` (crates/unique).
use Rattle.std.specs.Prelude.{◌≡◌, List, ℕ}
use Rattle.model.specs.State.{Memory, State}
use Rattle.model.specs.Image.{frames_of, meant, load_call}
use Rattle.model.specs.Series.{SeriesStep, after_all}
use Rattle.laws.specs.Good.{Good}
use Rattle.demands.specs.Demand1.{Demand1}
use Rattle.demands.specs.Demand2.{Demand2}
use Rattle.demands.specs.Demand3.{SeriesServed}
use Rattle.demands.specs.Loaded.{LoadedFrom}
use Rattle.demands.specs.Least.{EveryLeast}
use Rattle.demands.specs.Each.{EachLoad, NeverVictim, EachInstruction, EachRun, EachSpare}
use Rattle.demands.specs.Plain1.{PlainDemand1}
use Rattle.demands.specs.Same.{EverySame}

-- loading the image l into the memories m is not refused
abbrev pub Taken : List ℕ → Memory → Type 0
Taken l m = (load_call l m).verdict.refused ≡ 0

-- the machine that it makes, and what a series of steps leaves of it
abbrev pub start : List ℕ → Memory → State
start l m = (load_call l m).state

abbrev pub later : List ℕ → Memory → List SeriesStep → State
later l m ss = after_all (start l m) ss

-- ---- every sound machine, with abase, pto and sbase as a host chose them; `Good` is what refusals 1 and 2 let through (demand 1)
abbrev pub EverySound : Type 0
EverySound = (p : State) → Good p → Demand2 p

-- ---- every fresh machine: a sound one with b = 0, so that no entry is valid
abbrev pub EveryFresh : Type 0
EveryFresh = (p : State) → Good p → p.machine.book.used ≡ 0 → (ss : List SeriesStep) → SeriesServed p.machine.shape.frames p ss

-- ---- every image: its machine stands for it, is sound after the steps, and meets demands 2 and 3
pub record Throughout (l : List ℕ) (m : Memory) (ss : List SeriesStep) : Type 0 where
  pub loaded : LoadedFrom l m (start l m)
  pub sound : Good (later l m ss)
  pub calls : Demand2 (later l m ss)
  pub series : SeriesServed (meant (frames_of l)) (start l m) ss

abbrev pub EveryImage : Type 0
EveryImage = (l : List ℕ) (m : Memory) → Taken l m → (ss : List SeriesStep) → Throughout l m ss

pub record Summary : Type 0 where
  -- "No input makes it misbehave. Each refusal comes exactly when document 01 says, and changes no byte of memory and no register."
  pub demand_1 : Demand1
  -- "Each instruction does what the virtual DLX does on one flat memory with rights, and each page moves as document 01 fixes. The
  -- host's reads and writes meet that same flat memory. Outside the frames, a call changes main memory only in the table entries that
  -- a page load names." There "bits 11–3 stay as the host put them." A write sets the marks of the frames whose pages get a byte.
  pub demand_2 : EverySound
  -- "From a fresh machine with a frames, over any series of run, host and reply calls, the pages loaded are counted truly and are at
  -- most a times the loads of any other schedule for the same instructions in the same order." It "holds also where the host changes
  -- these bits between calls."
  pub demand_3 : EveryFresh
  -- "Loading makes P the lent main pages, a the frames, abase 1, pto 0, sbase 0.": that machine, and what any series of steps leaves
  pub images : EveryImage
  -- "Swap must be 4096·ptl bytes; main memory 3 to 64 whole pages, at least 1+frames.": what a host is told of main memory is this rule
  pub least : EveryLeast
  -- "one that runs the first instruction and then only counts (demand 2 after each step)"; "An instruction has at most two loads.",
  -- and its pages are resident together at its end
  pub instructions : EachInstruction
  -- "one with an invented load count (it equals the handler's steps in the definition)"; "So pages leave in the order of arrival". The
  -- order of demands has one for each instruction finished, and for one that stopped after a legal fetch. "A run also reports pages
  -- copied back, tied to the handler's steps."
  pub runs : EachRun
  -- "the page x = B[f] is copied whole to swap .. All other bytes stay."; but "An unmarked victim is not copied." In both entries that
  -- it touches a load "changes only ppx and v", and of the marks it clears that of its frame.
  pub loads : EachLoad
  -- "and the page loaded last (MRL in 000) is never the victim", in any book with b ≤ a and hand as soundness has it
  pub last : NeverVictim
  -- "a sound machine may hold any value there"
  pub spares : EachSpare
  -- the plain engine of document 02's request 6: "3 and 4 as in document 01, 1 for ptl or a lent length, 2 only for GPR 0 not 0 or a
  -- rights byte above 3"
  pub plain : PlainDemand1
  -- "From the same image and the same run, host and reply calls it must give the same refusals, stops, details, finished counts,
  -- registers and guest bytes as the paged machine. .. Proved equal over any series of calls."
  pub same : EverySame
