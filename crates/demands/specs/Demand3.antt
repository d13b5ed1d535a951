-- Demand 3 as statements; proofs/Demand3 ends in the theorem `demand_3`. "From a fresh machine with a frames, over any series of run,
-- host and reply calls, the pages loaded are counted truly and are at most a times the loads of any other schedule for the same
-- instructions in the same order." What a schedule is stands in Schedule of bound, what an instruction needs in Order of the model.
use Rattle.std.specs.Prelude.{◌≡◌, Bool, false, ◌&&◌, List, [], ◌∷◌, ℕ, ◌+◌, ◌-◌, ◌*◌, ◌≤◌, leb, length, if◌then◌else◌}
use Rattle.model.specs.Words.{aligned}
use Rattle.model.specs.Frames.{empty_book}
use Rattle.model.specs.State.{State}
use Rattle.model.specs.Run.{Counted, uncounted, instruction}
use Rattle.model.specs.Translate.{legal}
use Rattle.model.specs.Flat.{Flat, allow, flat}
use Rattle.model.specs.Order.{Demand, demand_of, order_of}
use Rattle.model.specs.Calls.{RunOutcome, run_call}
use Rattle.model.specs.Series.{SeriesStep, after_all, loads_of_all, order_of_all}
use Rattle.model.specs.declared.VirtualPage.{VirtualPage}
use Rattle.laws.specs.Good.{Good}
use Rattle.laws.specs.Mapped.{leaves}
use Rattle.bound.specs.Pages.{◌⊆◌}
use Rattle.bound.specs.Schedule.{Holds, Schedule, brings}
use Rattle.bound.specs.Rule.{pages_of}
use Rattle.bound.specs.Orders.{Order, first_come}
use Rattle.bound.specs.Story.{Turn, Story}
use Rattle.bound.specs.Frames.{pages}
use Rattle.demands.specs.Brought.{instruction_brings, run_brings, series_brings, bare, Steps}

abbrev pub frames : State → ℕ
frames p = p.machine.shape.frames

-- the resident pages, the one loaded last first
abbrev pub residents : State → List VirtualPage
residents p = pages p.machine.book

-- "So pages leave in the order of arrival": the machine's order of leaving
abbrev pub leaving : Order
leaving = first_come

-- ---- an instruction, from c to e, that brings the pages ys in, with the order o of leaving
-- With the demand d it brings in pages of d alone, each of them missing then; at its end all pages of d are resident together.
pub record DemandServed (o : Order) (d : Demand) (c e : Counted) (ys : List VirtualPage) : Type 0 where
  pub counted : e.loads ≡ c.loads + length ys
  pub steps : Steps (frames c.state) (bare c.state.machine.book) ys (bare e.state.machine.book)
  pub own : ys ⊆ pages_of d
  pub turn : Turn o (frames c.state) d (residents c.state) (length ys) (residents e.state)
  pub together : Holds (residents e.state) d

-- One whose fetch is misaligned or illegal has no demand: it loads nothing, and the book stays.
abbrev pub Serves : Order → List Demand → Counted → Counted → List VirtualPage → Type 0
Serves o [] c e ys = (e.loads ≡ c.loads) × (e.state.machine.book ≡ c.state.machine.book)
Serves o (d ∷ []) c e ys = DemandServed o d c e ys
Serves o (d ∷ more ∷ ds) c e ys = ⊥

abbrev pub InstructionServed : Type 0
InstructionServed =
    (c : Counted) → Good c.state → Serves leaving (demand_of (flat c.state)) c (leaves (instruction c)) (instruction_brings c.state)

-- ---- a run of at most n instructions from p on, which is not refused
-- the fetch is aligned and legal
abbrev pub fetches : Flat → Bool
fetches f = aligned 4 f.pcs.dpc && legal (allow f.rights false f.pcs.dpc)

-- "an instruction that stops after a legal fetch": 1 where a run that ended by this stop in f has one at its end
abbrev pub stopped_fetch : ℕ → Flat → ℕ
stopped_fetch stop f = if leb 2 stop && fetches f then 1 else 0

-- The loads that it reports are the handler's steps, and those of its instructions in their order. The order has each instruction
-- finished and the one that stopped after a legal fetch.
pub record RunServed (o : Order) (p : State) (n : ℕ) (r : RunOutcome) : Type 0 where
  pub counted : r.numbers.loads ≡ length (run_brings n (uncounted p))
  pub steps : Steps (frames p) (bare p.machine.book) (run_brings n (uncounted p)) (bare r.state.machine.book)
  pub story : Story o (frames p) (residents p) (order_of n (flat p)) r.numbers.loads (residents r.state)
  pub order : length (order_of n (flat p)) ≡ r.numbers.finished + stopped_fetch r.numbers.stop (flat r.state)

abbrev pub RunsServed : Type 0
RunsServed = (p : State) → Good p → (n : ℕ) → n ≤ 1000000 → RunServed leaving p n (run_call p n)

-- ---- any series of steps from a fresh machine with a frames; refused calls are among them, and the host's changes of spare bits:
-- "demand 3 holds also where the host changes these bits between calls"
pub record Fresh (a : ℕ) (p : State) : Type 0 where
  pub good : Good p
  pub frames : p.machine.shape.frames ≡ a
  pub empty : p.machine.book ≡ empty_book

-- `bound` is the demand: no schedule on a frames, "even one that knows them all beforehand", loads less than an a-th. There are such
-- schedules, since the machine's own loads are those of one (`own`); and `fewer` is the bound against one on h ≤ a frames.
pub record SeriesServed (a : ℕ) (p : State) (ss : List SeriesStep) : Type 0 where
  pub counted : loads_of_all p ss ≡ length (series_brings p ss)
  pub steps : Steps a empty_book (series_brings p ss) (bare (after_all p ss).machine.book)
  pub bound : (rival : Schedule a [] (order_of_all p ss)) → loads_of_all p ss ≤ a * brings rival
  pub own : (rival : Schedule a [] (order_of_all p ss)) × (brings rival ≡ loads_of_all p ss)
  pub fewer : (h : ℕ) → h ≤ a → (rival : Schedule h [] (order_of_all p ss))
      → loads_of_all p ss * (a - h + 1) ≤ a * brings rival + a * (a - h)

abbrev pub Demand3 : Type 0
Demand3 = (a : ℕ) (p : State) → Fresh a p → (ss : List SeriesStep) → SeriesServed a p ss
