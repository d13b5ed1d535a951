-- A series of steps, each handed what the last one left: the state after it, the loads that it reports, and its order of demands. A step
-- is a call, or what the host does to the spare bits of an entry between calls.
use Rattle.std.specs.Prelude.{◌&&◌, List, [], ◌∷◌, ◌++◌, ℕ, ◌+◌, ltb, if◌then◌else◌, Ok, Err}
use Rattle.model.specs.Answers.{Verdict}
use Rattle.model.specs.Table.{set_spare}
use Rattle.model.specs.State.{State, state}
use Rattle.model.specs.Flat.{flat}
use Rattle.model.specs.Order.{Demand, order_of}
use Rattle.model.specs.Calls.{run_verdict, run_call, write_call, reply_call}
use Rattle.model.specs.declared.VirtualPage.{VirtualPage}

pub data Call : Type 0 where
  runs : (limit : ℕ) → Call
  reads : (va length : ℕ) → Call
  writes : (va : ℕ) → List ℕ → Call
  views : VirtualPage → Call
  replies : (register value : ℕ) → Call

-- what a call leaves
unfoldable pub after : State → Call → State
after p (runs n) = (run_call p n).state
after p (reads va n) = p
after p (writes va bytes) = (write_call p va bytes).state
after p (views x) = p
after p (replies i v) = record { machine = (reply_call p.machine i v).machine; memory = p.memory }

-- the pages that it reports loaded
unfoldable pub loads_of : State → Call → ℕ
loads_of p (runs n) = (run_call p n).numbers.loads
loads_of p (reads va n) = 0
loads_of p (writes va bytes) = 0
loads_of p (views x) = 0
loads_of p (replies i v) = 0

-- the instructions of a run that is not refused
abbrev pub order_by : Verdict → State → ℕ → List Demand
order_by (Ok tt) p n = order_of n (flat p)
order_by (Err r) p n = []

unfoldable pub call_order : State → Call → List Demand
call_order p (runs n) = order_by (run_verdict p n) p n
call_order p (reads va n) = []
call_order p (writes va bytes) = []
call_order p (views x) = []
call_order p (replies i v) = []

-- ---- a step of a series: a call, or the host's own change of bits 11–3 of the entry of page x, "between calls"
pub data SeriesStep : Type 0 where
  calls : Call → SeriesStep
  spares : (x : VirtualPage) (value : ℕ) → SeriesStep

-- the page is in the table and the value has 9 bits; any other change does nothing
unfoldable pub spared : State → VirtualPage → ℕ → State
spared p x n =
    if ltb x.0 p.machine.shape.ptl && ltb n 512
    then state p.machine (set_spare p.machine.shape p.memory.main x n) p.memory.swap else p

unfoldable pub after_step : State → SeriesStep → State
after_step p (calls c) = after p c
after_step p (spares x n) = spared p x n

unfoldable pub step_loads : State → SeriesStep → ℕ
step_loads p (calls c) = loads_of p c
step_loads p (spares x n) = 0

unfoldable pub step_order : State → SeriesStep → List Demand
step_order p (calls c) = call_order p c
step_order p (spares x n) = []

-- ---- of a whole series
unfoldable pub after_all : State → List SeriesStep → State
after_all p [] = p
after_all p (s ∷ ss) = after_all (after_step p s) ss

unfoldable pub loads_of_all : State → List SeriesStep → ℕ
loads_of_all p [] = 0
loads_of_all p (s ∷ ss) = step_loads p s + loads_of_all (after_step p s) ss

unfoldable pub order_of_all : State → List SeriesStep → List Demand
order_of_all p [] = []
order_of_all p (s ∷ ss) = step_order p s ++ order_of_all (after_step p s) ss
