-- A run beside the run of its flat machine: it does the same (`RunsFlat`) and loads few pages (`FewLoads`); its stops 2 to 4 leave what
-- the finished instructions left, and come again (`Halts`). The theorems are in proofs/FlatRun.
use Rattle.std.specs.Prelude.{◌≡◌, ℕ, ◌+◌, ◌*◌, ◌<◌, ◌≤◌}
use Rattle.model.specs.Answers.{RunNumbers, stop_number, stop_detail}
use Rattle.model.specs.Run.{Course, ended, run}
use Rattle.model.specs.Flat.{Flat, flat, flat_instruction}
use Rattle.model.specs.Calls.{RunOutcome, run_call}
use Rattle.model.specs.declared.Stop.TheVariants.{Limit}

-- The call with outcome o does what the flat machine does in the course c: the same stop and detail, as many instructions finished, and
-- the flat machine of what it leaves (registers, memory, rights) is what c leaves.
pub record RunsFlat (o : RunOutcome) (c : Course Flat) : Type 0 where
  pub taken : o.numbers.verdict.refused ≡ 0
  pub stop : o.numbers.stop ≡ stop_number c.stop
  pub detail : o.numbers.detail ≡ stop_detail c.stop
  pub finished : o.numbers.finished ≡ c.finished
  pub left : flat o.state ≡ c.left

-- "A run reports at most 2·finished+1 loads, and at most 2·finished if it ended by stop 0."
pub record FewLoads (r : RunNumbers) : Type 0 where
  pub most : r.loads ≤ 2 * r.finished + 1
  pub limit : r.stop ≡ 0 → r.loads ≤ 2 * r.finished
  -- of the pages put out, at most one a load, some are copied back
  pub copied : r.copied ≤ r.loads

-- a run with outcome o ended by one of the stops 2 to 4
abbrev pub Halting : RunOutcome → Type 0
Halting o = 2 ≤ o.numbers.stop

-- a call with outcome o, on a machine whose flat machine is f
pub record Halts (f : Flat) (o : RunOutcome) : Type 0 where
  -- "Stops 2 to 4 leave registers as before that instruction": those finished, run alone, end by their limit and leave the same
  pub before : run flat_instruction o.numbers.finished f ≡ ended Limit o.numbers.finished (flat o.state)
  -- "Run again at once with a limit above 0, they come again."
  pub again_stop : (m : ℕ) → 0 < m → m ≤ 1000000 → (run_call o.state m).numbers.stop ≡ o.numbers.stop
  pub again_detail : (m : ℕ) → 0 < m → m ≤ 1000000 → (run_call o.state m).numbers.detail ≡ o.numbers.detail
  pub again_finished : (m : ℕ) → 0 < m → m ≤ 1000000 → (run_call o.state m).numbers.finished ≡ 0
