-- The state that the engine's parameters make up, what its result says of a run, and what a leg of it comes to.
use Rattle.std.specs.Prelude.{◌≡◌, List, ℕ, suc, ◌-◌, ◌/◌, ◌^◌, ◌<◌, ◌≤◌}
use Rattle.std.specs.Int.Bits.{bit_or}
use Rattle.model.specs.Pages.{main_page_of, frame_in}
use Rattle.model.specs.Frames.{with_mark}
use Rattle.model.specs.State.{State, state}
use Rattle.model.specs.Translate.{translate}
use Rattle.model.specs.Attempt.{Tried, tried, attempt}
use Rattle.model.specs.Run.{Course, Counted}
use Rattle.model.specs.declared.Shape.{Shape}
use Rattle.model.specs.declared.FrameBook.{FrameBook}
use Rattle.model.specs.declared.Pcs.{Pcs}
use Rattle.model.specs.declared.Outcome.TheVariants.{Done, Wrote}
use Rattle.cpu.specs.Finished.{Finished}
use Rattle.engine.specs.declared.Ended.{Ended}
use Rattle.engine.specs.declared.Leg.{Leg}

abbrev pub of : Shape → FrameBook → List ℕ → Pcs → List ℕ → List ℕ → State
of s b gpr p main swap = state (record { shape = s; book = b; gpr = gpr; pcs = p }) main swap

-- the same, with the pages loaded so far, and those copied back
abbrev pub counted : Shape → FrameBook → List ℕ → Pcs → List ℕ → List ℕ → ℕ → ℕ → Counted
counted s b gpr p main swap loads copied = record { state = of s b gpr p main swap; loads = loads; copied = copied }

abbrev pub course : Shape → Ended → List ℕ → List ℕ → List ℕ → Course Counted
course s e gpr main swap =
    record { stop = e.stop; finished = e.finished; left = counted s e.book gpr e.pcs main swap e.loads e.copied }

-- ---- a leg: attempts one after another, without a page load
-- what an attempt reads and writes, and the marks
pub record Spot : Type 0 where
  pub gpr : List ℕ
  pub pcs : Pcs
  pub main : List ℕ
  pub marks : ℕ

abbrev pub spot : List ℕ → Pcs → List ℕ → ℕ → Spot
spot gpr p main marks = record { gpr = gpr; pcs = p; main = main; marks = marks }

abbrev pub try_at : Shape → Spot → Tried
try_at s a = attempt (translate s a.main) a.gpr a.main a.pcs

-- n attempts, each of which finishes its instruction
pub data Walk (s : Shape) (from : Spot) : ℕ → Spot → Type 0 where
  start : Walk s from 0 from
  step : {n : ℕ} {a : Spot} → Walk s from n a → (q : Pcs) (gpr main : List ℕ) → tried (Done q) gpr main ≡ try_at s a
      → Walk s from (suc n) (spot gpr q main a.marks)
  store : {n : ℕ} {a : Spot} → Walk s from n a → (q : Pcs) (i : ℕ) (gpr main : List ℕ) → tried (Wrote q i) gpr main ≡ try_at s a
      → Walk s from (suc n) (spot gpr q main (with_mark a.marks (frame_in s (main_page_of i))))

-- the marks behind a leg that stored to these main pages, by those before it
abbrev pub marks_after : Shape → ℕ → ℕ → ℕ
marks_after s marks stored = bit_or marks (stored / 2 ^ s.abase)

-- A leg of at most n instructions, which leaves these registers and this main memory: it walks, and an attempt that does not finish
-- its instruction ends it and changes nothing; or it ends between two instructions, and has finished one.
pub record Walked (s : Shape) (from : Spot) (n : ℕ) (r : Leg) (gpr main : List ℕ) : Type 0 where
  pub few : r.left ≤ n
  pub framed : r.stored / 2 ^ s.abase < 2 ^ 32
  pub way : Walk s from (n - r.left) (spot gpr r.pcs main (marks_after s from.marks r.stored))
  pub between : Finished r.outcome → r.left < n
  pub ending : ¬ Finished r.outcome
      → (0 < r.left) × (tried r.outcome gpr main ≡ try_at s (spot gpr r.pcs main (marks_after s from.marks r.stored)))
