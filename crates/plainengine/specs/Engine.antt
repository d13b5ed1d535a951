-- The flat machine that the engine's parameters make up, what its result says of a run, and what a leg of it comes to.
use Rattle.std.specs.Prelude.{◌≡◌, List, ℕ, ◌-◌, ◌<◌, ◌≤◌}
use Rattle.model.specs.Attempt.{tried}
use Rattle.model.specs.Run.{Course, more, run}
use Rattle.model.specs.Flat.{Flat, flat_try, flat_instruction}
use Rattle.model.specs.declared.Pcs.{Pcs}
use Rattle.cpu.specs.Finished.{Finished}
use Rattle.plainengine.specs.declared.Ended.{Ended}
use Rattle.plainengine.specs.declared.Leg.{Leg}

abbrev pub flat_of : List ℕ → Pcs → List ℕ → List ℕ → Flat
flat_of gpr p rights bytes = record { gpr = gpr; pcs = p; bytes = bytes; rights = rights }

abbrev pub course : Ended → List ℕ → List ℕ → List ℕ → Course Flat
course e gpr rights bytes = record { stop = e.stop; finished = e.finished; left = flat_of gpr e.pcs rights bytes }

-- a run of at most n instructions is at f: n − left of them are finished
pub record Ran (n : ℕ) (from : Flat) (left : ℕ) (f : Flat) : Type 0 where
  pub few : left ≤ n
  pub same : run flat_instruction n from ≡ more (n - left) (run flat_instruction left f)

-- A leg of at most n instructions, which leaves these registers and these bytes: an attempt that does not finish its instruction ends
-- it and changes nothing; or it ends between two instructions, and has finished one.
pub record Walked (from : Flat) (n : ℕ) (r : Leg) (gpr bytes : List ℕ) : Type 0 where
  pub way : Ran n from r.left (flat_of gpr r.pcs from.rights bytes)
  pub between : Finished r.outcome → r.left < n
  pub ending : ¬ Finished r.outcome → (0 < r.left) × (tried r.outcome gpr bytes ≡ flat_try (flat_of gpr r.pcs from.rights bytes))
