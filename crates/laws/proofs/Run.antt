-- Demand 2 for a run of any length: the same stop, the same instructions finished, and the flat machine of what it leaves is what the
-- flat machine's run leaves. The machine stays good, and its shape and the lengths of its memories stay (`run_right`).
use mathlib.Core.Path.{◌≡◌, refl, ap, ◌∙◌}
use Prim.Native.Nat.{ℕ}
use Rattle.model.specs.Run.{Counted, instruction, run}
use Rattle.model.specs.Flat.{flat_instruction}
use Rattle.laws.specs.Good.{Good}
use Rattle.laws.specs.Mapped.{leaves}
use Rattle.laws.specs.Demand2.{flat_of, RunRight}
use Rattle.laws.proofs.Size.{same_size}
use Rattle.laws.proofs.Simulate
use Rattle.laws.proofs.Instruction.{instruction_right}

abbrev pub GoodCounted : Counted → Type 0
GoodCounted c = Good c.state

pub keeps : (c : Counted) → GoodCounted c → GoodCounted (leaves (instruction c))
keeps c g = (instruction_right c g).good

-- the first instruction leaves the shape as it is
pub first_shape : (c : Counted) → Good c.state → (d : Counted) → leaves (instruction c) ≡ d → d.state.machine.shape ≡ c.state.machine.shape
first_shape c g d e = rw e at (instruction_right c g).size.shape

run_shape : (n : ℕ) (c : Counted) → Good c.state → (run instruction n c).left.state.machine.shape ≡ c.state.machine.shape
run_shape =
    Simulate.run_all instruction GoodCounted keeps (λ n c r. r.left.state.machine.shape ≡ c.state.machine.shape) (λ c g. refl)
    (λ n c g s k d e h. first_shape c g d (ap leaves e)) (λ n c g next e h q. q ∙ first_shape c g next (ap leaves e))

pub run_right : (n : ℕ) (c : Counted) → Good c.state → RunRight n c
run_right n c g =
    let h : Good (run instruction n c).left.state = Simulate.run_good instruction GoodCounted keeps n c g in
    record {
      same = Simulate.run_right instruction GoodCounted keeps flat_of flat_instruction (λ d q. (instruction_right d q).same) n c g;
      good = h;
      size = same_size c.state (run instruction n c).left.state g h (run_shape n c g);
    }
