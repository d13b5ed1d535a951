-- The buffers have their lengths at first, and stay as long as they were.
use mathlib.Core.Path.{◌≡◌, ◌∙◌}
use mathlib.Core.List.{List}
use Prim.Native.Nat.{ℕ}
use native.Mathlib.Omega.{arith}
use lib.ListN.{length, replicate, length-replicate}
use Rattle.plainsession.specs.Ready.{Room}

pub zeros : Room (replicate 327680 0) (replicate 80 0) (replicate 65536 0)
zeros = record {
  memory_long = length-replicate {A = ℕ} 327680 0;
  rights_long = length-replicate {A = ℕ} 80 0;
  out_long = omega (arith, length-replicate {A = ℕ} 65536 0);
}

pub room_kept : {memory rights out memory' rights' out' : List ℕ} → Room memory rights out → length memory' ≡ length memory
    → length rights' ≡ length rights → length out' ≡ length out → Room memory' rights' out'
room_kept r m s o = record { memory_long = m ∙ r.memory_long; rights_long = s ∙ r.rights_long; out_long = omega (arith, r.out_long) }
