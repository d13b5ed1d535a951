-- The buffers have their lengths at first, and stay as long as they were.
use mathlib.Core.Path.{◌≡◌, ◌∙◌}
use mathlib.Core.List.{List}
use Prim.Native.Nat.{ℕ}
use native.Mathlib.Omega.{arith}
use lib.ListN.{length, replicate, length-replicate}
use Rattle.session.specs.Ready.{Room}

pub zeros : Room (replicate 262144 0) (replicate 327680 0) (replicate 65536 0)
zeros = record {
  main_long = length-replicate {A = ℕ} 262144 0;
  swap_long = length-replicate {A = ℕ} 327680 0;
  out_long = omega (arith, length-replicate {A = ℕ} 65536 0);
}

pub room_kept : {main swap out main' swap' out' : List ℕ} → Room main swap out → length main' ≡ length main → length swap' ≡ length swap
    → length out' ≡ length out → Room main' swap' out'
room_kept r m s o = record { main_long = m ∙ r.main_long; swap_long = s ∙ r.swap_long; out_long = omega (arith, r.out_long) }
