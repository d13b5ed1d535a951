-- A main memory whose first byte is 1 is another one when that byte is set to 0.
use mathlib.Core.Path.{◌≡◌, ap}
use mathlib.Core.List.{List, ◌∷◌}
use Prim.Native.Nat.{ℕ}
use native.Mathlib.Omega.{arith}
use lib.ListN.{get_or, set}

pub poked_seen : (l : List ℕ) → set (1 ∷ l) 0 0 ≡ 1 ∷ l → ⊥
poked_seen l e = let h : ◌≡◌ {A = ℕ} 0 1 = ap (λ (k : List ℕ). get_or k 0 2) e in omega (arith, h)
