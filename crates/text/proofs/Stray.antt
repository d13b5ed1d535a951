-- A byte behind the line of a refusal makes another buffer, though the line itself is the same.
use mathlib.Core.Path.{◌≡◌, ap}
use mathlib.Core.List.{List, [], ◌∷◌}
use Prim.Native.Nat.{ℕ}
use native.Mathlib.Omega.{arith}
use lib.ListN.{get_or, replicate}
use Rattle.model.specs.Console.{digits, refused_line}
use Rattle.laws.specs.Over.{over}

pub stray_byte_seen : over 0 (refused_line 1) (over 18 (120 ∷ []) (replicate 19 0)) ≡ over 0 (refused_line 1) (replicate 19 0) → ⊥
unfolding digits
stray_byte_seen e = let h : ◌≡◌ {A = ℕ} 120 0 = ap (λ (l : List ℕ). get_or l 18 0) e in omega (arith, h)
