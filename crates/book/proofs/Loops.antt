-- A loop over every number below n: it leaves at the first where the test f fails.
use mathlib.Core.Path.{◌≡◌, sym, ap, ◌∙◌}
use mathlib.Core.Bool.{Bool, true, false}
use Prim.Native.Nat.{ℕ, ◌+◌, ◌≤◌, ◌<◌}
use native.Mathlib.Numerals.{add-one}
use native.Mathlib.Omega.{arith}
use Rattle.model.specs.Choice.{every_below}
use Rattle.laws.proofs.Choice.{and_both, every_from, every_not}

pub none_yet : (f : ℕ → Bool) → every_below 0 f ≡ true
none_yet f = every_from 0 f (λ i h. absurd (omega (arith, h)))

pub one_more : (f : ℕ → Bool) (i : ℕ) → every_below i f ≡ true → f i ≡ true → every_below (i + 1) f ≡ true
unfolding every_below
one_more f i p q = rw add-one (and_both (every_below i f) (f i) p q)

module _ (n : ℕ) (f : ℕ → Bool) (i : ℕ) where
  pub fails : i < n → f i ≡ false → false ≡ every_below n f
  fails h q = sym (every_not n f i h q)

  pub all_passed : every_below i f ≡ true → i ≤ n → n ≤ i → true ≡ every_below n f
  all_passed p h k = let e : i ≡ n = omega arith in sym p ∙ ap (λ m. every_below m f) e
