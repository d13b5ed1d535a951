-- What the tests answer, from the facts that they stand for: false where these cannot all hold, true where they do.
use mathlib.Core.Path.{◌≡◌, refl, sym, ◌∙◌}
use mathlib.Core.Bool.{Bool, true, false, false≢true}
use Prim.Native.Nat.{ℕ, ◌+◌, ◌*◌, ◌%◌, ◌<◌}
use native.Mathlib.Omega.{arith}
use borrow.Author.Tests.{eq-eqb, eqb-true}
use lib.Dec.{eqb}
use lib.ListN.{length}
use Rattle.model.specs.Sound.{fits}
use Rattle.model.specs.State.{Memory}
use Rattle.model.specs.declared.Shape.{Shape}
use Rattle.laws.specs.Good.{Fit, SwapLong}
use Rattle.laws.proofs.Choice.{never, and_left, and_right, and_both}
use Rattle.laws.proofs.Sound.{fit_of, fits_of}
use Rattle.shape.specs.Lengths.{lengths_fit}

module _ (s : Shape) (main swap : ℕ) where
  lengths_of : lengths_fit s main swap ≡ true → (main ≡ 4096 * s.pages) × SwapLong s swap
  unfolding lengths_fit
  lengths_of e = let first = eqb main (4096 * s.pages) in (eqb-true _ _ (and_left first _ e), eqb-true _ _ (and_right first _ e))

  pub lengths : main ≡ 4096 * s.pages → SwapLong s swap → true ≡ lengths_fit s main swap
  unfolding lengths_fit
  lengths e w = sym (and_both _ _ (eq-eqb _ _ e) (eq-eqb _ _ w))

  pub main_wrong : (main ≡ 4096 * s.pages → ⊥) → false ≡ lengths_fit s main swap
  main_wrong h = never _ (λ e. h (lengths_of e).0)

  pub swap_wrong : (swap ≡ 4096 * (s.sbase + s.ptl) → ⊥) → false ≡ lengths_fit s main swap
  swap_wrong h = never _ (λ e. h (lengths_of e).1)

module _ (s : Shape) (m : Memory) where
  unfit : (Fit s (length m.main) → ⊥) → false ≡ fits s m
  unfit f = never _ (λ e. f (fit_of s m e).0)

  -- each bound, broken
  pub pages_few : s.pages < 3 → false ≡ fits s m
  pages_few h = unfit (λ f. omega (arith, h, f))

  pub pages_many : 64 < s.pages → false ≡ fits s m
  pages_many h = unfit (λ f. omega (arith, h, f))

  pub frames_few : s.frames < 2 → false ≡ fits s m
  frames_few h = unfit (λ f. omega (arith, h, f))

  pub frames_many : 32 < s.frames → false ≡ fits s m
  frames_many h = unfit (λ f. omega (arith, h, f))

  pub abase_low : s.abase < 1 → false ≡ fits s m
  abase_low h = unfit (λ f. omega (arith, h, f))

  pub frames_beyond : s.pages < s.abase + s.frames → false ≡ fits s m
  frames_beyond h = unfit (λ f. omega (arith, h, f))

  pub ptl_low : s.ptl < 1 → false ≡ fits s m
  ptl_low h = unfit (λ f. omega (arith, h, f))

  pub ptl_high : 1024 < s.ptl → false ≡ fits s m
  ptl_high h = unfit (λ f. omega (arith, h, f))

  pub pto_odd : (s.pto % 4 ≡ 0 → ⊥) → false ≡ fits s m
  pto_odd h = unfit (λ f. h f.pto_aligned)

  pub table_beyond : 4096 * s.abase < s.pto + 4 * s.ptl → false ≡ fits s m
  table_beyond h = unfit (λ f. omega (arith, h, f))

  pub sbase_high : 16 < s.sbase → false ≡ fits s m
  sbase_high h = unfit (λ f. omega (arith, h, f))

  -- the shape numbers are right, so that the lengths decide
  pub by_lengths : (length m.main ≡ 4096 * s.pages → Fit s (length m.main)) → lengths_fit s (length m.main) (length m.swap) ≡ fits s m
  by_lengths f = go _ refl
    where
      go : (t : Bool) → lengths_fit s (length m.main) (length m.swap) ≡ t → t ≡ fits s m
      go true e = let l = lengths_of s _ _ e in sym (fits_of s m (f l.0) l.1)
      go false e = never _ (λ p. false≢true (sym e ∙ sym (lengths s _ _ (fit_of s m p).0.main_long (fit_of s m p).1)))

-- the ways out before the last, for `using`
pub ruleset lengths_broken = (main_wrong, swap_wrong)

pub ruleset bounds_broken = (
  pages_few,
  pages_many,
  frames_few,
  frames_many,
  abase_low,
  frames_beyond,
  ptl_low,
  ptl_high,
  pto_odd,
  table_beyond,
  sbase_high,
)
