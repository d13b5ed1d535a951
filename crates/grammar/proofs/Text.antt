-- A text's lines: up to a newline, and the last one.
use mathlib.Core.Bool.{false}
use mathlib.Core.Path.{◌≡◌, refl, ap}
use mathlib.Core.List.{List, [], ◌∷◌, ◌++◌}
use Prim.Native.Nat.{ℕ, suc, ◌<◌}
use native.Mathlib.Omega.{arith}
use lib.Dec.{eqb}
use lib.ListN.{length, get_or}
use borrow.Author.Tests.{ne_eqb}
use Rattle.notation.specs.Text.{before, lines}

-- no byte of a list is a newline
abbrev pub OneLine : List ℕ → Type 0
OneLine a = (i : ℕ) → i < length a → get_or a i 0 ≡ 10 → ⊥

module _ (c : ℕ) (a : List ℕ) (h : OneLine (c ∷ a)) where
  head_none : eqb c 10 ≡ false
  head_none = ne_eqb c 10 (h 0 (omega arith))

  tail_none : OneLine a
  tail_none i k e = h (suc i) (omega arith) e

pub lines_first : (a b : List ℕ) → OneLine a → lines (a ++ 10 ∷ b) ≡ a ∷ lines b
unfolding lines
lines_first [] b h = refl
lines_first (c ∷ a) b h = rw (head_none c a h) (ap (before c) (lines_first a b (tail_none c a h)))

pub lines_last : (c : ℕ) (a : List ℕ) → OneLine (c ∷ a) → lines (c ∷ a) ≡ (c ∷ a) ∷ []
unfolding lines
lines_last c [] h = rw (head_none c [] h) refl
lines_last c (b ∷ a) h = rw (head_none c (b ∷ a) h) (ap (before c) (lines_last b a (tail_none c (b ∷ a) h)))
