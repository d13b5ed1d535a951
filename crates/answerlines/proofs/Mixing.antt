-- FNV-1a, byte by byte.
use mathlib.Core.Path.{◌≡◌, sym, ap, ◌∙◌}
use mathlib.Core.List.{List, [], ◌∷◌, ◌++◌, append_assoc, append-nil}
use Prim.Native.Nat.{ℕ}
use Rattle.answerlines.specs.Fnv.{mixed, fnv1a}

-- a is the sum of these bytes, so that it comes to the same with whatever follows
abbrev pub SumOf : List ℕ → ℕ → Type 0
SumOf ys a = (l : List ℕ) → fnv1a 2166136261 (ys ++ l) ≡ fnv1a a l

pub sum_more : (ys : List ℕ) (a x b : ℕ) → SumOf ys a → b ≡ mixed a x → SumOf (ys ++ (x ∷ [])) b
unfolding fnv1a
sum_more ys a x b j e l = rw append_assoc (j (x ∷ l) ∙ ap (λ s. fnv1a s l) (sym e))

pub sum_all : (ys : List ℕ) (a : ℕ) → SumOf ys a → a ≡ fnv1a 2166136261 ys
unfolding fnv1a
sum_all ys a j = sym (j []) ∙ ap (fnv1a 2166136261) (append-nil ys)
