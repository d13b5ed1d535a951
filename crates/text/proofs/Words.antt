-- Two words compared: `==` answers what the definition says; words of other lengths differ.
use mathlib.Core.Bool.{Bool, true, false, ◌&&◌}
use mathlib.Core.Path.{◌≡◌, refl, sym, ap}
use mathlib.Core.List.{List, [], ◌∷◌}
use Prim.Native.Nat.{ℕ, suc}
use lib.Dec.{eqb}
use lib.ListN.{length}
use Rattle.std.specs.Str.{bytes_eq}
use Rattle.model.specs.Bytes.{same}

pub equal_same : (a b : List ℕ) → bytes_eq a b ≡ same a b
unfolding same
equal_same [] [] = refl
equal_same [] (y ∷ ys) = refl
equal_same (x ∷ xs) [] = refl
equal_same (x ∷ xs) (y ∷ ys) = ap (λ t. eqb x y && t) (equal_same xs ys)

and_false : (a b : Bool) → b ≡ false → (a && b) ≡ false
and_false true b h = h
and_false false b h = refl

pub unequal : (a b : List ℕ) → (length a ≡ length b → ⊥) → false ≡ same a b
unfolding same
unequal [] [] h = absurd (h refl)
unequal [] (y ∷ ys) h = refl
unequal (x ∷ xs) [] h = refl
unequal (x ∷ xs) (y ∷ ys) h = sym (and_false (eqb x y) (same xs ys) (sym (unequal xs ys (λ e. h (ap suc e)))))
