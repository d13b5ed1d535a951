-- Bytes read from a part of the memory and put in its place.
use mathlib.Core.Path.{◌≡◌, refl, sym, ap, ◌∙◌}
use mathlib.Core.List.{List, [], ◌∷◌, ◌++◌, append_assoc}
use Prim.Native.Nat.{ℕ, ◌+◌, ◌-◌}
use native.Mathlib.Omega.{arith}
use lib.ListN.{length, take, drop}
use borrow.Rule.Slice.PartMut.{put_mid, Post-is}
use Rattle.laws.specs.Over.{over}
use Rattle.laws.proofs.Over.{over_none}

none : (l : List ℕ) → length l ≡ 0 → l ≡ []
none [] e = refl
none (x ∷ xs) e = absurd (omega (arith, e))

-- no byte
pub read_none : (into bytes : List ℕ) (va : ℕ) → length into ≡ 0 → into ≡ take (length into) (drop va bytes)
read_none into bytes va e = rw e (none into e)

pub written_none : (bytes from : List ℕ) (va : ℕ) → length from ≡ 0 → bytes ≡ over va from bytes
written_none bytes from va e = rw (none from e) (sym (over_none va bytes))

-- n bytes
pub read_part : (bytes into : List ℕ) (va n : ℕ) → into ≡ take (va + n - va) (drop va bytes) → into ≡ take n (drop va bytes)
read_part bytes into va n e = let k : va + n - va ≡ n = omega arith in rw k at e

pub written_part : (bytes from part : List ℕ) (va : ℕ) → part ≡ from → put_mid va (va + length from - va) bytes part ≡ over va from bytes
written_part bytes from part va e =
    rw e (ap (λ r. take va bytes ++ (from ++ r)) (Post-is va (va + length from) bytes (omega arith)) ∙ sym (append_assoc (take va bytes) from _))
