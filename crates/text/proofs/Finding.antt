-- Where a byte stands, in std's words.
use mathlib.Core.Path.{◌≡◌, ap, ◌∙◌, refl}
use mathlib.Core.List.{List, [], ◌∷◌}
use mathlib.Core.Bool.{Bool, true, false}
use Prim.Native.Nat.{ℕ, ◌+◌, ◌-◌, ◌≤◌}
use lib.Dec.{eqb, ltb}
use lib.ListN.{length, take, length-drop}
use lib.Seq.{length-take-le}
use Rattle.std.proofs.lemmas.List.Sums.{prefix_len-le-length}
use Rattle.std.proofs.Common.{cond, not, arith, Option, Some, None}
use Rattle.std.specs.Option.{unwrap_or}
use borrow.Author.Tests.{ltb-false}
use Rattle.std.specs.List.{position_or_len}
use Rattle.text.specs.Scan.{slice, index_after, index_of}

after_more : (t : Bool) {n m : ℕ} → n ≡ m → cond (not t) (1 + n) 0 ≡ index_after t m
unfolding index_after
after_more true e = refl
after_more false e = omega (arith, e)

pub position_found : (b : ℕ) (l : List ℕ) → position_or_len (λ c. eqb c b) l ≡ index_of b l
unfolding index_of
position_found b [] = refl
position_found b (x ∷ l) = after_more (eqb x b) (position_found b l)

pub found_or : {r : Option ℕ} (p n d : ℕ) → r ≡ cond (ltb p n) (Some p) None → p ≤ n → n ≡ d → unwrap_or r d ≡ p
found_or p n d e h k = ap (λ (o : Option ℕ). unwrap_or o d) e ∙ pick (ltb p n) refl
  where
    pick : (b : Bool) → ltb p n ≡ b → unwrap_or (cond b (Some p) None) d ≡ p
    pick true t = refl
    pick false t = omega (arith, ltb-false p n t)

pub position_inside : (b : ℕ) (l : List ℕ) → position_or_len (λ c. eqb c b) l ≤ length l
position_inside b l = prefix_len-le-length (λ c. not (eqb c b)) l

pub length-slice : (l : List ℕ) (from to : ℕ) → from ≤ to → to ≤ length l → length (slice from to l) ≡ to - from
unfolding slice
length-slice l from to h k = length-drop from (take to l) ∙ ap (λ n. n - from) (length-take-le to l k)
