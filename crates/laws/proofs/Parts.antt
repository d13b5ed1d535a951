-- What code cuts out of a lent slice is a part of it: n bytes from byte i on, `&whole[i..i + n]` (`cut`), or none (`cut_none`).
use mathlib.Core.Path.{◌≡◌, sym, ap, ◌∙◌}
use mathlib.Core.List.{List, []}
use Prim.Native.Nat.{ℕ, ◌+◌, ◌-◌, ◌≤◌}
use native.Mathlib.Omega.{arith}
use native.Mathlib.Nat.{add-zero}
use lib.ListN.{length, take, drop, length-take}
use lib.Seq.{take-length, take-take}
use denote.Ref.{Bor}
use Rattle.model.specs.Parts.{Part, part_at, PartOf, no_part}

take_own : (n : ℕ) (l : List ℕ) → take n l ≡ take (length (take n l)) l
take_own n l = let h : length (take n l) ≤ n = omega (arith, length-take n l) in sym (take-length (take n l)) ∙ take-take (length (take n l)) n l h

module _ (whole r : Bor (List ℕ)) (p : Part) (block : r.ref_ptr.0 ≡ whole.ref_ptr.0) where
  pub cut : (i n : ℕ) → part_at whole.now i n ≡ p → r.ref_ptr.1 ≡ whole.ref_ptr.1 + i → r.now ≡ take (i + n - i) (drop i whole.now) → PartOf whole p r
  cut i n is begins e =
      let k : i + n - i ≡ n = omega arith in
      let b : r.now ≡ take n (drop i whole.now) = rw k at e in
      rw (← is) (record {
        block = block;
        begins = begins;
        bytes = b;
        own = b ∙ take_own n (drop i whole.now) ∙ ap (λ l. take (length l) (drop i whole.now)) (sym b);
      })

  pub cut_none : no_part ≡ p → r.ref_ptr.1 ≡ whole.ref_ptr.1 → r.now ≡ [] → PartOf whole p r
  cut_none is begins e = cut 0 0 is (begins ∙ sym (add-zero _)) e
