-- What is read of a text: every line is good, or one is the first bad one; and what stands behind that one says nothing.
use mathlib.Core.Path.{◌≡◌, sym, ap, ap₂, subst, ◌∙◌}
use mathlib.Core.Logic.{◌↔◌}
use mathlib.Core.List.{List, []}
use Prim.Native.Nat.{ℕ, ◌+◌, ◌-◌, ◌<◌}
use native.Mathlib.Omega.{arith}
use lib.ListN.{length, get_or, take, length-take}
use lib.Seq.{get_or-take}
use Rattle.model.specs.declared.Refusal.{Refusal}
use Rattle.grammar.proofs.Line.{line_wrong, line_refusal}
use Rattle.notation.specs.Text.{lines, words, bad, read_from, read_text}
use Rattle.makers.specs.Refusals.{HasWord, IsGood, line, IsLine, Words, FirstBad, Placed}
use Rattle.makers.proofs.FirstBad.{words_found, words_are, BadBehind, bad_found, bad_is}

-- ---- line k is the one behind k - 1 others
module _ (text ws : List ℕ) where
  pub good : (read_text text ≡ words ws) ↔ Words text ws
  unfolding read_text
  good = (found, are)
    where
      found : read_from 1 (lines text) ≡ words ws → Words text ws
      found e =
          let p = words_found 1 (lines text) ws e in
          record { one_each = p.one_each; of_line = λ k h. p.of_line (k - 1) (omega (arith, h.0, h.1)) }

      are : Words text ws → read_from 1 (lines text) ≡ words ws
      are p = words_are 1 (lines text) ws (record { one_each = p.one_each; of_line = at })
        where
          at : (i : ℕ) → i < length (lines text) → HasWord (get_or (lines text) i []) (get_or ws i 0)
          at i h = let e : 1 + i - 1 ≡ i = omega arith in rw e at (p.of_line (1 + i) (omega arith, omega arith))

module _ (text : List ℕ) (r : Refusal) (n column : ℕ) where
  pub first_found : read_text text ≡ bad r n column → FirstBad text r n column
  unfolding read_text
  first_found e =
      let p = bad_found 1 (lines text) e in
      let i : p.i ≡ n - 1 = omega (arith, p.is_line) in
      let b : BadBehind (lines text) r (n - 1) p.place = rw i at p.behind in
      record {
        is_line = (omega (arith, p.is_line), omega (arith, p.is_line, b.inside));
        place = p.place;
        wrong = b.wrong;
        from_one = p.from_one;
        before = λ k h g. b.before (k - 1) (omega arith);
      }

  pub first_is : FirstBad text r n column → read_text text ≡ bad r n column
  unfolding read_text
  first_is p =
      let is : IsLine text n = p.is_line in
      let from : 1 + (n - 1) ≡ n = omega (arith, is.0) in
      bad_is 1 (lines text) r (n - 1) p.place (record { inside = omega (arith, is.0, is.1); wrong = p.wrong; before = at })
      ∙ ap₂ (λ a b. bad r a b) from (sym p.from_one)
    where
      at : (j : ℕ) → j < n - 1 → IsGood (get_or (lines text) j [])
      at j h = let e : 1 + j - 1 ≡ j = omega arith in rw e at (p.before (1 + j) (omega arith) (omega arith))

  pub first_bad : (read_text text ≡ bad r n column) ↔ FirstBad text r n column
  first_bad = (first_found, first_is)

  pub placed : read_text text ≡ bad r n column → Placed (line text n) r column
  placed e =
      let p = first_found e in
      record {
        by_line = line_refusal (line text n) r p.place p.wrong;
        least = omega (arith, p.from_one);
        most = omega (arith, p.from_one, line_wrong (line text n) r p.place p.wrong);
      }

-- ---- what stands behind a bad line
module _ (text text' : List ℕ) (r : Refusal) (n column : ℕ) (e : take n (lines text') ≡ take n (lines text)) where
  same_line : (i : ℕ) → i < n → get_or (lines text) i [] ≡ get_or (lines text') i []
  same_line i h = sym (get_or-take n (lines text) i [] h) ∙ ap (λ l. get_or l i []) (sym e) ∙ get_or-take n (lines text') i [] h

  same_bad : FirstBad text r n column → FirstBad text' r n column
  same_bad p =
      let is : IsLine text n = p.is_line in
      record {
        is_line = (is.0, omega (arith, is.1, ap length e, length-take n (lines text), length-take n (lines text')));
        place = p.place;
        wrong = rw (same_line (n - 1) (omega (arith, is.0))) at p.wrong;
        from_one = p.from_one;
        before = λ k h g. subst IsGood (same_line (k - 1) (omega arith)) (p.before k h g);
      }

  pub behind_bad : read_text text ≡ bad r n column → read_text text' ≡ bad r n column
  behind_bad q = first_is text' r n column (same_bad (first_found text r n column q))
