-- The first line of a text: it ends at the first newline, and the others begin behind that.
use mathlib.Core.Path.{◌≡◌, refl, sym, ap, ◌∙◌}
use mathlib.Core.Bool.{Bool, true, false, not}
use mathlib.Core.List.{List, [], ◌∷◌}
use Prim.Native.Nat.{ℕ, suc, ◌+◌, ◌-◌, ◌≤◌, ◌<◌}
use native.Mathlib.Nat.{not-suc-le-zero}
use native.Mathlib.Omega.{arith}
use native.Mathlib.Numerals.{add-one}
use borrow.Author.Tests.{ltb-true, ltb-false}
use Rattle.std.specs.Prelude.{Option, Some, None, if◌then◌else◌}
use Rattle.std.specs.List.{position_or_len}
use lib.Dec.{eqb, ltb}
use lib.ListN.{length, take, drop, length-drop, drop_of_length-le}
use lib.Seq.{take_all, length-take-le}
use Rattle.text.specs.Reading.{front}
use Rattle.laws.proofs.Choice.{clash}
use Rattle.notation.specs.Text.{before, lines}
use Rattle.line.proofs.Names.{front_long}

-- a byte within a line
abbrev in_line : ℕ → Bool
in_line c = not (eqb c 10)

-- the first line, and those behind it
abbrev first_line : List ℕ → List (List ℕ)
first_line text = let n = length (front in_line text) in take n text ∷ lines (drop (suc n) text)

-- a byte within the first line
module _ (c : ℕ) (cs : List ℕ) (e : eqb c 10 ≡ false) where
  lines_more : lines (c ∷ cs) ≡ before c (lines cs)
  unfolding lines
  lines_more = simp e

  front_more : front in_line (c ∷ cs) ≡ c ∷ front in_line cs
  unfolding front
  front_more = simp e

only_line : (c : ℕ) → eqb c 10 ≡ false → lines (c ∷ []) ≡ first_line (c ∷ [])
unfolding lines front
only_line c e = simp e

first_more : (c : ℕ) (cs : List ℕ) → eqb c 10 ≡ false → (0 < length cs → lines cs ≡ first_line cs) → lines (c ∷ cs) ≡ first_line (c ∷ cs)
first_more c [] e behind = only_line c e
first_more c (d ∷ ds) e behind =
    lines_more c (d ∷ ds) e ∙ ap (before c) (behind (omega arith))
    ∙ sym (ap (λ l. take (length l) (c ∷ d ∷ ds) ∷ lines (drop (suc (length l)) (c ∷ d ∷ ds))) (front_more c (d ∷ ds) e))

pub first_line_lem : (text : List ℕ) → 0 < length text → lines text ≡ first_line text
unfolding lines front
first_line_lem [] h = absurd (not-suc-le-zero h)
first_line_lem (c ∷ cs) h = pick (eqb c 10) refl (first_line_lem cs)
  where
    pick : (b : Bool) → eqb c 10 ≡ b → (0 < length cs → lines cs ≡ first_line cs) → lines (c ∷ cs) ≡ first_line (c ∷ cs)
    pick true e behind = simp e
    pick false e behind = first_more c cs e behind

pub no_text : (text : List ℕ) → length text ≡ 0 → lines text ≡ []
unfolding lines
no_text [] h = refl
no_text (c ∷ cs) h = absurd (omega (arith, h))

-- ---- where the first newline is
module _ (text : List ℕ) where
  abbrev newline_at : ℕ
  newline_at = position_or_len (λ b. eqb b 10) text

  long : length (front in_line text) ≡ newline_at
  long = front_long in_line text

  pub first_at : 0 < length text → lines text ≡ take newline_at text ∷ lines (drop (newline_at + 1) text)
  first_at h = first_line_lem text h ∙ rw (long, add-one) refl

  module _ (h : 0 < length text) (r : Option ℕ) (e : r ≡ (if ltb newline_at (length text) then Some newline_at else None)) where
    abbrev First : List ℕ → List ℕ → Type 0
    First line behind = (lines text ≡ line ∷ lines behind) × (length line + length behind ≤ length text) × (length behind < length text)

    first_of : (n : ℕ) → n ≡ newline_at → n < length text → First (take n text) (take (length text - (n + 1)) (drop (n + 1) text))
    first_of n k l =
        let whole = take_all (length text - (n + 1)) (drop (n + 1) text) (omega (arith, length-drop (n + 1) text)) in
        let f = first_at h in
        rw (whole, k) (f, omega (arith, length-take-le newline_at text, length-drop (newline_at + 1) text), omega (arith, length-drop (newline_at + 1) text))

    pub first_stops : (n : ℕ) → r ≡ Some n → First (take n text) (take (length text - (n + 1)) (drop (n + 1) text))
    first_stops n f = pick (ltb newline_at (length text)) refl (sym e ∙ f)
      where
        pick : (b : Bool) → ltb newline_at (length text) ≡ b → (if b then Some newline_at else None) ≡ Some n → First (take n text) (take (length text - (n + 1)) (drop (n + 1) text))
        pick true k g = let q : n ≡ newline_at = cc in first_of n q (omega (arith, q, ltb-true newline_at (length text) k))
        pick false k g = clash (cc)

    pub first_ends : r ≡ None → First text []
    first_ends f = pick (ltb newline_at (length text)) refl (sym e ∙ f)
      where
        pick : (b : Bool) → ltb newline_at (length text) ≡ b → (if b then Some newline_at else None) ≡ None → First text []
        pick true k g = clash (cc)
        pick false k g =
            let q = ltb-false newline_at (length text) k in
            let t = take_all newline_at text q in
            let d : drop (newline_at + 1) text ≡ [] = drop_of_length-le text (omega (arith, q)) in
            (rw (t, d) at (first_at h), omega arith, omega arith)
