-- The mnemonic of a line: the part of the line that it is, and its row.
use mathlib.Core.Bool.{Bool, true, false, not}
use mathlib.Core.Path.{◌≡◌, refl, sym, ap, ◌∙◌}
use mathlib.Core.List.{List, [], ◌∷◌}
use Prim.Native.Nat.{ℕ, ◌+◌, ◌-◌, ◌≤◌}
use native.Mathlib.Omega.{arith}
use borrow.Author.Tests.{ltb-false}
use lib.Dec.{ltb}
use lib.ListN.{length, take, drop, length-drop}
use Rattle.laws.proofs.Choice.{clash}
use Rattle.text.proofs.Fronts.{front_inside}
use Rattle.std.specs.Prelude.{Option, Some, None, option_map, if◌then◌else◌, Err}
use Rattle.std.specs.List.{prefix_len, position_or_len}
use Rattle.std.proofs.Common.{Bor}
use Rattle.model.specs.declared.Refusal.TheVariants.{Mnemonic}
use Rattle.text.specs.Reading.{front, is_digit}
use Rattle.notation.specs.Table as table
use Rattle.notation.specs.Sums.{is_blank, byte_at, skipped}
use Rattle.notation.specs.Line.{name_at, is_named, read_pieces, instruction_at, plain_at, line_at, line_of}
use Rattle.notation.specs.Answers.{Parsed, wrong}
use Rattle.mnemonics.specs.Rows.{pieces_of, row_of, row_where}
use Rattle.mnemonics.specs.declared.Row.{Row}
use Rattle.mnemonics.proofs.Found.{first_some, first_none}

-- a front is the part of the list that it is long
front_part : (f : ℕ → Bool) (l : List ℕ) → take (length (front f l)) l ≡ front f l
unfolding front
front_part f [] = refl
front_part f (x ∷ xs) = by_test (f x) (front_part f xs)
  where
    by_test : (b : Bool) → take (length (front f xs)) xs ≡ front f xs
        → take (length (if b then x ∷ front f xs else [])) (x ∷ xs) ≡ (if b then x ∷ front f xs else [])
    by_test true e = ap (λ l. x ∷ l) e
    by_test false e = refl

-- and as long as the place of the first that is no part of it
pub front_long : (f : ℕ → Bool) (l : List ℕ) → length (front f l) ≡ prefix_len f l
unfolding front
front_long f [] = refl
front_long f (x ∷ xs) = by_test (f x) (front_long f xs)
  where
    by_test : (b : Bool) → length (front f xs) ≡ prefix_len f xs
        → length (if b then x ∷ front f xs else []) ≡ (if b then 1 + prefix_len f xs else 0)
    by_test true e = omega (arith, e)
    by_test false e = refl

-- a name goes up to the first blank behind it, or to the end
module _ (s : List ℕ) (at : ℕ) (h : at ≤ length s) where
  abbrev rest : List ℕ
  rest = drop at s

  abbrev blank_at : ℕ
  blank_at = position_or_len is_blank rest

  long : length (name_at s at) ≡ blank_at
  long = front_long (λ c. not (is_blank c)) rest

  within_rest : blank_at ≤ length rest
  within_rest = omega (arith, long, front_inside (λ c. not (is_blank c)) s at h, length-drop at s)

  module _ (r : Option ℕ) (e : r ≡ (if ltb blank_at (length rest) then Some blank_at else None)) where
    pub name_stops : (n : ℕ) → r ≡ Some n → (at + n ≡ at + length (name_at s at)) × (at + n ≤ length s)
    name_stops n f = pick (ltb blank_at (length rest)) (sym e ∙ f)
      where
        pick : (b : Bool) → (if b then Some blank_at else None) ≡ Some n → (at + n ≡ at + length (name_at s at)) × (at + n ≤ length s)
        pick true g = let k : blank_at ≡ n = cc in (omega (arith, k, long), omega (arith, k, within_rest, length-drop at s))
        pick false g = clash (cc)

    pub name_ends : r ≡ None → (length s ≡ at + length (name_at s at)) × (length s ≤ length s)
    name_ends f = pick (ltb blank_at (length rest)) refl (sym e ∙ f)
      where
        pick : (b : Bool) → ltb blank_at (length rest) ≡ b → (if b then Some blank_at else None) ≡ None
            → (length s ≡ at + length (name_at s at)) × (length s ≤ length s)
        pick true k g = clash (cc)
        pick false k g = (omega (arith, long, ltb-false blank_at (length rest) k, within_rest, length-drop at s), omega arith)

module _ (s : List ℕ) (at next : ℕ) (e : next ≡ at + length (name_at s at)) where
  name_part : take (next - at) (drop at s) ≡ name_at s at
  name_part = let h : next - at ≡ length (name_at s at) = omega (arith, e) in rw h (front_part (λ c. not (is_blank c)) (drop at s))

  abbrev behind : table.Row → Parsed
  behind r = read_pieces s r.pieces r.base (at + length (name_at s at))

  -- the row of that part of the line
  module _ (found : Option (Bor Row)) (same : option_map (λ r. row_of r.now) found ≡ row_where (is_named (take (next - at) (drop at s)))) where
    place : option_map (λ r. row_of r.now) found ≡ row_where (is_named (name_at s at))
    place = same ∙ ap (λ l. row_where (is_named l)) name_part

    pub unnamed : found ≡ None → Err (wrong Mnemonic at) ≡ instruction_at s at
    unfolding instruction_at
    unnamed h = sym (first_none behind (Err (wrong Mnemonic at)) (is_named (name_at s at)) found place h)

    pub named : (r : Bor Row) → found ≡ Some r → read_pieces s (pieces_of r.now) r.now.base next ≡ instruction_at s at
    unfolding instruction_at
    named r h = rw e (sym (first_some behind (Err (wrong Mnemonic at)) (is_named (name_at s at)) found place r h))

-- ---- a line begins with a digit or with a mnemonic
module _ (s : List ℕ) (at : ℕ) (skips : at ≡ skipped s 0) (t : Bool) (read : t ≡ is_digit (byte_at s at)) where
  pub begins_number : t ≡ true → plain_at s at ≡ line_of s
  unfolding line_of line_at
  begins_number h = rw (← skips, ← read, h) refl

  pub begins_name : t ≡ false → instruction_at s at ≡ line_of s
  unfolding line_of line_at
  begins_name h = rw (← skips, ← read, h) refl
