-- What is read lies within the line, and its numbers keep to the table.
use mathlib.Core.Bool.{Bool, true, false, ◌&&◌}
use mathlib.Core.Path.{◌≡◌, sym, subst, ◌∙◌}
use mathlib.Core.List.{List, [], ◌∷◌}
use Prim.Native.Nat.{ℕ, suc, ◌+◌, ◌-◌, ◌/◌, ◌%◌, ◌≤◌}
use native.Mathlib.Omega.{arith}
use lib.Dec.{eqb, leb}
use lib.ListN.{length, get_or, take}
use borrow.Author.Tests.{leb-true}
use Rattle.laws.proofs.Choice.{chosen}
use Rattle.text.specs.Scan.{index_of, index_after}
use Rattle.text.specs.Reading.{is_space, hex_end}
use Rattle.text.proofs.Bounds.{number_in, space_inside, hex_inside, PartIn}
use Rattle.text.specs.declared.reading.Number.{Number}
use Rattle.std.specs.Prelude.{Option, Some, None, Result, Ok, Err}
use Rattle.script.specs.Table.{call_row, change_row, word_of}
use Rattle.script.specs.Parts.{Parts, spaced_number, behind, ended, one_number, two_numbers, pairs, hex_behind, number_and_hex, fitting, hex_within, parts_of, line_by}
use Rattle.script.specs.Grammar.{by_word, line_of}
use Rattle.script.specs.Keeping.{Keeps}
use Rattle.script.specs.declared.parts.Numbers.{Numbers}
use Rattle.script.specs.declared.table.Row.{Row}
use Rattle.script.specs.declared.table.Row.TheVariants.{Alone, One, Two, Hex, HexWithin}
use Rattle.script.specs.declared.table.Word.{Word}
use Rattle.script.specs.declared.table.Word.TheVariants.{Calls as CallsWord, Shows as ShowsWord, Changes as ChangesWord}
use Rattle.script.specs.declared.Line.{Line}
use Rattle.script.specs.declared.Line.TheVariants.{Calls, Shows, Changes}

-- a line of n bytes: the digits begin in it, the numbers keep to the row; a column that does not fit is at most two behind its end
abbrev pub Within : ℕ → Row → Parts → Type 0
Within n row (Ok p) = (p.hex ≤ n) × Keeps row p ((n - p.hex) / 2)
Within n row (Err column) = column ≤ n + 2

abbrev pub LineIn : ℕ → Result Line ℕ → Type 0
LineIn n (Ok (Calls c p)) = (p.hex ≤ n) × Keeps (call_row c) p ((n - p.hex) / 2)
LineIn n (Ok (Shows t)) = Unit {0}
LineIn n (Ok (Changes c p)) = (p.hex ≤ n) × Keeps (change_row c) p ((n - p.hex) / 2)
LineIn n (Err column) = column ≤ n + 2

-- the first of such a byte lies in the line, or it is the line's end
after_inside : (b : Bool) (k n : ℕ) → k ≤ n → index_after b k ≤ suc n
unfolding index_after
after_inside true k n h = omega arith
after_inside false k n h = omega arith

pub index_inside : (b : ℕ) (l : List ℕ) → index_of b l ≤ length l
unfolding index_of
index_inside b [] = omega arith
index_inside b (x ∷ l) = after_inside (eqb x b) (index_of b l) (length l) (index_inside b l)

-- what comes behind a number
behind_in : (n most : ℕ) (P : Parts → Type 0) (p : Result Number ℕ) {k : ℕ → ℕ → Parts} → PartIn n most p
    → ((v next : ℕ) → v ≤ most → next ≤ n → P (k v next)) → ((column : ℕ) → column ≤ n + 2 → P (Err column)) → P (behind p k)
behind_in n most P (Ok q) h f g = f q.value q.next h.1 h.0
behind_in n most P (Err column) h f g = g column (omega arith)

module _ (l : List ℕ) where
  pub spaced_in : (at most : ℕ) → at ≤ length l → PartIn (length l) most (spaced_number l at most)
  unfolding spaced_number
  spaced_in at most h =
      chosen (PartIn (length l) most) (is_space (get_or l at 0))
      (λ t. number_in l (at + 1) most (omega (arith, space_inside l at t))) (λ _. omega arith)

  ended_in : (row : Row) (first second end : ℕ) → end ≤ length l → ((n : ℕ) → Keeps row (record { first = first; second = second; hex = end }) n)
      → Within (length l) row (ended l first second end)
  unfolding ended
  ended_in row first second end h k =
      chosen (Within (length l) row) (eqb end (length l)) (λ _. (h, k ((length l - end) / 2))) (λ _. omega arith)

  one_in : (at most : ℕ) → at ≤ length l → Within (length l) (One most) (one_number l at most)
  unfolding one_number
  one_in at most h =
      behind_in (length l) most (Within (length l) (One most)) (spaced_number l at most) (spaced_in at most h)
      (λ v next b i. ended_in (One most) v 0 next i (λ _. b)) (λ _ c. c)

  two_in : (at most second : ℕ) → at ≤ length l → Within (length l) (Two most second) (two_numbers l at most second)
  unfolding two_numbers
  two_in at most second h =
      behind_in (length l) most (Within (length l) (Two most second)) (spaced_number l at most) (spaced_in at most h)
      (λ v next b i.
      behind_in (length l) second (Within (length l) (Two most second)) (spaced_number l next second) (spaced_in next second i)
      (λ w end d j. ended_in (Two most second) v w end j (λ _. (b, d))) (λ _ c. c))
      (λ _ c. c)

  pairs_in : (most first start end : ℕ) → first ≤ most → start ≤ end → end ≤ length l → Within (length l) (Hex most) (pairs l first start end)
  unfolding pairs
  pairs_in most first start end h a b =
      chosen (Within (length l) (Hex most)) (eqb end (length l) && eqb ((end - start) % 2) 0) (λ _. (omega arith, h)) (λ _. omega arith)

  behind_hex : (most first next : ℕ) → first ≤ most → next ≤ length l → Within (length l) (Hex most) (hex_behind l first next)
  unfolding hex_behind
  behind_hex most first next h k =
      chosen (Within (length l) (Hex most)) (is_space (get_or l next 0))
      (λ t.
      let i = hex_inside l (next + 1) (omega (arith, space_inside l next t)) in
      pairs_in most first (next + 1) (hex_end l (next + 1)) h i.0 i.1)
      (λ _. omega arith)

  hex_in : (at most : ℕ) → at ≤ length l → Within (length l) (Hex most) (number_and_hex l at most)
  unfolding number_and_hex
  hex_in at most h =
      behind_in (length l) most (Within (length l) (Hex most)) (spaced_number l at most) (spaced_in at most h)
      (λ v next b i. behind_hex most v next b i) (λ _ c. c)

  fitting_in : (column size : ℕ) (p : Parts) → column ≤ length l + 2 → Within (length l) (Hex size) p
      → Within (length l) (HexWithin size) (fitting (length l) column size p)
  fitting_in column size (Ok p) k h =
      chosen (Within (length l) (HexWithin size)) (leb (p.first + (length l - p.hex) / 2) size) (λ t. (h.0, leb-true _ _ t)) (λ _. k)
  fitting_in column size (Err c) k h = h

  within_in : (at size : ℕ) → at ≤ length l → Within (length l) (HexWithin size) (hex_within l at size)
  unfolding hex_within
  within_in at size h = fitting_in (at + 2) size (number_and_hex l at size) (omega arith) (hex_in at size h)

  parts_in : (at : ℕ) (row : Row) → at ≤ length l → Within (length l) row (parts_of l at row)
  unfolding parts_of
  parts_in at Alone h = ended_in Alone 0 0 at h (λ _. tt)
  parts_in at (One most) h = one_in at most h
  parts_in at (Two most second) h = two_in at most second h
  parts_in at (Hex most) h = hex_in at most h
  parts_in at (HexWithin size) h = within_in at size h

  -- what holds of a line, by its parts
  by_parts_in : {L : Type 0} (P : L → Type 0) (row : Row) {fits : Numbers → L} {bad : ℕ → L} (p : Parts) → Within (length l) row p
      → ((n : Numbers) → Within (length l) row (Ok n) → P (fits n)) → ((column : ℕ) → column ≤ length l + 2 → P (bad column)) → P (line_by fits bad p)
  by_parts_in P row (Ok n) h f g = f n h
  by_parts_in P row (Err column) h f g = g column h

  pub by_row_in : {L : Type 0} (P : L → Type 0) (row : Row) (at : ℕ) → at ≤ length l → {fits : Numbers → L} {bad : ℕ → L}
      → ((n : Numbers) → Within (length l) row (Ok n) → P (fits n)) → ((column : ℕ) → column ≤ length l + 2 → P (bad column))
      → P (line_by fits bad (parts_of l at row))
  by_row_in P row at h f g = by_parts_in P row (parts_of l at row) (parts_in at row h) f g

  -- ---- the line
  by_word_in : (w : Option Word) (at : ℕ) → at ≤ length l → LineIn (length l) (by_word w l at)
  unfolding by_word
  by_word_in (Some (CallsWord c)) at h = by_row_in (LineIn (length l)) (call_row c) at h (λ _ k. k) (λ _ k. k)
  by_word_in (Some (ShowsWord t)) at h = by_row_in (LineIn (length l)) Alone at h (λ _ _. tt) (λ _ k. k)
  by_word_in (Some (ChangesWord c)) at h = by_row_in (LineIn (length l)) (change_row c) at h (λ _ k. k) (λ _ k. k)
  by_word_in None at h = omega arith

  line_in : LineIn (length l) (line_of l)
  unfolding line_of
  line_in = by_word_in (word_of (take (index_of 32 l) l)) (index_of 32 l) (index_inside 32 l)

  -- the same, of what the reader answered
  pub line_known : {p q : Result Line ℕ} → p ≡ line_of l → p ≡ q → LineIn (length l) q
  line_known e g = subst (LineIn (length l)) (sym e ∙ g) line_in
