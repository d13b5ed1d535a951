-- A line by its word (`word_found`). What is read lies within the line, and its numbers keep to the table (`line_known`).
use mathlib.Core.Path.{◌≡◌, sym, ap, subst, ◌∙◌}
use mathlib.Core.List.{List}
use Prim.Native.Nat.{ℕ, ◌+◌, ◌-◌, ◌/◌, ◌≤◌}
use native.Mathlib.Omega.{arith}
use lib.ListN.{length, take}
use Rattle.text.specs.Scan.{slice, index_of}
use Rattle.script.specs.Table.{call_row}
use Rattle.script.specs.Keeping.{Keeps}
use Rattle.script.specs.declared.table.Row.TheVariants.{Alone}
use Rattle.script.proofs.Ways.{word_end}
use Rattle.script.proofs.Within.{index_inside, by_row_in}
use Rattle.plainsession.specs.Table.{change_row, word_of}
use Rattle.plainsession.specs.Grammar.{by_word, line_of}
use Rattle.plainsession.specs.declared.table.Word.{Word}
use Rattle.plainsession.specs.declared.table.Word.TheVariants.{Calls as CallsWord, Sum as SumWord, Changes as ChangesWord}
use Rattle.plainsession.specs.declared.table.Line.{Line}
use Rattle.plainsession.specs.declared.table.Line.TheVariants.{Calls, Sum, Changes}
use Rattle.std.specs.Prelude.{Option, Some, None, Result, Ok, Err}

-- ---- the line by its word, which ends there
pub word_found : (l : List ℕ) (at : ℕ) → at ≡ 0 + index_of 32 (slice 0 (length l) l) → by_word (word_of (take at l)) l at ≡ line_of l
unfolding line_of
word_found l at h = ap (λ n. by_word (word_of (take n l)) l n) (word_end l at h)

-- ---- a line of n bytes: the digits begin in it, the numbers keep to the row; a column that does not fit is at most two behind its end
abbrev pub LineIn : ℕ → Result Line ℕ → Type 0
LineIn n (Ok (Calls c p)) = (p.hex ≤ n) × Keeps (call_row c) p ((n - p.hex) / 2)
LineIn n (Ok Sum) = Unit {0}
LineIn n (Ok (Changes c p)) = (p.hex ≤ n) × Keeps (change_row c) p ((n - p.hex) / 2)
LineIn n (Err column) = column ≤ n + 2

module _ (l : List ℕ) where
  by_word_in : (w : Option Word) (at : ℕ) → at ≤ length l → LineIn (length l) (by_word w l at)
  unfolding by_word
  by_word_in (Some (CallsWord c)) at h = by_row_in l (LineIn (length l)) (call_row c) at h (λ _ k. k) (λ _ k. k)
  by_word_in (Some SumWord) at h = by_row_in l (LineIn (length l)) Alone at h (λ _ _. tt) (λ _ k. k)
  by_word_in (Some (ChangesWord c)) at h = by_row_in l (LineIn (length l)) (change_row c) at h (λ _ k. k) (λ _ k. k)
  by_word_in None at h = omega arith

  line_in : LineIn (length l) (line_of l)
  unfolding line_of
  line_in = by_word_in (word_of (take (index_of 32 l) l)) (index_of 32 l) (index_inside 32 l)

  -- of what the reader answered
  pub line_known : {p q : Result Line ℕ} → p ≡ line_of l → p ≡ q → LineIn (length l) q
  line_known e g = subst (LineIn (length l)) (sym e ∙ g) line_in
