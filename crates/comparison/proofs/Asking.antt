-- What a line is read as, by its word (`asked_by`); and it lies within the line (`asked_known`).
use mathlib.Core.Path.{◌≡◌, sym, ap, subst, ◌∙◌}
use mathlib.Core.List.{List}
use Prim.Native.Nat.{ℕ, ◌+◌, ◌-◌, ◌/◌, ◌≤◌}
use native.Mathlib.Omega.{arith}
use lib.ListN.{length, take}
use Rattle.text.specs.Scan.{slice, index_of}
use Rattle.script.specs.Table.{call_row, call_of}
use Rattle.script.specs.Keeping.{Keeps}
use Rattle.script.proofs.Ways.{word_end}
use Rattle.script.proofs.Within.{index_inside, by_row_in}
use Rattle.std.specs.Prelude.{Option, Some, None, Result, Ok, Err}
use Rattle.script.specs.declared.Call.{Call}
use Rattle.comparison.specs.Grammar.{by_word, asked_of}
use Rattle.comparison.specs.declared.asked.Asked.{Asked}

-- ---- the line by its word, which ends there
pub asked_by : (l : List ℕ) (at : ℕ) → at ≡ 0 + index_of 32 (slice 0 (length l) l) → by_word (call_of (take at l)) l at ≡ asked_of l
unfolding asked_of
asked_by l at h = ap (λ n. by_word (call_of (take n l)) l n) (word_end l at h)

-- ---- in a line of n bytes the digits begin, the numbers keep to the row; a column that does not fit is at most two behind its end
abbrev pub AskedIn : ℕ → Result Asked ℕ → Type 0
AskedIn n (Ok a) = (a.numbers.hex ≤ n) × Keeps (call_row a.call) a.numbers ((n - a.numbers.hex) / 2)
AskedIn n (Err column) = column ≤ n + 2

module _ (l : List ℕ) where
  by_word_in : (w : Option Call) (at : ℕ) → at ≤ length l → AskedIn (length l) (by_word w l at)
  unfolding by_word
  by_word_in (Some c) at h = by_row_in l (AskedIn (length l)) (call_row c) at h (λ _ k. k) (λ _ k. k)
  by_word_in None at h = omega arith

  asked_in : AskedIn (length l) (asked_of l)
  unfolding asked_of
  asked_in = by_word_in (call_of (take (index_of 32 l) l)) (index_of 32 l) (index_inside 32 l)

  -- the same, of what the reader answered
  pub asked_known : {p q : Result Asked ℕ} → p ≡ asked_of l → p ≡ q → AskedIn (length l) q
  asked_known e g = subst (AskedIn (length l)) (sym e ∙ g) asked_in
