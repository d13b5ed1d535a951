-- The line of a change begins with its word (`word_spelled_at`).
use mathlib.Core.Path.{◌≡◌, sym, ap, subst, ◌∙◌}
use mathlib.Core.List.{List}
use Prim.Native.Nat.{ℕ, ◌+◌, ◌≤◌}
use native.Mathlib.Omega.{arith}
use lib.ListN.{length, take}
use Rattle.text.specs.Scan.{slice, index_of}
use Rattle.script.specs.Table.{call_row, call_of}
use Rattle.script.specs.Parts.{parts_of}
use Rattle.script.specs.declared.parts.Numbers.{Numbers}
use Rattle.script.specs.declared.table.Row.TheVariants.{Alone}
use Rattle.script.proofs.Ways.{word_end}
use Rattle.script.proofs.Spelled.{spelled, own_spelled, line_by_parts}
use Rattle.plainsession.specs.Table.{change_row, own, own_of, word_of}
use Rattle.plainsession.specs.Grammar.{by_word, line_of}
use Rattle.plainsession.specs.Desk.{change_word}
use Rattle.plainsession.specs.declared.table.Change.{Change}
use Rattle.plainsession.specs.declared.table.Change.TheVariants.{Memory, Rights, Record, Lend}
use Rattle.plainsession.specs.declared.table.Word.{Word}
use Rattle.plainsession.specs.declared.table.Word.TheVariants.{Calls as CallsWord, Sum as SumWord, Changes as ChangesWord}
use Rattle.plainsession.specs.declared.table.Line.{Line}
use Rattle.plainsession.specs.declared.table.Line.TheVariants.{Calls, Sum, Changes}
use Rattle.std.specs.Prelude.{Option, Some, None, Result, Ok, Err}

pub word_short : (c : Change) → length (change_word c) ≤ 6
word_short Memory = omega arith
word_short Rights = omega arith
word_short Record = omega arith
word_short Lend = omega arith

-- ---- a word that the table names as a change is spelled so
abbrev Spelled : List ℕ → Option Word → Type 0
Spelled w (Some (CallsWord c)) = Unit {0}
Spelled w (Some SumWord) = Unit {0}
Spelled w (Some (ChangesWord c)) = w ≡ change_word c
Spelled w None = Unit {0}

word_spelled : (w : List ℕ) → Spelled w (word_of w)
unfolding word_of
word_spelled w =
    own_spelled (Spelled w) (λ c. Some (CallsWord c)) (call_of w) (own_of w) (λ _. tt)
    (spelled (Spelled w) None w own (λ _. tt, (λ e. e, (λ e. e, (λ e. e, (λ e. e, tt))))) tt)

-- ---- the line
module _ (l : List ℕ) where
  abbrev LineSpelled : Result Line ℕ → Type 0
  LineSpelled (Ok (Calls c n)) = Unit {0}
  LineSpelled (Ok Sum) = Unit {0}
  LineSpelled (Ok (Changes c n)) = take (index_of 32 l) l ≡ change_word c
  LineSpelled (Err column) = Unit {0}

  of_word : (z : Option Word) (at : ℕ) → Spelled (take (index_of 32 l) l) z → LineSpelled (by_word z l at)
  unfolding by_word
  of_word (Some (CallsWord c)) at h = line_by_parts LineSpelled (λ n. Ok (Calls c n)) Err (parts_of l at (call_row c)) (λ _. tt) (λ _. tt)
  of_word (Some SumWord) at h = line_by_parts LineSpelled (λ _. Ok Sum) Err (parts_of l at Alone) (λ _. tt) (λ _. tt)
  of_word (Some (ChangesWord c)) at h = line_by_parts LineSpelled (λ n. Ok (Changes c n)) Err (parts_of l at (change_row c)) (λ _. h) (λ _. tt)
  of_word None at h = tt

  line_spelled : LineSpelled (line_of l)
  unfolding line_of
  line_spelled = of_word (word_of (take (index_of 32 l) l)) (index_of 32 l) (word_spelled (take (index_of 32 l) l))

  -- of what the reader answered
  change_spelled : {z : Result Line ℕ} → z ≡ line_of l → (c : Change) (n : Numbers) → z ≡ Ok (Changes c n) → take (index_of 32 l) l ≡ change_word c
  change_spelled e c n g = subst LineSpelled (sym e ∙ g) line_spelled

  -- up to the first space, as it is searched for
  pub word_spelled_at : {z : Result Line ℕ} → z ≡ line_of l → (c : Change) (n : Numbers) → z ≡ Ok (Changes c n)
      → (k : ℕ) → k ≡ 0 + index_of 32 (slice 0 (length l) l) → take k l ≡ change_word c
  word_spelled_at e c n g k h = ap (λ (i : ℕ). take i l) (word_end l k h) ∙ change_spelled e c n g
