-- The grammar of a script of `compare`: a call, with the parts that stand behind it, "and no other" word.
use Rattle.std.specs.Prelude.{List, ℕ, take, Option, Some, None, Result, Ok, Err}
use Rattle.text.specs.Scan.{index_of}
use Rattle.script.specs.Table.{call_row, call_of}
use Rattle.script.specs.Parts.{parts_of, line_by}
use Rattle.script.specs.declared.Call.{Call}
use Rattle.comparison.specs.declared.asked.Asked.{Asked}

-- the line by its word, which ends at a place; another word makes it bad at its first column
unfoldable pub by_word : Option Call → List ℕ → ℕ → Result Asked ℕ
by_word (Some c) l at = line_by (λ n. Ok (record { call = c; numbers = n })) Err (parts_of l at (call_row c))
by_word None l at = Err 1

-- the word is what stands before the first space
unfoldable pub asked_of : List ℕ → Result Asked ℕ
asked_of l = by_word (call_of (take (index_of 32 l) l)) l (index_of 32 l)
