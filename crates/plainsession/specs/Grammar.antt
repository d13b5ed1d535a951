-- The grammar of a script of `plain`: what a line asks for.
use Rattle.std.specs.Prelude.{List, ℕ, take, Option, Some, None, Result, Ok, Err}
use Rattle.text.specs.Scan.{index_of}
use Rattle.script.specs.Table.{call_row}
use Rattle.script.specs.Parts.{parts_of, line_by}
use Rattle.script.specs.declared.table.Row.TheVariants.{Alone}
use Rattle.plainsession.specs.Table.{change_row, word_of}
use Rattle.plainsession.specs.declared.table.Word.{Word}
use Rattle.plainsession.specs.declared.table.Word.TheVariants.{Calls as CallsWord, Sum as SumWord, Changes as ChangesWord}
use Rattle.plainsession.specs.declared.table.Line.{Line}
use Rattle.plainsession.specs.declared.table.Line.TheVariants.{Calls, Sum, Changes}

-- the line by its word, which ends at a place; one that is not in the table makes it bad at its first column
unfoldable pub by_word : Option Word → List ℕ → ℕ → Result Line ℕ
by_word (Some (CallsWord c)) l at = line_by (λ n. Ok (Calls c n)) Err (parts_of l at (call_row c))
by_word (Some SumWord) l at = line_by (λ _. Ok Sum) Err (parts_of l at Alone)
by_word (Some (ChangesWord c)) l at = line_by (λ n. Ok (Changes c n)) Err (parts_of l at (change_row c))
by_word None l at = Err 1

-- the word is what stands before the first space
unfoldable pub line_of : List ℕ → Result Line ℕ
line_of l = by_word (word_of (take (index_of 32 l) l)) l (index_of 32 l)
