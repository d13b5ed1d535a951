-- The table of the words of `plain`: behind the calls, which the programs have in common, its own.
use Rattle.std.specs.Prelude.{List, [], ◌∷◌, ℕ, Option, Some, None}
use Rattle.plainrecord.specs.Words.{last_word}
use Rattle.script.specs.Vocabulary.{sum_word, record_word, lend_word}
use Rattle.script.specs.Table.{any, Named, named, first_fit, call_of, or_own}
use Rattle.script.specs.declared.table.Row.{Row}
use Rattle.script.specs.declared.table.Row.TheVariants.{Two, HexWithin}
use Rattle.plainsession.specs.declared.table.Change.{Change}
use Rattle.plainsession.specs.declared.table.Change.TheVariants.{Memory, Rights, Record, Lend}
use Rattle.plainsession.specs.declared.table.Word.{Word}
use Rattle.plainsession.specs.declared.table.Word.TheVariants.{Calls, Sum, Changes}

-- `memory`
abbrev pub memory_word : List ℕ
memory_word = 109 ∷ 101 ∷ 109 ∷ 111 ∷ 114 ∷ 121 ∷ []

-- `rights`
abbrev pub rights_word : List ℕ
rights_word = 114 ∷ 105 ∷ 103 ∷ 104 ∷ 116 ∷ 115 ∷ []

-- the memory's buffer has 80 pages, that of the rights a byte for each
abbrev pub memory_size : ℕ
memory_size = 327680

abbrev pub rights_size : ℕ
rights_size = 80

-- ---- which parts stand behind a word
abbrev pub change_row : Change → Row
change_row Memory = HexWithin memory_size  -- `memory AT HEX`
change_row Rights = HexWithin rights_size  -- `rights AT HEX`
change_row Record = Two last_word any  -- `record I V`
change_row Lend = Two memory_size rights_size  -- `lend M R`

-- ---- what a word names
abbrev pub own : List (Named (Option Word))
own =
    named sum_word (Some Sum) ∷ named memory_word (Some (Changes Memory)) ∷ named rights_word (Some (Changes Rights)) ∷ named record_word (Some (Changes Record))
    ∷ named lend_word (Some (Changes Lend)) ∷ []

abbrev pub own_of : List ℕ → Option Word
own_of w = first_fit None w own

unfoldable pub word_of : List ℕ → Option Word
word_of w = or_own (λ c. Some (Calls c)) (call_of w) (own_of w)
