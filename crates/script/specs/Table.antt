-- The table of a script's words: what each names, and which parts stand behind it.
use Rattle.std.specs.Prelude.{List, [], ◌∷◌, ℕ, Option, Some, None, if◌then◌else◌}
use Rattle.record.specs.Words.{last_word}
use Rattle.model.specs.Bytes.{same}
use Rattle.script.specs.Vocabulary.{run_word, read_word, write_word, view_word, reply_word, registers_word, frames_word, sum_word, main_word, swap_word, record_word, lend_word, spare_word}
use Rattle.script.specs.declared.Call.{Call}
use Rattle.script.specs.declared.Call.TheVariants.{Run, Read, Write, View, Reply, Registers}
use Rattle.script.specs.declared.Show.TheVariants.{Frames, Sum}
use Rattle.script.specs.declared.Change.{Change}
use Rattle.script.specs.declared.Change.TheVariants.{Main, Swap, Record, Lend, Spare}
use Rattle.script.specs.declared.table.Word.{Word}
use Rattle.script.specs.declared.table.Word.TheVariants.{Calls, Shows, Changes}
use Rattle.script.specs.declared.table.Row.{Row}
use Rattle.script.specs.declared.table.Row.TheVariants.{Alone, One, Two, Hex, HexWithin}

-- numbers are "below 2^32"; the buffers have 64 and 80 pages
abbrev pub any : ℕ
any = 4294967295

abbrev pub main_size : ℕ
main_size = 262144

abbrev pub swap_size : ℕ
swap_size = 327680

-- ---- which parts stand behind a word
abbrev pub call_row : Call → Row
call_row Run = One any  -- `run N`
call_row Read = Two any 512  -- `read VA LEN`
call_row Write = Hex any  -- `write VA HEX`
call_row View = One any  -- `view PAGE`
call_row Reply = Two any any  -- `reply I V`
call_row Registers = Alone

abbrev pub change_row : Change → Row
change_row Main = HexWithin main_size  -- `main AT HEX`
change_row Swap = HexWithin swap_size  -- `swap AT HEX`
change_row Record = Two last_word any  -- `record I V`
change_row Lend = Two main_size swap_size  -- `lend M S`
change_row Spare = Two 1023 511  -- `spare PAGE VALUE`

-- ---- what a word names: the first of a list that it is
pub record Named (A : Type 0) : Type 0 where
  pub word : List ℕ
  pub names : A

abbrev pub named : {A : Type 0} → List ℕ → A → Named A
named w n = record { word = w; names = n }

unfoldable pub first_fit : {A : Type 0} → A → List ℕ → List (Named A) → A
first_fit none w [] = none
first_fit none w (n ∷ ns) = if same w n.word then n.names else first_fit none w ns

-- the calls, which the programs have in common
abbrev pub calls : List (Named (Option Call))
calls =
    named run_word (Some Run) ∷ named read_word (Some Read) ∷ named write_word (Some Write)
    ∷ named view_word (Some View) ∷ named reply_word (Some Reply) ∷ named registers_word (Some Registers) ∷ []

unfoldable pub call_of : List ℕ → Option Call
call_of w = first_fit None w calls

-- a call, or a program's own word
abbrev pub or_own : {A : Type 0} → (Call → A) → Option Call → A → A
or_own calls (Some c) own = calls c
or_own calls None own = own

-- the words that `series` has behind them
abbrev pub own : List (Named (Option Word))
own =
    named frames_word (Some (Shows Frames)) ∷ named sum_word (Some (Shows Sum)) ∷ named main_word (Some (Changes Main)) ∷ named swap_word (Some (Changes Swap))
    ∷ named record_word (Some (Changes Record)) ∷ named lend_word (Some (Changes Lend)) ∷ named spare_word (Some (Changes Spare)) ∷ []

abbrev pub own_of : List ℕ → Option Word
own_of w = first_fit None w own

unfoldable pub word_of : List ℕ → Option Word
word_of w = or_own (λ c. Some (Calls c)) (call_of w) (own_of w)
