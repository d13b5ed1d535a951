-- What stands between two lines, and what a line makes of it.
use Rattle.std.specs.Prelude.{Bool, List, ◌++◌, ℕ, ◌+◌, leb, take, drop, Result, Ok, Err, if◌then◌else◌}
use Rattle.laws.specs.Over.{over}
use Rattle.model.specs.State.{State, state}
use Rattle.model.specs.Pages.{virtual, entry_at}
use Rattle.model.specs.Table.{set_spare}
use Rattle.model.specs.declared.Shape.{Shape}
use Rattle.model.specs.declared.VirtualPage.{VirtualPage}
use Rattle.model.specs.declared.Machine.{Machine}
use Rattle.record.specs.Words.{with_word}
use Rattle.text.specs.Reading.{bytes_of}
use Rattle.answerlines.specs.Lines.{word_line, bad_text}
use Rattle.talk.specs.Script as talk
use Rattle.talk.specs.Script.{Spoken, onward, ending}
use Rattle.script.specs.Grammar.{line_of}
use Rattle.script.specs.Vocabulary.{main_word, swap_word, record_word, lend_word, spare_word}
use Rattle.script.specs.declared.parts.Numbers.{Numbers}
use Rattle.script.specs.declared.Call.{Call}
use Rattle.script.specs.declared.Show.{Show}
use Rattle.script.specs.declared.Change.{Change}
use Rattle.script.specs.declared.Change.TheVariants.{Main, Swap, Record, Lend, Spare}
use Rattle.script.specs.declared.Line.{Line}
use Rattle.script.specs.declared.Line.TheVariants.{Calls, Shows, Changes}
use Rattle.session.specs.Answers.{Answer, answered, show_text}
use Rattle.session.specs.declared.Standing.{Standing}
use Rattle.session.specs.declared.Told.{Told}

-- the record, how many bytes of each buffer are lent, and the buffers
pub record Desk : Type 0 where
  pub standing : Standing
  pub main : List ℕ
  pub swap : List ℕ

abbrev pub desk : Standing → List ℕ → List ℕ → Desk
desk s main swap = record { standing = s; main = main; swap = swap }

abbrev pub standing : Machine → ℕ → ℕ → Standing
standing m a s = record { machine = m; main = a; swap = s }

abbrev pub with_standing : Desk → Standing → Desk
with_standing d s = desk s d.main d.swap

-- what a call sees of it
abbrev pub lent : Desk → State
lent d = state d.standing.machine (take d.standing.main d.main) (take d.standing.swap d.swap)

-- the lent bytes as a call leaves them, and those behind them as they were
abbrev pub handed_back : Desk → State → Desk
handed_back d p =
    desk (standing p.machine d.standing.main d.standing.swap)
    (p.memory.main ++ drop d.standing.main d.main) (p.memory.swap ++ drop d.standing.swap d.swap)

-- ---- what a line leaves
abbrev pub called : Desk → Answer → Spoken Desk
called d a = onward (handed_back d a.state) a.text

-- the changes: raw bytes into a buffer, a word of the record, how much is lent, the spare bits of an entry
abbrev pub change_word : Change → List ℕ
change_word Main = main_word
change_word Swap = swap_word
change_word Record = record_word
change_word Lend = lend_word
change_word Spare = spare_word

-- the entry of a page with v in its spare bits; a word that does not lie in the lent bytes stays untouched
unfoldable pub set_spare_within : ℕ → Shape → List ℕ → VirtualPage → ℕ → List ℕ
set_spare_within lent s main x v = if leb (entry_at s x + 4) lent then set_spare s main x v else main

unfoldable pub changed : Change → Numbers → List ℕ → Desk → Desk
changed Main n bytes d = desk d.standing (over n.first bytes d.main) d.swap
changed Swap n bytes d = desk d.standing d.main (over n.first bytes d.swap)
changed Record n bytes d = with_standing d (standing (with_word d.standing.machine n.first n.second) d.standing.main d.standing.swap)
changed Lend n bytes d = with_standing d (standing d.standing.machine n.first n.second)
changed Spare n bytes d =
    desk d.standing (set_spare_within d.standing.main d.standing.machine.shape d.main (virtual n.first) n.second) d.swap

-- the n-th line of the script; `bad LINE COLUMN`, "and the program ends"
abbrev pub said_to : Call → Numbers → List ℕ → Desk → Spoken Desk
said_to c n bytes d = called d (answered c n bytes (lent d))

abbrev pub shown_to : Show → Desk → Spoken Desk
shown_to x d = onward d (show_text x (lent d))

abbrev pub changed_by : Change → Numbers → List ℕ → Desk → Spoken Desk
changed_by c n bytes d = onward (changed c n bytes d) (word_line (change_word c))

abbrev pub bad_at : ℕ → ℕ → Desk → Spoken Desk
bad_at number column d = ending d (bad_text number column)

unfoldable pub spoken_by : Result Line ℕ → ℕ → List ℕ → Desk → Spoken Desk
spoken_by (Ok (Calls c n)) number l d = said_to c n (bytes_of (drop n.hex l)) d
spoken_by (Ok (Shows x)) number l d = shown_to x d
spoken_by (Ok (Changes c n)) number l d = changed_by c n (bytes_of (drop n.hex l)) d
spoken_by (Err column) number l d = bad_at number column d

unfoldable pub spoken : ℕ → List ℕ → Desk → Spoken Desk
spoken number l d = spoken_by (line_of l) number l d

-- ---- what code hands back
abbrev pub told_of : Machine → ℕ → ℕ → ℕ → Bool → Told
told_of m a s filled on = record { standing = standing m a s; filled = filled; goes_on = on }

-- it says what a line leaves: the desk, the answer in the buffer, and whether the script goes on
abbrev pub Tells : List ℕ → ℕ → List ℕ → Told → List ℕ → List ℕ → Spoken Desk → Type 0
Tells before at after r main swap s = talk.Tells before at after r.filled r.goes_on (desk r.standing main swap) s
