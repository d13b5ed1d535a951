-- What stands between two lines, and what a line makes of it.
use Rattle.std.specs.Prelude.{Bool, List, ◌++◌, ℕ, take, drop, Result, Ok, Err}
use Rattle.laws.specs.Over.{over}
use Rattle.text.specs.Reading.{bytes_of}
use Rattle.answerlines.specs.Lines.{word_line, bad_text}
use Rattle.talk.specs.Script as talk
use Rattle.talk.specs.Script.{Spoken, onward, ending}
use Rattle.script.specs.Vocabulary.{record_word, lend_word}
use Rattle.script.specs.declared.parts.Numbers.{Numbers}
use Rattle.script.specs.declared.Call.{Call}
use Rattle.plainmodel.specs.State.{PlainState, plain_state}
use Rattle.plainmodel.specs.declared.Plain.{Plain}
use Rattle.plainrecord.specs.Words.{with_word}
use Rattle.plainsession.specs.Table.{memory_word, rights_word}
use Rattle.plainsession.specs.Grammar.{line_of}
use Rattle.plainsession.specs.Answers.{Answer, answered, sum_text}
use Rattle.plainsession.specs.declared.table.Change.{Change}
use Rattle.plainsession.specs.declared.table.Change.TheVariants.{Memory, Rights, Record, Lend}
use Rattle.plainsession.specs.declared.table.Line.{Line}
use Rattle.plainsession.specs.declared.table.Line.TheVariants.{Calls, Sum, Changes}
use Rattle.plainsession.specs.declared.Standing.{Standing}
use Rattle.plainsession.specs.declared.Told.{Told}

-- the record, how many bytes of each buffer are lent, and the buffers
pub record Desk : Type 0 where
  pub standing : Standing
  pub memory : List ℕ
  pub rights : List ℕ

abbrev pub desk : Standing → List ℕ → List ℕ → Desk
desk s memory rights = record { standing = s; memory = memory; rights = rights }

abbrev pub standing : Plain → ℕ → ℕ → Standing
standing m a r = record { plain = m; memory = a; rights = r }

abbrev pub with_standing : Desk → Standing → Desk
with_standing d s = desk s d.memory d.rights

-- what a call sees of it
abbrev pub lent : Desk → PlainState
lent d = plain_state d.standing.plain (take d.standing.memory d.memory) (take d.standing.rights d.rights)

-- the lent bytes as a call leaves them, and those behind them as they were
abbrev pub handed_back : Desk → PlainState → Desk
handed_back d p =
    desk (standing p.plain d.standing.memory d.standing.rights)
    (p.bytes ++ drop d.standing.memory d.memory) (p.rights ++ drop d.standing.rights d.rights)

-- ---- what a line leaves
abbrev pub called : Desk → Answer → Spoken Desk
called d a = onward (handed_back d a.state) a.text

-- the changes: raw bytes into a buffer, a word of the record, how much is lent
abbrev pub change_word : Change → List ℕ
change_word Memory = memory_word
change_word Rights = rights_word
change_word Record = record_word
change_word Lend = lend_word

unfoldable pub changed : Change → Numbers → List ℕ → Desk → Desk
changed Memory n bytes d = desk d.standing (over n.first bytes d.memory) d.rights
changed Rights n bytes d = desk d.standing d.memory (over n.first bytes d.rights)
changed Record n bytes d = with_standing d (standing (with_word d.standing.plain n.first n.second) d.standing.memory d.standing.rights)
changed Lend n bytes d = with_standing d (standing d.standing.plain n.first n.second)

-- the n-th line of the script; `bad LINE COLUMN`, "and the program ends"
abbrev pub said_to : Call → Numbers → List ℕ → Desk → Spoken Desk
said_to c n bytes d = called d (answered c n bytes (lent d))

abbrev pub summed : Desk → Spoken Desk
summed d = onward d (sum_text (lent d))

abbrev pub changed_by : Change → Numbers → List ℕ → Desk → Spoken Desk
changed_by c n bytes d = onward (changed c n bytes d) (word_line (change_word c))

abbrev pub bad_at : ℕ → ℕ → Desk → Spoken Desk
bad_at number column d = ending d (bad_text number column)

unfoldable pub spoken_by : Result Line ℕ → ℕ → List ℕ → Desk → Spoken Desk
spoken_by (Ok (Calls c n)) number l d = said_to c n (bytes_of (drop n.hex l)) d
spoken_by (Ok Sum) number l d = summed d
spoken_by (Ok (Changes c n)) number l d = changed_by c n (bytes_of (drop n.hex l)) d
spoken_by (Err column) number l d = bad_at number column d

unfoldable pub spoken : ℕ → List ℕ → Desk → Spoken Desk
spoken number l d = spoken_by (line_of l) number l d

-- ---- what code hands back
abbrev pub told_of : Plain → ℕ → ℕ → ℕ → Bool → Told
told_of m a r filled on = record { standing = standing m a r; filled = filled; goes_on = on }

-- it says what a line leaves: the desk, the answer in the buffer, and whether the script goes on
abbrev pub Tells : List ℕ → ℕ → List ℕ → Told → List ℕ → List ℕ → Spoken Desk → Type 0
Tells before at after t memory rights s = talk.Tells before at after t.filled t.goes_on (desk t.standing memory rights) s
