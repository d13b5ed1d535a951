-- The program `plain`: what it writes for an image and a script.
use Rattle.std.specs.Prelude.{true, ◌≡◌, List, ◌++◌, ℕ, ◌*◌, eqb, leb, length, replicate, if◌then◌else◌}
use Rattle.model.specs.Answers.{refusal_number}
use Rattle.model.specs.Image.{ptl_of, start_of, frames_of}
use Rattle.model.specs.Console.{refused_line}
use Rattle.model.specs.declared.Refusal.TheVariants.{Room}
use Rattle.model.specs.declared.Written.{Written}
use Rattle.answerlines.specs.Lines.{loaded_text}
use Rattle.talk.specs.Script.{Spoken, onward, ending, Talk, talk_after}
use Rattle.talk.specs.Stretch.{point, joined, Stretches}
use Rattle.plainmodel.specs.Load.{zero_plain, LoadOutcome, load_call}
use Rattle.plainsession.specs.Desk.{Desk, desk, standing, lent, handed_back, spoken, Tells}
use Rattle.plainsession.specs.declared.Told.{Told}

-- `refused N`, and no line of the script is done
abbrev pub turned_away : ℕ → List ℕ → List ℕ → Spoken Desk
turned_away n memory rights = ending (desk (standing zero_plain 0 0) memory rights) (refused_line n)

-- `loaded PTL START FRAMES`, where the image is loaded into the lent bytes
abbrev pub loaded_into : Desk → List ℕ → LoadOutcome → Spoken Desk
loaded_into d file o =
    if eqb o.verdict.refused 0 then onward (handed_back d o.state) (loaded_text (ptl_of file) (start_of file) (frames_of file))
    else turned_away o.verdict.refused d.memory d.rights

-- lent are as many pages as the image has, and as many rights
abbrev pub lent_for : List ℕ → List ℕ → List ℕ → Desk
lent_for file memory rights = desk (standing zero_plain (4096 * ptl_of file) (ptl_of file)) memory rights

abbrev pub loaded : Desk → List ℕ → Spoken Desk
loaded d file = loaded_into d file (load_call file (lent d).bytes (lent d).rights)

-- "A file longer than 263,256 bytes: `refused 7` by its length alone."
unfoldable pub begun : List ℕ → List ℕ → List ℕ → Spoken Desk
begun file memory rights =
    if leb (length file) 263256 then loaded (lent_for file memory rights) file else turned_away (refusal_number Room) memory rights

-- the whole text, and what stands at the end: both buffers are zeros at first, of 80 pages and of 80 rights
abbrev pub begun_with : List ℕ → Spoken Desk
begun_with file = begun file (replicate 327680 0) (replicate 80 0)

unfoldable pub plain_talk : List ℕ → List ℕ → Talk Desk
plain_talk file script = talk_after spoken (begun_with file) script

-- the same, piece by piece: all that the program writes, and what it leaves, are the definition's
abbrev pub WholeText : Type 0
WholeText = (file script : List ℕ) (ts : List (List ℕ)) (last : Desk)
    → (begun_with file).goes_on ≡ true
    → Stretches spoken script (point 0 (begun_with file).desk 0) ts last
    → plain_talk file script ≡ record { text = (begun_with file).text ++ joined ts; desk = last }

-- what the reader answered for the file
pub record Read (file : List ℕ) (w : Written) : Type 0 where
  pub ptl_is : w.ptl ≡ ptl_of file
  pub start_is : w.start ≡ start_of file
  pub frames_is : w.frames ≡ frames_of file

-- what code hands back says that the image is refused, whatever stands in the buffers
abbrev pub TurnedAway : ℕ → List ℕ → List ℕ → Told → Type 0
TurnedAway n before after t = (memory rights : List ℕ) → Tells before 0 after t memory rights (turned_away n memory rights)
