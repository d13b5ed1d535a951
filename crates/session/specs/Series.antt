-- The program `series`: what it writes for an image, a number of main pages and a script.
use Rattle.std.specs.Prelude.{true, ◌≡◌, List, ◌++◌, ℕ, ◌*◌, eqb, leb, length, replicate, if◌then◌else◌, Ok, Err}
use Rattle.model.specs.Answers.{refusal_number, Verdict}
use Rattle.model.specs.Calls.{unless, StateOutcome}
use Rattle.model.specs.Image.{ptl_of, start_of, frames_of, image_verdict, zero_machine, load_call}
use Rattle.model.specs.Console.{refused_line}
use Rattle.model.specs.declared.Refusal.TheVariants.{Room}
use Rattle.model.specs.declared.Written.{Written}
use Rattle.answerlines.specs.Lines.{loaded_text}
use Rattle.talk.specs.Script.{Spoken, onward, ending, Talk, talk_after}
use Rattle.talk.specs.Stretch.{point, joined, Stretches}
use Rattle.session.specs.Desk.{Desk, desk, standing, lent, handed_back, spoken, Tells}
use Rattle.session.specs.declared.Told.{Told}

-- "A file longer than 263,256 bytes: `refused 7` by its length alone; MAIN_PAGES above 64: `refused 7` after 5 and 6."
unfoldable pub admits : List ℕ → ℕ → Verdict
admits file pages =
    if leb (length file) 263256 then image_verdict file (unless (leb pages 64) Room (Ok tt)) else Err Room

-- `refused N`, and no line of the script is done
abbrev pub turned_away : ℕ → List ℕ → List ℕ → Spoken Desk
turned_away n main swap = ending (desk (standing zero_machine 0 0) main swap) (refused_line n)

-- `loaded PTL START FRAMES`, where the image is loaded into the lent bytes
abbrev pub loaded_into : Desk → List ℕ → StateOutcome → Spoken Desk
loaded_into d file o =
    if eqb o.verdict.refused 0 then onward (handed_back d o.state) (loaded_text (ptl_of file) (start_of file) (frames_of file))
    else turned_away o.verdict.refused d.main d.swap

-- lent are MAIN_PAGES pages of main memory, and of swap as many as the image has
abbrev pub lent_for : List ℕ → ℕ → List ℕ → List ℕ → Desk
lent_for file pages main swap = desk (standing zero_machine (4096 * pages) (4096 * ptl_of file)) main swap

abbrev pub begun_by : Verdict → List ℕ → Desk → Spoken Desk
begun_by (Ok tt) file d = loaded_into d file (load_call file (lent d).memory)
begun_by (Err r) file d = turned_away (refusal_number r) d.main d.swap

unfoldable pub begun : List ℕ → ℕ → List ℕ → List ℕ → Spoken Desk
begun file pages main swap = begun_by (admits file pages) file (lent_for file pages main swap)

-- the whole text, and what stands at the end: both buffers are zeros at first, of 64 and of 80 pages
abbrev pub begun_with : List ℕ → ℕ → Spoken Desk
begun_with file pages = begun file pages (replicate 262144 0) (replicate 327680 0)

unfoldable pub series_talk : List ℕ → ℕ → List ℕ → Talk Desk
series_talk file pages script = talk_after spoken (begun_with file pages) script

-- the same, piece by piece: all that the program writes, and what it leaves, are the definition's
abbrev pub WholeText : Type 0
WholeText = (file : List ℕ) (pages : ℕ) (script : List ℕ) (ts : List (List ℕ)) (last : Desk)
    → (begun_with file pages).goes_on ≡ true
    → Stretches spoken script (point 0 (begun_with file pages).desk 0) ts last
    → series_talk file pages script ≡ record { text = (begun_with file pages).text ++ joined ts; desk = last }

-- what the reader answered for the file
pub record Read (file : List ℕ) (w : Written) : Type 0 where
  pub ptl_is : w.ptl ≡ ptl_of file
  pub start_is : w.start ≡ start_of file
  pub frames_is : w.frames ≡ frames_of file

-- what code hands back says that the image is refused, whatever stands in the buffers
abbrev pub TurnedAway : ℕ → List ℕ → List ℕ → Told → Type 0
TurnedAway n before after r = (main swap : List ℕ) → Tells before 0 after r main swap (turned_away n main swap)
