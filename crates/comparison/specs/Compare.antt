-- The program `compare`: what it writes for an image, a number of main pages and a script.
use Rattle.std.specs.Prelude.{Bool, true, ◌≡◌, List, [], ◌++◌, ℕ, ◌*◌, replicate, if◌then◌else◌, Ok, Err}
use Rattle.model.specs.State.{memory}
use Rattle.model.specs.Answers.{refusal_number, Verdict}
use Rattle.model.specs.Image.{ptl_of}
use Rattle.model.specs.Console.{refused_line}
use Rattle.talk.specs.Script.{Spoken, Talk, Speech, talk_after}
use Rattle.talk.specs.Stretch.{point, joined, Stretches}
use Rattle.session.specs.Series.{admits}
use Rattle.comparison.specs.Words.{same_text}
use Rattle.comparison.specs.Desk.{Desk}
use Rattle.comparison.specs.Begun.{begun}
use Rattle.comparison.specs.Line.{spoken}

-- at the script's end `same LINES`, where no line has ended it
abbrev pub closing : Bool → ℕ → List ℕ
closing on n = if on then same_text n else []

abbrev pub closed : Talk Desk → List ℕ
closed t = t.text ++ closing t.desk.goes_on t.desk.lines

-- lent are MAIN_PAGES pages of main memory, swap and a plain memory of as many pages as the image has, and a rights byte for each;
-- all are zeros at first
abbrev pub begun_with : List ℕ → ℕ → Spoken Desk
begun_with file pages =
    begun file (memory (replicate (4096 * pages) 0) (replicate (4096 * ptl_of file) 0)) (replicate (4096 * ptl_of file) 0)
    (replicate (ptl_of file) 0)

-- the whole text, by what is said to a line
abbrev pub text_by : Speech Desk → Verdict → List ℕ → ℕ → List ℕ → List ℕ
text_by speech (Ok tt) file pages script = closed (talk_after speech (begun_with file pages) script)
text_by speech (Err r) file pages script = refused_line (refusal_number r)

unfoldable pub compare_text : List ℕ → ℕ → List ℕ → List ℕ
compare_text file pages script = text_by spoken (admits file pages) file pages script

-- the same, piece by piece: all that the program writes for an image that is loaded is the definition's
abbrev pub WholeText : Type 0
WholeText = (file : List ℕ) (pages : ℕ) (script : List ℕ) (ts : List (List ℕ)) (last : Desk)
    → admits file pages ≡ Ok tt → (begun_with file pages).goes_on ≡ true
    → Stretches spoken script (point 0 (begun_with file pages).desk 0) ts last
    → compare_text file pages script ≡ (begun_with file pages).text ++ (joined ts ++ closing last.goes_on last.lines)
