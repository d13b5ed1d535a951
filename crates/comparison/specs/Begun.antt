-- The beginning: the image is read, and loaded into both machines.
use Rattle.std.specs.Prelude.{List, ℕ, eqb, if◌then◌else◌}
use Rattle.model.specs.State.{Memory}
use Rattle.model.specs.Answers.{ImageNumbers}
use Rattle.model.specs.Calls.{StateOutcome}
use Rattle.model.specs.Image.{ptl_of, start_of, frames_of, image_by, load_call}
use Rattle.model.specs.Console.{refused_line}
use Rattle.plainmodel.specs.Load as plain
use Rattle.answerlines.specs.Lines.{loaded_text}
use Rattle.talk.specs.Script.{Spoken}
use Rattle.session.specs.Series.{admits}
use Rattle.comparison.specs.Desk.{Desk, going, over}

-- what the file's numbers are, or its refusal: "7 by its length alone", "7 after 5 and 6"
abbrev pub admitted : List ℕ → ℕ → ImageNumbers
admitted file pages = (image_by (admits file pages) file).numbers

-- ---- loading: `loaded PTL START FRAMES`, or `refused N` and no line of the script is done
abbrev pub loaded_into : List ℕ → StateOutcome → plain.LoadOutcome → Spoken Desk
loaded_into file p q =
    if eqb p.verdict.refused 0
    then going 0 (record { paged = p.state; plain = q.state }) (loaded_text (ptl_of file) (start_of file) (frames_of file))
    else over 0 (record { paged = p.state; plain = q.state }) (refused_line p.verdict.refused)

unfoldable pub begun : List ℕ → Memory → List ℕ → List ℕ → Spoken Desk
begun file m bytes rights = loaded_into file (load_call file m) (plain.load_call file bytes rights)
