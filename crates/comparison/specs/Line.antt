-- What a line makes of what stands: each call is made on both machines, and they are compared.
use Rattle.std.specs.Prelude.{◌&&◌, List, ◌++◌, ℕ, drop, Result, Ok, Err, if◌then◌else◌}
use Rattle.model.specs.Bytes.{same}
use Rattle.text.specs.Reading.{bytes_of}
use Rattle.answerlines.specs.Lines.{bad_text}
use Rattle.talk.specs.Script.{Spoken, Speech}
use Rattle.script.specs.declared.parts.Numbers.{Numbers}
use Rattle.script.specs.declared.Call.{Call}
use Rattle.plainsession.specs.Answers as plain
use Rattle.comparison.specs.Answers.{paged_answered}
use Rattle.comparison.specs.Words.{differ_text}
use Rattle.comparison.specs.Both.{Both, agree}
use Rattle.comparison.specs.Desk.{Desk, going, over}
use Rattle.comparison.specs.Grammar.{asked_of}
use Rattle.comparison.specs.declared.asked.Asked.{Asked}

-- the plain engine's answer, beside the paged machine's; where they differ, or what stands then does, "`differ LINE` behind the answer"
abbrev pub compared : ℕ → Both → List ℕ → List ℕ → Spoken Desk
compared number b mine other = if same mine other && agree b then going number b mine else over number b (mine ++ differ_text number)

-- what a call leaves of both
abbrev pub both_after : Call → Numbers → List ℕ → Both → Both
both_after c n bytes b = record { paged = (paged_answered c n bytes b.paged).state; plain = (plain.answered c n bytes b.plain).state }

-- a call, by what is made of both answers
abbrev pub called_by : (ℕ → Both → List ℕ → List ℕ → Spoken Desk) → Call → Numbers → List ℕ → ℕ → Both → Spoken Desk
called_by judged c n bytes number b =
    judged number (both_after c n bytes b) (plain.answered c n bytes b.plain).text (paged_answered c n bytes b.paged).text

abbrev pub called : Call → Numbers → List ℕ → ℕ → Both → Spoken Desk
called c n bytes number b = called_by compared c n bytes number b

-- the n-th line of the script; "`bad LINE COLUMN` ends it too"
unfoldable pub spoken_by : (ℕ → Both → List ℕ → List ℕ → Spoken Desk) → Result Asked ℕ → ℕ → List ℕ → Both → Spoken Desk
spoken_by judged (Ok a) number l b = called_by judged a.call a.numbers (bytes_of (drop a.numbers.hex l)) number b
spoken_by judged (Err column) number l b = over number b (bad_text number column)

unfoldable pub spoken : Speech Desk
spoken number l d = spoken_by compared (asked_of l) number l d.machines
