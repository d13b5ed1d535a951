-- The program never says `differ`: it writes what it would write if it compared nothing. The theorem is `never_differs` of proofs/Never.
use Rattle.std.specs.Prelude.{◌≡◌, List, ℕ}
use Rattle.talk.specs.Script.{Spoken, Speech}
use Rattle.session.specs.Series.{admits}
use Rattle.comparison.specs.Both.{Both}
use Rattle.comparison.specs.Desk.{Desk, going}
use Rattle.comparison.specs.Grammar.{asked_of}
use Rattle.comparison.specs.Line.{spoken_by}
use Rattle.comparison.specs.Compare.{text_by, compare_text}

-- each call is made on both machines, and the plain engine's answer taken as it is
abbrev pub taken : ℕ → Both → List ℕ → List ℕ → Spoken Desk
taken number b mine other = going number b mine

unfoldable pub uncompared : Speech Desk
uncompared number l d = spoken_by taken (asked_of l) number l d.machines

abbrev pub NeverDiffers : Type 0
NeverDiffers = (file : List ℕ) (pages : ℕ) (script : List ℕ)
    → compare_text file pages script ≡ text_by uncompared (admits file pages) file pages script
