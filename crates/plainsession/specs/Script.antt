-- A stretch of a script.
use Rattle.std.specs.Prelude.{List, ℕ}
use Rattle.talk.specs.Stretch as talk
use Rattle.talk.specs.Stretch.{Point, point}
use Rattle.plainsession.specs.Desk.{Desk, desk, spoken}
use Rattle.plainsession.specs.declared.Stretch.{Stretch}

-- how far the script is done
abbrev pub reached : Stretch → List ℕ → List ℕ → Point Desk
reached s memory rights = point s.number (desk s.standing memory rights) s.place

-- what stands in the buffer and what is still to be said are together what was to be said; at least one line is done, where one is left
abbrev pub Goes : List ℕ → Stretch → List ℕ → List ℕ → List ℕ → List ℕ → Stretch → List ℕ → List ℕ → Type 0
Goes before from memory rights script after r memory' rights' =
    talk.Goes spoken script before (reached from memory rights) after (reached r memory' rights') r.filled
