-- A stretch of a script.
use Rattle.std.specs.Prelude.{List, ℕ}
use Rattle.talk.specs.Stretch as talk
use Rattle.talk.specs.Stretch.{Point, point}
use Rattle.session.specs.Desk.{Desk, desk, spoken}
use Rattle.session.specs.declared.Stretch.{Stretch}

-- how far the script is done
abbrev pub reached : Stretch → List ℕ → List ℕ → Point Desk
reached s main swap = point s.number (desk s.standing main swap) s.place

-- what stands in the buffer and what is still to be said are together what was to be said; at least one line is done, where one is left
abbrev pub Goes : List ℕ → Stretch → List ℕ → List ℕ → List ℕ → List ℕ → Stretch → List ℕ → List ℕ → Type 0
Goes before from main swap script after r main' swap' =
    talk.Goes spoken script before (reached from main swap) after (reached r main' swap') r.filled
