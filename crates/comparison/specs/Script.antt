-- A stretch of a script.
use Rattle.std.specs.Prelude.{List, ℕ}
use Rattle.talk.specs.Stretch as talk
use Rattle.talk.specs.Stretch.{Point, point}
use Rattle.comparison.specs.Desk.{Desk}
use Rattle.comparison.specs.Line.{spoken}

-- how far the script is done: the place of the next line
abbrev pub reached : Desk → ℕ → Point Desk
reached d place = point d.lines d place

-- what stands in the buffer and what is still to be said are together what was to be said; at least one line is done, where one is left
abbrev pub Goes : List ℕ → List ℕ → Point Desk → List ℕ → Point Desk → ℕ → Type 0
Goes script before from after to filled = talk.Goes spoken script before from after to filled
