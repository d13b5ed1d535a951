-- The sections of a file, by the ptl that one has read, and by the answer: total, so that code may ask for them by any.
use Rattle.std.specs.Prelude.{◌&&◌, List, ℕ, ◌+◌, ◌-◌, ◌*◌, leb, length, if◌then◌else◌, Err, Ok}
use Rattle.model.specs.Answers.{ImageAnswer}
use Rattle.model.specs.Parts.{Part, part_at, no_part}

-- the n bytes that begin `back` bytes before the end; none where the file has no such part
unfoldable pub section : List ℕ → ℕ → ℕ → Part
section l back n = if leb n back && leb back (length l) then part_at l (length l - back) n else no_part

abbrev pub rights_by : List ℕ → ℕ → Part
rights_by l ptl = section l (24 + ptl) ptl

abbrev pub pages_by : List ℕ → ℕ → Part
pages_by l ptl = section l (24 + ptl + 4096 * ptl) (4096 * ptl)

-- "an empty part for each part" of a refused image
abbrev pub rights_by_answer : List ℕ → ImageAnswer → Part
rights_by_answer l (Ok w) = rights_by l w.ptl
rights_by_answer l (Err r) = no_part

abbrev pub pages_by_answer : List ℕ → ImageAnswer → Part
pages_by_answer l (Ok w) = pages_by l w.ptl
pages_by_answer l (Err r) = no_part
