-- What stands between two lines: both machines, how many lines are done, and whether the script goes on.
use Rattle.std.specs.Prelude.{Bool, true, false, List, ℕ}
use Rattle.model.specs.declared.Machine.{Machine}
use Rattle.plainmodel.specs.declared.Plain.{Plain}
use Rattle.talk.specs.Script as talk
use Rattle.talk.specs.Script.{Spoken, onward, ending}
use Rattle.comparison.specs.Both.{Both, both}
use Rattle.comparison.specs.declared.Standing.{Standing}
use Rattle.comparison.specs.declared.Told.{Told}

pub record Desk : Type 0 where
  pub machines : Both
  pub lines : ℕ
  pub goes_on : Bool

abbrev pub desk : Standing → List ℕ → List ℕ → List ℕ → List ℕ → Desk
desk s main swap bytes rights =
    record { machines = both s.machine main swap s.plain bytes rights; lines = s.lines; goes_on = s.goes_on }

-- what a line leaves, the n-th: the script goes on, or it is the last
abbrev pub going : ℕ → Both → List ℕ → Spoken Desk
going n b text = onward (record { machines = b; lines = n; goes_on = true }) text

abbrev pub over : ℕ → Both → List ℕ → Spoken Desk
over n b text = ending (record { machines = b; lines = n; goes_on = false }) text

-- ---- what code hands back
abbrev pub told_of : Machine → Plain → ℕ → Bool → ℕ → Told
told_of m p lines on filled = record { standing = record { machine = m; plain = p; lines = lines; goes_on = on }; filled = filled }

-- it says what a line leaves: the desk, the answer in the buffer, and whether the script goes on
abbrev pub Tells : List ℕ → ℕ → List ℕ → Told → Desk → Spoken Desk → Type 0
Tells before at after r d s = talk.Tells before at after r.filled r.standing.goes_on d s
