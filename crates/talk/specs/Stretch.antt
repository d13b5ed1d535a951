-- The same piece by piece: a stretch of a script is done, then the next one, to the script's end.
use Rattle.std.specs.Prelude.{true, ◌≡◌, List, [], ◌∷◌, ◌++◌, ℕ, ◌≤◌, ◌<◌, length, take, drop}
use Rattle.text.specs.Text.{Appended}
use Rattle.talk.specs.Script.{lines_of, Spoken, Talk, behind, Speech, talk, talk_after}

-- ---- how far a script is done: so many lines, the desk that they leave, and the place of the next line
pub record Point (D : Type 0) : Type 0 where
  pub number : ℕ
  pub desk : D
  pub place : ℕ

abbrev pub point : {D : Type 0} → ℕ → D → ℕ → Point D
point n d p = record { number = n; desk = d; place = p }

-- what is still to be said
abbrev pub on_from : {D : Type 0} → Speech D → List ℕ → Point D → Talk D
on_from spoken script q = talk spoken q.number q.desk (lines_of (drop q.place script))

-- ---- a stretch: what stands in the buffer and what is still to be said are together what was to be said
pub record Goes {D : Type 0} (spoken : Speech D) (script before : List ℕ) (from : Point D) (after : List ℕ) (to : Point D) (filled : ℕ) : Type 0 where
  pub text : Appended before 0 after filled (take filled after)
  pub talks : on_from spoken script from ≡ behind (take filled after) (on_from spoken script to)
  -- at least one line is done, where one is left
  pub moves : from.place < length script → from.place < to.place

-- ---- behind the beginning each stretch as `Goes` has it, one after another to the script's end
abbrev pub joined : List (List ℕ) → List ℕ
joined [] = []
joined (t ∷ ts) = t ++ joined ts

-- the texts of the stretches, and what stands at the end
unfoldable pub Stretches : {D : Type 0} → Speech D → List ℕ → Point D → List (List ℕ) → D → Type 0
Stretches spoken script q [] last = (length script ≤ q.place) × (q.desk ≡ last)
Stretches {D = D} spoken script q (t ∷ ts) last =
    (r : Point D) × (on_from spoken script q ≡ behind t (on_from spoken script r)) × Stretches spoken script r ts last

-- all that a program writes, and what it leaves, are the definition's, where it begins with s
abbrev pub WholeTalk : {D : Type 0} → Speech D → Spoken D → Type 0
WholeTalk {D = D} spoken s = (script : List ℕ) (ts : List (List ℕ)) (last : D)
    → s.goes_on ≡ true → Stretches spoken script (point 0 s.desk 0) ts last
    → talk_after spoken s script ≡ record { text = s.text ++ joined ts; desk = last }
