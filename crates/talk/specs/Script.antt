-- A script: its lines in turn. What stands between two lines, the desk, is of any type D; a program says what a line makes of it.
use Rattle.std.specs.Prelude.{Bool, true, false, ◌≡◌, List, [], ◌∷◌, ◌++◌, ℕ, suc, eqb, if◌then◌else◌}
use Rattle.text.specs.Text.{Appended}

-- ---- the lines of a script: each ends with a newline, the last one may lack it
abbrev pub before : ℕ → List (List ℕ) → List (List ℕ)
before c [] = (c ∷ []) ∷ []
before c (l ∷ ls) = (c ∷ l) ∷ ls

unfoldable pub lines_of : List ℕ → List (List ℕ)
lines_of [] = []
lines_of (c ∷ cs) = if eqb c 10 then [] ∷ lines_of cs else before c (lines_of cs)

-- ---- what a line leaves: the desk, its answer, and whether the script goes on
pub record Spoken (D : Type 0) : Type 0 where
  pub desk : D
  pub text : List ℕ
  pub goes_on : Bool

abbrev pub onward : {D : Type 0} → D → List ℕ → Spoken D
onward d text = record { desk = d; text = text; goes_on = true }

abbrev pub ending : {D : Type 0} → D → List ℕ → Spoken D
ending d text = record { desk = d; text = text; goes_on = false }

-- code hands back a desk, the place behind the answer and whether the script goes on: it says what a line leaves
pub record Tells {D : Type 0} (before : List ℕ) (at : ℕ) (after : List ℕ) (filled : ℕ) (on : Bool) (d : D) (s : Spoken D) : Type 0 where
  pub desk_is : d ≡ s.desk
  pub text : Appended before at after filled s.text
  pub goes : on ≡ s.goes_on

-- ---- all that is said to the lines, and what stands at the end; n lines came before, and a bad line is the last
pub record Talk (D : Type 0) : Type 0 where
  pub text : List ℕ
  pub desk : D

abbrev pub behind : {D : Type 0} → List ℕ → Talk D → Talk D
behind text t = record { text = text ++ t.text; desk = t.desk }

-- the n-th line of a script, and what it makes of a desk
abbrev pub Speech : Type 0 → Type 0
Speech D = ℕ → List ℕ → D → Spoken D

unfoldable pub talk : {D : Type 0} → Speech D → ℕ → D → List (List ℕ) → Talk D
talk spoken n d [] = record { text = []; desk = d }
talk spoken n d (l ∷ ls) =
    if (spoken (suc n) l d).goes_on then behind (spoken (suc n) l d).text (talk spoken (suc n) (spoken (suc n) l d).desk ls)
    else record { text = (spoken (suc n) l d).text; desk = (spoken (suc n) l d).desk }

-- behind what is said first, where the script is done then
abbrev pub talk_after : {D : Type 0} → Speech D → Spoken D → List ℕ → Talk D
talk_after spoken s script =
    if s.goes_on then behind s.text (talk spoken 0 s.desk (lines_of script)) else record { text = s.text; desk = s.desk }
