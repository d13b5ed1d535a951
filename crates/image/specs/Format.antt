-- The tests of `well_formed` by name, and the reader's answer as the enum that code hands back.
use Rattle.std.specs.Prelude.{Bool, List, [], ◌∷◌, ℕ, ◌+◌, ◌*◌, eqb, leb, length, get_or, Ok, Err}
use Rattle.model.specs.Answers.{Verdict, ImageAnswer}
use Rattle.model.specs.Choice.{passes, every_below}
use Rattle.model.specs.Image.{ptl_of, start_of, frames_of, image_verdict}
use Rattle.image.specs.declared.trailer.Trailer.{Trailer}

-- ptl, the two distances and the label's length
unfoldable pub distances_right : Trailer → ℕ → Bool
distances_right t n = passes (
    leb 1 t.ptl ∷ leb t.ptl 1024
    ∷ eqb t.rights (24 + t.ptl)
    ∷ eqb t.pages (24 + t.ptl + 4096 * t.ptl)
    ∷ leb t.pages n ∷ leb n (t.pages + 1024)
    ∷ [])

-- each rights byte
abbrev pub rights_right : List ℕ → Bool
rights_right rights = every_below (length rights) (λ x. leb (get_or rights x 0) 3)

abbrev pub answer_by : Verdict → List ℕ → ImageAnswer
answer_by (Ok tt) l = Ok (record { ptl = ptl_of l; start = start_of l; frames = frames_of l })
answer_by (Err r) l = Err r

unfoldable pub answer_of : List ℕ → ImageAnswer
answer_of l = answer_by (image_verdict l (Ok tt)) l
