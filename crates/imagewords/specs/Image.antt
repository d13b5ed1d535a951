-- What the reader's call leaves: the number that it returns and the lent answer afterwards, by the model's own definition of the reader.
-- An answer of another length than three words is refused 1, and nothing changes.
use Rattle.std.specs.Prelude.{◌≡◌, List, [], ◌∷◌, ℕ, eqb, length, if◌then◌else◌}
use Rattle.model.specs.Answers.{refusal_number, ImageNumbers}
use Rattle.model.specs.Image.{image_call}
use Rattle.model.specs.declared.Refusal.TheVariants.{Bound}

pub record Imaged : Type 0 where
  pub returned : ℕ
  pub answer : List ℕ

abbrev pub image_words : ImageNumbers → List ℕ
image_words n = n.ptl ∷ n.start ∷ n.frames ∷ []

abbrev pub imaged : ImageNumbers → Imaged
imaged n = record { returned = n.verdict.refused; answer = image_words n }

unfoldable pub image : List ℕ → List ℕ → Imaged
image file answer =
    if eqb (length answer) 3 then imaged (image_call file).numbers
    else record { returned = refusal_number Bound; answer = answer }

-- the promise: the number returned and the answer at exit, as the record o, are those of the definition
abbrev pub ImagePromise : (file answer : List ℕ) → Imaged → Type 0
ImagePromise file answer o = o ≡ image file answer
