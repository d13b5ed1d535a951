-- The image at hand and what its functions promise: its answer is the one for its file, and its sections are found by its answer alone.
use Rattle.std.specs.Prelude.{◌≡◌, List, ℕ}
use Rattle.std.specs.Borrow.{Bor}
use Rattle.model.specs.Answers.{ImageAnswer}
use Rattle.model.specs.Parts.{Part, PartOf, pages_part, rights_part}
use Rattle.image.specs.Sections.{pages_by_answer, rights_by_answer}
use Rattle.image.specs.Format.{answer_of}
use Rattle.image.specs.declared.at_hand.Image.{Image}

abbrev pub AtHand : Image → Type 0
AtHand i = i.answer ≡ answer_of i.file.now

-- the file itself is kept, with its answer
abbrev pub KeepPromise : Bor (List ℕ) → Image → Type 0
KeepPromise file i = (i.file ≡ file) × AtHand i

-- the answer is the one at hand
abbrev pub AnswerPromise : Image → ImageAnswer → Type 0
AnswerPromise i a = a ≡ i.answer

-- what is handed back for a section: by the answer of i, whatever it is; of an image at hand it is the reader's
pub record Section (find : List ℕ → ImageAnswer → Part) (part : List ℕ → Part) (i : Image) (r : Bor (List ℕ)) : Type 0 where
  pub found : PartOf i.file (find i.file.now i.answer) r
  pub read : AtHand i → PartOf i.file (part i.file.now) r

abbrev pub HandPagesPromise : Image → Bor (List ℕ) → Type 0
HandPagesPromise = Section pages_by_answer pages_part

abbrev pub HandRightsPromise : Image → Bor (List ℕ) → Type 0
HandRightsPromise = Section rights_by_answer rights_part
