-- The words of an answer, by the reader's case.
use mathlib.Core.Path.{◌≡◌, ap, ◌∙◌}
use mathlib.Core.List.{List, [], ◌∷◌}
use Prim.Native.Nat.{ℕ}
use lib.ListN.{length}
use borrow.Author.Tests.{eq-eqb, ne_eqb}
use Rattle.std.specs.Prelude.{Err, Ok}
use Rattle.model.specs.Answers.{refusal_number, image_numbers, ImageAnswer}
use Rattle.model.specs.Image.{image_call}
use Rattle.model.specs.declared.Refusal.{Refusal}
use Rattle.model.specs.declared.Written.{Written}
use Rattle.model.specs.declared.Refusal.TheVariants.{Bound}
use Rattle.imagewords.specs.Image.{image_words, imaged, image}

pub is_image : (a : ImageAnswer) (i : Written) → a ≡ Ok i → (w : List ℕ) → w ≡ i.ptl ∷ i.start ∷ i.frames ∷ []
    → (0 ≡ (image_numbers a).verdict.refused) × (w ≡ image_words (image_numbers a))
is_image a i e w ew = (simp e, simp (e, ew))

pub not_image : (a : ImageAnswer) (r : Refusal) → a ≡ Err r → (n : ℕ) → n ≡ refusal_number r
    → (w : List ℕ) → w ≡ 0 ∷ 0 ∷ 0 ∷ [] → (n ≡ (image_numbers a).verdict.refused) × (w ≡ image_words (image_numbers a))
not_image a r e n en w ew = (simp (e, en), simp (e, ew))

-- ---- the call
module _ (file answer : List ℕ) where
  pub image_short : (length answer ≡ 3 → ⊥) → record { returned = refusal_number Bound; answer = answer } ≡ image file answer
  unfolding image
  image_short n = simp (ne_eqb _ _ n)

  pub image_whole : length answer ≡ 3 → (a : ImageAnswer) → image_numbers a ≡ (image_call file).numbers
      → (r : ℕ) (w : List ℕ) → (r ≡ (image_numbers a).verdict.refused) × (w ≡ image_words (image_numbers a)) → record { returned = r; answer = w } ≡ image file answer
  unfolding image
  image_whole e a ea r w ew = rw (ew.0, ew.1) (ap imaged ea ∙ simp (eq-eqb _ _ e))
