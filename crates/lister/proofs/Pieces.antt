-- A row's pieces, one after another: the word that they fill, and their text.
use mathlib.Core.Bool.{Bool, true, false, ◌&&◌}
use mathlib.Core.Path.{◌≡◌, refl, sym, ap, subst, ◌∙◌}
use mathlib.Core.List.{List, [], ◌∷◌, ◌++◌, append_assoc, append-nil}
use Prim.Native.Nat.{ℕ, ◌+◌, ◌-◌, ◌*◌, ◌/◌, ◌<◌}
use native.Mathlib.Numerals.{add-one}
use lib.Dec.{leb}
use lib.ListN.{length, get_or, take, drop}
use lib.Seq.{take-suc, drop-cons}
use Rattle.model.specs.Console.{digits}
use Rattle.notation.specs.Listing.{with_piece, filled, value_text, piece_text, pieces_text}
use Rattle.notation.specs.declared.Piece.{Piece}
use Rattle.notation.specs.declared.Piece.TheVariants.{Field}
use Rattle.mnemonics.specs.Rows.{Fine}
use Rattle.mnemonics.proofs.Field.{within_field}

-- what a field adds to a word
pub piece_within : {p : Piece} {scale size x : ℕ} {signed : Bool} → Fine p → p ≡ Field scale size signed → x < size → x * scale < 4294967296
piece_within {scale = scale} {size} {x} f e h = let g = subst Fine e f in within_field scale size x g.2 g.0 h

pub text_append : (ps qs : List Piece) (w : ℕ) → pieces_text (ps ++ qs) w ≡ pieces_text ps w ++ pieces_text qs w
unfolding pieces_text
text_append [] qs w = refl
text_append (p ∷ ps) qs w = ap (λ l. piece_text p w ++ l) (text_append ps qs w) ∙ sym (append_assoc (piece_text p w) (pieces_text ps w) (pieces_text qs w))

pub text_none : (w : ℕ) → pieces_text [] w ≡ []
unfolding pieces_text
text_none w = refl

pub filled_none : (v w : ℕ) → filled [] v w ≡ v
unfolding filled
filled_none v w = refl

module _ (ps : List Piece) (k : ℕ) (d : Piece) (h : k < length ps) where
  pub filled_next : (v w : ℕ) → filled (drop k ps) v w ≡ filled (drop (k + 1) ps) (with_piece (get_or ps k d) v w) w
  unfolding filled
  filled_next v w = rw (add-one, drop-cons ps k d h) refl

  pub text_next : (w : ℕ) → pieces_text (take (k + 1) ps) w ≡ pieces_text (take k ps) w ++ piece_text (get_or ps k d) w
  unfolding pieces_text
  text_next w =
      rw (add-one, take-suc ps k d h)
      (text_append (take k ps) (get_or ps k d ∷ []) w ∙ ap (λ l. pieces_text (take k ps) w ++ l) (append-nil (piece_text (get_or ps k d) w)))

module _ (size : ℕ) (signed : Bool) (x : ℕ) where
  pub value_below : (signed && leb (size / 2) x) ≡ true → value_text size signed x ≡ 45 ∷ digits 9 (size - x)
  unfolding value_text
  value_below h = rw h refl

  pub value_plain : (signed && leb (size / 2) x) ≡ false → value_text size signed x ≡ digits 9 x
  unfolding value_text
  value_plain h = rw h refl
