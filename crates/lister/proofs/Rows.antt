-- A word's line: by the row that its key finds, where the row's fields are the whole word; else as one number.
use mathlib.Core.Path.{◌≡◌, refl, sym, ◌∙◌}
use mathlib.Core.List.{◌∷◌, ◌++◌}
use Prim.Native.Nat.{ℕ}
use Rattle.std.specs.Prelude.{Option, Some, None, option_map}
use Rattle.std.proofs.Common.{Bor}
use borrow.Author.Tests.{eq-eqb, ne_eqb}
use Rattle.model.specs.Console.{digits}
use Rattle.notation.specs.Listing.{is_keyed, filled, pieces_text, by_row, listed}
use Rattle.notation.specs.Table as table
use Rattle.mnemonics.specs.Rows.{name_of, pieces_of, row_of, row_where}
use Rattle.mnemonics.specs.declared.Row.{Row}
use Rattle.mnemonics.proofs.Found.{first_some, first_none}

module _ (w : ℕ) (r : table.Row) where
  as_number : (filled r.pieces r.base w ≡ w → ⊥) → by_row w r ≡ digits 9 w
  unfolding by_row
  as_number n = rw (ne_eqb _ _ n) refl

  as_row : filled r.pieces r.base w ≡ w → by_row w r ≡ r.name ++ 32 ∷ pieces_text r.pieces w
  unfolding by_row
  as_row n = rw (eq-eqb _ _ n) refl

module _ (w : ℕ) (found : Option (Bor Row)) (same : option_map (λ r. row_of r.now) found ≡ row_where (is_keyed w)) where
  pub no_row : found ≡ None → digits 9 w ≡ listed w
  unfolding listed
  no_row h = sym (first_none (by_row w) (digits 9 w) (is_keyed w) found same h)

  module _ (r : Bor Row) (h : found ≡ Some r) where
    by_row_lem : listed w ≡ by_row w (row_of r.now)
    unfolding listed
    by_row_lem = first_some (by_row w) (digits 9 w) (is_keyed w) found same r h

    pub not_filled : (filled (pieces_of r.now) r.now.base w ≡ w → ⊥) → digits 9 w ≡ listed w
    not_filled n = sym (by_row_lem ∙ as_number w (row_of r.now) n)

    pub by_name : filled (pieces_of r.now) r.now.base w ≡ w → name_of r.now ++ 32 ∷ pieces_text (pieces_of r.now) w ≡ listed w
    by_name n = sym (by_row_lem ∙ as_row w (row_of r.now) n)
