-- What is made of the first row that passes a test, for those who look it up.
use Rattle.std.specs.Prelude.{Option, Some, None, option_map, if◌then◌else◌}
use Rattle.std.proofs.Common.{Bor}
use mathlib.Core.Bool.{Bool, true, false}
use mathlib.Core.Path.{◌≡◌, refl, sym, ap, ◌∙◌}
use mathlib.Core.List.{List, [], ◌∷◌}
use Rattle.notation.specs.Table as table
use Rattle.notation.specs.Table.{rows, first_row}
use Rattle.mnemonics.specs.Rows.{row_of, row_where}
use Rattle.mnemonics.specs.declared.Row.{Row}

module _ {A : Type 0} (made : table.Row → A) (other : A) (test : table.Row → Bool) where
  abbrev made_of : Option table.Row → A
  made_of None = other
  made_of (Some r) = made r

  first_made : (rs : List table.Row) → made_of (first_row test Some None rs) ≡ first_row test made other rs
  unfolding first_row
  first_made [] = refl
  first_made (r ∷ rs) = pick (test r) (first_made rs)
    where
      pick : (b : Bool) → made_of (first_row test Some None rs) ≡ first_row test made other rs
          → made_of (if b then Some r else first_row test Some None rs) ≡ (if b then made r else first_row test made other rs)
      pick true e = refl
      pick false e = e

  module _ (found : Option (Bor Row)) (same : option_map (λ r. row_of r.now) found ≡ row_where test) where
    pub first_none : found ≡ None → first_row test made other rows ≡ other
    first_none h = sym (first_made rows) ∙ ap made_of (sym same ∙ ap (option_map (λ r. row_of r.now)) h)

    pub first_some : (r : Bor Row) → found ≡ Some r → first_row test made other rows ≡ made (row_of r.now)
    first_some r h = sym (first_made rows) ∙ ap made_of (sym same ∙ ap (option_map (λ r. row_of r.now)) h)
