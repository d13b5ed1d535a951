-- What one computed test says of each row of the table, and so of each that is found.
use Rattle.std.specs.Prelude.{Option, Some, None, IfSome, option_map, if◌then◌else◌}
use Rattle.std.specs.List.{list_all}
use Rattle.std.proofs.Common.{Bor}
use Rattle.std.proofs.lemmas.List.Sums.{AllPass-from_list_all}
use mathlib.Core.Bool.{Bool, true, false, ◌&&◌}
use mathlib.Core.Path.{◌≡◌, refl, sym, subst}
use mathlib.Core.List.{List, [], ◌∷◌}
use Prim.Native.Nat.{◌*◌}
use borrow.Author.Tests.{ltb-true, leb-true}
use lib.Dec.{ltb, leb}
use lib.ListN.{length}
use Rattle.laws.proofs.Choice.{and_left, and_right}
use Rattle.notation.specs.Table as table
use Rattle.notation.specs.Table.{rows, first_row, spelled}
use Rattle.notation.specs.declared.Piece.{Piece}
use Rattle.notation.specs.declared.Piece.TheVariants.{Mark, Field}
use Rattle.mnemonics.specs.Rows.{row_of, row_where, pieces_of, Fine, Formed}
use Rattle.mnemonics.specs.declared.Row.{Row}

abbrev fine : Piece → Bool
fine (Mark b) = ltb 0 b
fine (Field scale size signed) = ltb 0 scale && (ltb 1 size && (leb (scale * size) 4294967296 && leb size 67108864))

abbrev formed : table.Row → Bool
formed r = leb (length r.name) 4 && (leb (length r.pieces) 6 && list_all fine r.pieces)

all_formed : list_all formed rows ≡ true
unfolding rows spelled
all_formed = refl

fine_right : (p : Piece) → fine p ≡ true → Fine p
fine_right (Mark b) e = ltb-true 0 b e
fine_right (Field scale size signed) e =
    let f = and_right _ _ e in
    let g = and_right _ _ f in
    (ltb-true _ _ (and_left _ _ e), ltb-true _ _ (and_left _ _ f), leb-true _ _ (and_left _ _ g), leb-true _ _ (and_right _ _ g))

formed_right : (r : Row) → formed (row_of r) ≡ true → Formed r
formed_right r e =
    let f = and_right _ _ e in
    let all = AllPass-from_list_all fine (pieces_of r) (and_right _ _ f) in
    (leb-true _ _ (and_left _ _ e), leb-true _ _ (and_left _ _ f), λ k d h. fine_right _ (all k d h))

first_formed : (test : table.Row → Bool) (rs : List table.Row) → list_all formed rs ≡ true → (r : table.Row)
    → first_row test Some None rs ≡ Some r → formed r ≡ true
unfolding first_row
first_formed test [] e r f = cc
first_formed test (x ∷ rs) e r f = pick (test x) (first_formed test rs (and_right (formed x) (list_all formed rs) e) r) f
  where
    pick : (b : Bool) → (first_row test Some None rs ≡ Some r → formed r ≡ true) → (if b then Some x else first_row test Some None rs) ≡ Some r → formed r ≡ true
    pick true ih f = let g : x ≡ r = cc in subst (λ y. formed y ≡ true) g (and_left (formed x) (list_all formed rs) e)
    pick false ih f = ih f

pub is_formed : (test : table.Row → Bool) (r : Row) → Some (row_of r) ≡ row_where test → Formed r
is_formed test r e = formed_right r (first_formed test rows all_formed (row_of r) (sym e))

pub found_formed : (test : table.Row → Bool) (r : Option (Bor Row)) → option_map (λ x. row_of x.now) r ≡ row_where test
    → IfSome r (λ x. Formed x.now)
found_formed test None e = tt
found_formed test (Some x) e = is_formed test x.now e
