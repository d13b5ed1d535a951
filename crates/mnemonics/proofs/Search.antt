-- What is found among the rows in code is what the table's rows have first; and that no two rows have the same name or word.
use Rattle.std.specs.Prelude.{Option, Some, None, option_map, if◌then◌else◌}
use Rattle.std.proofs.Common.{Bor}
use Rattle.std.specs.List.{find, list_any}
use mathlib.Core.Bool.{Bool, true, false, true≢false, not, ◌&&◌, ◌||◌}
use mathlib.Core.Path.{◌≡◌, refl, sym, ap, ◌∙◌}
use mathlib.Core.List.{List, [], ◌∷◌, ◌++◌, map, reverse, reverse_aux}
use Rattle.std.proofs.lemmas.List.{reverse-append}
use Prim.Native.Nat.{ℕ, zero, suc, ◌<◌}
use native.Mathlib.Omega.{arith}
use lib.Dec.{eqb}
use lib.ListN.{length, get_or}
use borrow.Author.Tests.{eq-eqb, eqb-true}
use Rattle.laws.proofs.Choice.{and_left, and_right, clash}
use Rattle.laws.proofs.Bytes.{same_equal, equal_same}
use Rattle.model.specs.Bytes.{same}
use Rattle.notation.specs.Table as table
use Rattle.notation.specs.Table.{rows, first_row, spelled}
use Rattle.mnemonics.specs.Rows.{row_of, row_where}
use Rattle.mnemonics.specs.declared.Row.{Row}

-- the first of some rows in code, as the table has it
first_of : (test : table.Row → Bool) (rs : List Row)
    → option_map row_of (find (λ r. test (row_of r)) rs) ≡ first_row test Some None (map row_of rs)
unfolding first_row
first_of test [] = refl
first_of test (r ∷ rs) = pick (test (row_of r)) (first_of test rs)
  where
    pick : (b : Bool) → option_map row_of (find (λ r. test (row_of r)) rs) ≡ first_row test Some None (map row_of rs)
        → option_map row_of (if b then Some r else find (λ r. test (row_of r)) rs) ≡ (if b then Some (row_of r) else first_row test Some None (map row_of rs))
    pick true e = refl
    pick false e = e

backward : (rs qs : List Row) → map row_of (reverse_aux rs qs) ≡ reverse_aux (map row_of rs) (map row_of qs)
backward [] qs = refl
backward (r ∷ rs) qs = backward rs (r ∷ qs)

or_none_left : (a b : Bool) → (a || b) ≡ false → a ≡ false
or_none_left true b e = e
or_none_left false b e = refl

or_none_right : (a b : Bool) → (a || b) ≡ false → b ≡ false
or_none_right true b e = absurd (true≢false e)
or_none_right false b e = e

not_true : (b : Bool) → not b ≡ true → b ≡ false
not_true true e = sym e
not_true false e = refl

-- ---- from the back: at most one row passes, where no two are alike
abbrev or_else : Option table.Row → Option table.Row → Option table.Row
or_else None y = y
or_else (Some x) y = Some x

abbrev pub distinct : (table.Row → table.Row → Bool) → List table.Row → Bool
distinct alike [] = true
distinct alike (r ∷ rs) = not (list_any (alike r) rs) && distinct alike rs

module _ (test : table.Row → Bool) where
  first_append : (xs ys : List table.Row)
      → first_row test Some None (xs ++ ys) ≡ or_else (first_row test Some None xs) (first_row test Some None ys)
  unfolding first_row
  first_append [] ys = refl
  first_append (x ∷ xs) ys = pick (test x) (first_append xs ys)
    where
      pick : (b : Bool) → first_row test Some None (xs ++ ys) ≡ or_else (first_row test Some None xs) (first_row test Some None ys)
          → (if b then Some x else first_row test Some None (xs ++ ys)) ≡ or_else (if b then Some x else first_row test Some None xs) (first_row test Some None ys)
      pick true e = refl
      pick false e = e

  module _ (alike : table.Row → table.Row → Bool) (one : (a b : table.Row) → test a ≡ true → test b ≡ true → alike a b ≡ true) where
    none_else : (r : table.Row) → test r ≡ true → (rs : List table.Row) → list_any (alike r) rs ≡ false → first_row test Some None rs ≡ None
    unfolding first_row
    none_else r t [] e = refl
    none_else r t (x ∷ xs) e = pick (test x) refl (none_else r t xs (or_none_right (alike r x) (list_any (alike r) xs) e))
      where
        pick : (b : Bool) → test x ≡ b → first_row test Some None xs ≡ None → (if b then Some x else first_row test Some None xs) ≡ None
        pick true q f = absurd (true≢false (sym (one r x t q) ∙ or_none_left (alike r x) (list_any (alike r) xs) e))
        pick false q f = f

    from_back : (rs : List table.Row) → distinct alike rs ≡ true → first_row test Some None (reverse rs) ≡ first_row test Some None rs
    unfolding first_row
    from_back [] e = refl
    from_back (x ∷ xs) e =
        ap (first_row test Some None) (reverse-append (x ∷ []) xs) ∙ first_append (reverse xs) (x ∷ [])
        ∙ ap (λ r. or_else r (if test x then Some x else None)) (from_back xs (and_right (not (list_any (alike x) xs)) (distinct alike xs) e))
        ∙ pick (test x) refl (first_row test Some None xs) (λ t. none_else x t xs (not_true (list_any (alike x) xs) (and_left (not (list_any (alike x) xs)) (distinct alike xs) e)))
      where
        pick : (b : Bool) → test x ≡ b → (o : Option table.Row) → (test x ≡ true → o ≡ None) → or_else o (if b then Some x else None) ≡ (if b then Some x else o)
        pick true q o f = ap (λ r. or_else r (Some x)) (f q)
        pick false q None f = refl
        pick false q (Some y) f = refl

    -- a row that passes is the first
    pub first_at : (rs : List table.Row) → distinct alike rs ≡ true → (k : ℕ) (d : table.Row) → k < length rs
        → test (get_or rs k d) ≡ true → first_row test Some None rs ≡ Some (get_or rs k d)
    unfolding first_row
    first_at [] e k d h t = absurd (omega arith)
    first_at (x ∷ xs) e zero d h t = rw t refl
    first_at (x ∷ xs) e (suc k) d h t =
        pick (test x) refl (first_at xs (and_right (not (list_any (alike x) xs)) (distinct alike xs) e) k d (omega arith) t)
      where
        pick : (b : Bool) → test x ≡ b → first_row test Some None xs ≡ Some (get_or xs k d)
            → (if b then Some x else first_row test Some None xs) ≡ Some (get_or xs k d)
        pick true q f =
            let n = none_else x q xs (not_true (list_any (alike x) xs) (and_left (not (list_any (alike x) xs)) (distinct alike xs) e)) in
            clash (cc)
        pick false q f = f

    -- what is found among all of them
    pub found : distinct alike rows ≡ true → (rs : List Row) → map row_of rs ≡ rows → (r : Option (Bor Row))
        → option_map (λ x. x.now) r ≡ find (λ x. test (row_of x)) (reverse rs) → option_map (λ x. row_of x.now) r ≡ row_where test
    found d rs e r f =
        twice r ∙ ap (option_map row_of) f ∙ first_of test (reverse rs)
        ∙ ap (first_row test Some None) (backward rs [] ∙ ap reverse e) ∙ from_back rows d
      where
        twice : (r : Option (Bor Row)) → option_map (λ x. row_of x.now) r ≡ option_map row_of (option_map (λ x. x.now) r)
        twice None = refl
        twice (Some x) = refl

-- ---- names
pub names_distinct : distinct (λ a b. same a.name b.name) rows ≡ true
unfolding rows spelled same
names_distinct = refl

pub one_name : (name : List ℕ) (a b : table.Row) → same a.name name ≡ true → same b.name name ≡ true → same a.name b.name ≡ true
one_name name a b p q = rw (same_equal a.name name p, same_equal b.name name q) (equal_same name)

-- ---- words
pub bases_distinct : distinct (λ a b. eqb a.base b.base) rows ≡ true
unfolding rows
bases_distinct = refl

pub one_base : (w : ℕ) (a b : table.Row) → eqb a.base w ≡ true → eqb b.base w ≡ true → eqb a.base b.base ≡ true
one_base w a b p q = eq-eqb a.base b.base (eqb-true a.base w p ∙ sym (eqb-true b.base w q))
