-- A name's row stands at its place, or nowhere.
use Rattle.std.specs.Prelude.{Some, None, if◌then◌else◌}
use Rattle.std.specs.Int.{w32, from_le_bytes}
use Rattle.std.specs.List.{list_all}
use Rattle.std.proofs.lemmas.List.{get_or-map}
use mathlib.Core.Bool.{Bool, true, false}
use mathlib.Core.Path.{◌≡◌, refl, sym, ap, ◌∙◌, subst}
use mathlib.Core.List.{List, [], ◌∷◌, ◌++◌, map}
use Prim.Native.Nat.{ℕ, zero, suc, ◌*◌, ◌/◌, ◌%◌, ◌^◌, ◌<◌}
use native.Mathlib.Omega.{arith}
use borrow.Author.Tests.{ltb-true, eqb-true}
use lib.Dec.{ltb}
use lib.ListN.{length, take, get_or, length-map}
use Rattle.laws.proofs.Choice.{and_left, and_right}
use Rattle.laws.proofs.Bytes.{same_equal, equal_same}
use Rattle.model.specs.Bytes.{same}
use Rattle.notation.specs.Line.{is_named}
use Rattle.notation.specs.Table as table
use Rattle.notation.specs.Table.{rows, first_row}
use Rattle.mnemonics.specs.Rows.{name_of, row_of, row_at, row_where, padded, place_of, fits, placed}
use Rattle.mnemonics.specs.declared.Row.{Row}
use Rattle.mnemonics.specs.declared.table.TheConstants.{PLACES}
use Rattle.mnemonics.proofs.Search.{first_at, names_distinct, one_name}

-- ---- no place is behind the rows
places_small : list_all (λ k. ltb k 49) PLACES ≡ true
places_small = refl

small : (ks : List ℕ) (i : ℕ) → list_all (λ k. ltb k 49) ks ≡ true → get_or ks i 0 < 49
small [] i e = omega arith
small (k ∷ ks) zero e = ltb-true k 49 (and_left _ _ e)
small (k ∷ ks) (suc i) e = small ks i (and_right (ltb k 49) _ e)

pub place_small : (letters : List ℕ) → place_of letters < 49
place_small letters = small PLACES (from_le_bytes w32 letters * 2753667 % 2 ^ 32 / 2 ^ 25) places_small

module _ (rs : List Row) (e : map row_of rs ≡ rows) where
  pub rows_long : length rs ≡ 49
  unfolding rows
  rows_long = sym (length-map rs row_of) ∙ ap length e

-- a part of a name that is as long is the name
whole : (long n : ℕ) (name behind : List ℕ) → length (take long (take n (name ++ behind))) ≡ length name
    → take long (take n (name ++ behind)) ≡ name
whole long n [] behind e = none (take long (take n behind)) e
  where
    none : (l : List ℕ) → length l ≡ 0 → l ≡ []
    none [] e = refl
    none (x ∷ xs) e = absurd (omega arith)
whole zero n (x ∷ xs) behind e = absurd (omega arith)
whole (suc long) zero (x ∷ xs) behind e = absurd (omega arith)
whole (suc long) (suc n) (x ∷ xs) behind e = ap (λ l. x ∷ l) (whole long n xs behind (omega (arith, e)))

abbrev pub Fits : List ℕ → Row → Type 0
Fits name r = (r.letters ≡ padded name) × (length (name_of r) ≡ length name)

module _ (name : List ℕ) (rs : List Row) where
  abbrev here : Row
  here = row_at rs (place_of (padded name))

  none_named : (ts : List table.Row) → list_all (λ t. fits t.name (row_at rs (place_of (padded t.name)))) ts ≡ true
      → (Fits name here → ⊥) → first_row (is_named name) Some None ts ≡ None
  unfolding first_row
  none_named [] p f = refl
  none_named (t ∷ ts) p f = pick (same t.name name) refl (none_named ts (and_right (fits t.name (row_at rs (place_of (padded t.name)))) _ p) f)
    where
      pick : (b : Bool) → same t.name name ≡ b → first_row (is_named name) Some None ts ≡ None
          → (if b then Some t else first_row (is_named name) Some None ts) ≡ None
      pick true q g =
          let r = row_at rs (place_of (padded t.name)) in
          let k = and_left (fits t.name r) _ p in
          absurd (f (subst (λ n. Fits n (row_at rs (place_of (padded n)))) (same_equal t.name name q) (same_equal r.letters (padded t.name) (and_left _ _ k), eqb-true (length (name_of r)) (length t.name) (and_right _ _ k))))
      pick false q g = g

  pub not_there : placed rs ≡ true → (Fits name here → ⊥) → None ≡ row_where (is_named name)
  not_there p f = sym (none_named rows p f)

  pub there : map row_of rs ≡ rows → (k : ℕ) → k < 49 → Fits name (row_at rs k) → Some (row_of (row_at rs k)) ≡ row_where (is_named name)
  there e k h f =
      let r = row_at rs k in
      let named : name_of r ≡ name = ap (take r.long) f.0 ∙ whole r.long 4 name (0 ∷ 0 ∷ 0 ∷ 0 ∷ []) (ap length (ap (take r.long) (sym f.0)) ∙ f.1) in
      let none = row_of (row_at [] 0) in
      let g = ap (λ l. get_or l k none) (sym e) ∙ get_or-map row_of rs k (row_at [] 0) none (omega (arith, rows_long rs e)) in
      let t : is_named name (get_or rows k none) ≡ true = rw (g, named) (equal_same name) in
      sym (first_at (is_named name) (λ a b. same a.name b.name) (one_name name) rows names_distinct k none (omega (arith, rows_long rs e, length-map rs row_of, ap length e)) t
      ∙ ap Some g)
