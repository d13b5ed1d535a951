-- A value in its field: the ways of `fit`, and what a piece adds to the word.
use mathlib.Core.Bool.{Bool, false, ◌&&◌}
use mathlib.Core.Path.{◌≡◌, sym, ◌∙◌, subst}
use mathlib.Core.List.{List}
use Prim.Native.Nat.{ℕ, ◌+◌, ◌-◌, ◌*◌, ◌≤◌, ◌<◌}
use native.Mathlib.Omega.{arith}
use lib.Dec.{ltb, leb, eqb}
use borrow.Author.Tests.{ltb-true, leb-true, leb-false, lt-ltb, le-leb, lt-leb}
use Rattle.std.specs.Prelude.{Ok, Err}
use Rattle.model.specs.declared.Refusal.TheVariants.{Overflow}
use Rattle.laws.proofs.Choice.{and_left, and_right, chosen}
use Rattle.notation.specs.Sums.{byte_at, skipped, sum_at}
use Rattle.notation.specs.Line.{below, fitted, operand_at, read_piece}
use Rattle.notation.specs.declared.Piece.{Piece}
use Rattle.notation.specs.declared.Piece.TheVariants.{Mark, Field}
use Rattle.notation.specs.Answers.{Parsed, wrong}
use Rattle.grammar.proofs.Lies.{then_has}
use Rattle.mnemonics.specs.Rows.{Fine}
use Rattle.mnemonics.proofs.Field.{within_field}

-- ---- the ways of `fit`; `up` is the value above the field's lowest number
module _ (size : ℕ) (signed : Bool) (at v n up : ℕ) (e : up ≡ v + below size signed) where
  pub fit_not : (leb 2147483648 up && ltb up (2147483648 + size)) ≡ false → Err (wrong Overflow at) ≡ fitted size signed at v n
  unfolding fitted
  fit_not h = rw (← e) (simp h)

  module _ (low : 2147483648 ≤ up) (high : up < 2147483648 + size) where
    pub fit_zero : 2147483648 ≤ v → Ok (v - 2147483648, n) ≡ fitted size signed at v n
    unfolding fitted
    fit_zero h = rw (← e) (simp (le-leb _ _ low, lt-ltb _ _ high, le-leb _ _ h))

    pub fit_minus : v < 2147483648 → Ok (v + size - 2147483648, n) ≡ fitted size signed at v n
    unfolding fitted
    fit_minus h = rw (← e) (simp (le-leb _ _ low, lt-ltb _ _ high, lt-leb _ _ h))

-- ---- what fits is below the field's size, and what a piece adds to the word below 2^32
abbrev Below : ℕ → Parsed → Type 0
Below bound (Ok (v, n)) = v < bound
Below bound (Err w) = Unit

fitted_below : (size : ℕ) (signed : Bool) (at v n : ℕ) → Below size (fitted size signed at v n)
unfolding fitted
fitted_below size signed at v n =
    let up = v + below size signed in
    let low = leb 2147483648 up in
    let high = ltb up (2147483648 + size) in
    chosen (Below size) (low && high)
    (λ t.
    let l : 2147483648 ≤ up = leb-true _ _ (and_left low high t) in
    let h : up < 2147483648 + size = ltb-true _ _ (and_right low high t) in
    chosen (λ (x : ℕ). x < size) (leb 2147483648 v)
    (λ q. omega (arith, l, h, leb-true 2147483648 v q)) (λ q. omega (arith, l, h, leb-false 2147483648 v q)))
    (λ _. tt)

operand_below : (s : List ℕ) (at size : ℕ) (signed : Bool) → Below size (operand_at s at size signed)
operand_below s at size signed =
    then_has (Below size) (λ _. Unit) (sum_at s at 8) tt (λ r q _. tt) (λ v n _. fitted_below size signed at v n)

piece_below : (s : List ℕ) (p : Piece) (w n : ℕ) → Fine p → Below (w + 4294967296) (read_piece s p w n)
unfolding read_piece
piece_below s (Mark b) w n f = chosen (Below (w + 4294967296)) (eqb (byte_at s (skipped s n)) b) (λ _. omega arith) (λ _. tt)
piece_below s (Field scale size signed) w n f =
    then_has (Below (w + 4294967296)) (Below size) (operand_at s (skipped s n) size signed) (operand_below s (skipped s n) size signed)
    (λ r q _. tt) (λ v m h. omega (arith, within_field scale size v f.2 f.0 h))

pub piece_small : (s : List ℕ) (p : Piece) (w n v m : ℕ) (q : Parsed) → Fine p → q ≡ read_piece s p w n → q ≡ Ok (v, m)
    → v < w + 4294967296
piece_small s p w n v m q f e h = subst (Below (w + 4294967296)) (sym e ∙ h) (piece_below s p w n f)

-- a field of a row
module _ (p : Piece) (scale size : ℕ) (signed : Bool) (e : p ≡ Field scale size signed) (fine : Fine p) where
  field : (0 < scale) × (1 < size) × (scale * size ≤ 4294967296) × (size ≤ 67108864)
  field = rw e at fine

  pub field_narrow : size ≤ 67108864
  field_narrow = field.3

  pub field_small : (s : List ℕ) (at v n : ℕ) (q : Parsed) → q ≡ operand_at s at size signed → q ≡ Ok (v, n) → v * scale < 4294967296
  field_small s at v n q r h = within_field scale size v field.2 field.0 (subst (Below size) (sym r ∙ h) (operand_below s at size signed))
