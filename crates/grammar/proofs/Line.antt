-- Laws of a line: what its pieces leave lies within it, and a line that is refused is refused at a place within it or at its end.
use mathlib.Core.Bool.{Bool, true, ◌&&◌, not}
use mathlib.Core.Path.{◌≡◌, refl, subst}
use mathlib.Core.List.{List, [], ◌∷◌, map}
use mathlib.Core.Logic.{◌⊎◌, inl, inr}
use Prim.Native.Nat.{ℕ, ◌+◌, ◌≤◌}
use native.Mathlib.Omega.{arith}
use lib.Dec.{eqb, leb, ltb}
use lib.ListN.{length}
use borrow.Author.Tests.{ltb-true}
use Rattle.std.specs.Prelude.{Ok, Err}
use Rattle.model.specs.Choice.{passes}
use Rattle.model.specs.declared.Refusal.{Refusal}
use Rattle.model.specs.declared.Refusal.TheVariants.{Mnemonic, Operand, Overflow}
use Rattle.laws.proofs.Choice.{and_left, and_right, chosen}
use Rattle.text.specs.Reading.{is_digit}
use Rattle.text.proofs.Fronts.{front_inside}
use Rattle.notation.specs.Table.{Row, rows, first_row}
use Rattle.notation.specs.Sums.{is_blank, byte_at, skipped, number_at, sum_at}
use Rattle.notation.specs.Line.{below, fitted, operand_at, read_piece, ended, read_pieces, name_at, is_named, instruction_at, plain_at, line_at, line_of}
use Rattle.notation.specs.declared.Piece.{Piece}
use Rattle.notation.specs.declared.Piece.TheVariants.{Mark, Field}
use Rattle.notation.specs.Answers.{Parsed, wrong}
use Rattle.grammar.proofs.Places.{skip_from, skip_inside, known_inside, OfSum, IsNumber, is_number}
use Rattle.grammar.proofs.Lies.{Lies, then_has}
use Rattle.grammar.proofs.Sums.{sum_lies}

-- ---- marks: no mark is 0, which is what stands at a line's end
abbrev pub is_seen : Piece → Bool
is_seen (Mark b) = ltb 0 b
is_seen (Field scale size signed) = true

abbrev pub are_seen : Row → Bool
are_seen r = passes (map is_seen r.pieces)

pub rows_seen : passes (map are_seen rows) ≡ true
unfolding rows passes
rows_seen = refl

-- whatever the rows that pass a test give, the first of them gives
pub first_has : {A : Type 0} (P : A → Type 0) (good test : Row → Bool) (made : Row → A) (other : A) (rs : List Row)
    → passes (map good rs) ≡ true → ((r : Row) → good r ≡ true → P (made r)) → P other → P (first_row test made other rs)
unfolding passes first_row
first_has P good test made other [] g f o = o
first_has P good test made other (r ∷ rs) g f o =
    chosen P (test r) (λ _. f r (and_left (good r) (passes (map good rs)) g))
    (λ _. first_has P good test made other rs (and_right (good r) (passes (map good rs)) g) f o)

-- ---- what is read in a line
-- what a piece leaves, from `at` on
abbrev PieceIn : ℕ → ℕ → Parsed → Type 0
PieceIn at end (Ok (v, n)) = (at ≤ n) × (n ≤ end)
PieceIn at end (Err w) = (w.place ≤ end) × OfSum w.refusal

-- what refuses a line
abbrev OfLine : Refusal → Type 0
OfLine r = (r ≡ Mnemonic) ⊎ (r ≡ Operand) ⊎ (r ≡ Overflow)

abbrev LineIn : ℕ → Parsed → Type 0
LineIn end (Ok (v, n)) = Unit
LineIn end (Err w) = (w.place ≤ end) × OfLine w.refusal

module _ (s : List ℕ) where
  abbrev end : ℕ
  end = length s

  fitted_in : (size : ℕ) (signed : Bool) (at v n : ℕ) → at ≤ n → n ≤ end → PieceIn at end (fitted size signed at v n)
  unfolding fitted
  fitted_in size signed at v n h k =
      let kept = v + below size signed in
      chosen (PieceIn at end) (leb 2147483648 kept && ltb kept (2147483648 + size)) (λ _. (h, k)) (λ _. (omega arith, inr refl))

  operand_in : (at size : ℕ) (signed : Bool) → at ≤ end → PieceIn at end (operand_at s at size signed)
  operand_in at size signed h =
      then_has (PieceIn at end) (Lies (at ≤ end) at end) (sum_at s at 8) (sum_lies s at 8) (λ r q w. (w.0 h, w.1))
      (λ v n w. fitted_in size signed at v n (omega arith) w.1)

  piece_in : (p : Piece) (w n : ℕ) → n ≤ end → is_seen p ≡ true → PieceIn n end (read_piece s p w n)
  unfolding read_piece
  piece_in (Mark b) w n h t =
      let at = skipped s n in
      chosen (PieceIn n end) (eqb (byte_at s at) b)
      (λ e. (omega (arith, skip_from s n), omega (arith, known_inside s at b (ltb-true 0 b t) e)))
      (λ _. (skip_inside s n h, inl refl))
  piece_in (Field scale size signed) w n h t =
      let at = skipped s n in
      then_has (PieceIn n end) (PieceIn at end) (operand_at s at size signed) (operand_in at size signed (skip_inside s n h))
      (λ r q x. x) (λ v m x. (omega (arith, skip_from s n), x.1))

  ended_in : (w n : ℕ) → n ≤ end → LineIn end (ended s w n)
  unfolding ended
  ended_in w n h = chosen (LineIn end) (eqb (skipped s n) end) (λ _. tt) (λ _. (skip_inside s n h, inr (inl refl)))

  pieces_in : (ps : List Piece) (w n : ℕ) → passes (map is_seen ps) ≡ true → n ≤ end → LineIn end (read_pieces s ps w n)
  unfolding read_pieces passes
  pieces_in [] w n t h = ended_in w n h
  pieces_in (p ∷ ps) w n t h =
      then_has (LineIn end) (PieceIn n end) (read_piece s p w n) (piece_in p w n h (and_left (is_seen p) (passes (map is_seen ps)) t))
      (λ r q x. (x.0, inr x.1))
      (λ v m x. pieces_in ps v m (and_right (is_seen p) (passes (map is_seen ps)) t) x.1)

  instruction_in : (at : ℕ) → at ≤ end → LineIn end (instruction_at s at)
  unfolding instruction_at
  instruction_in at h =
      let n = at + length (name_at s at) in
      first_has (LineIn end) are_seen (is_named (name_at s at)) (λ r. read_pieces s r.pieces r.base n) (Err (wrong Mnemonic at)) rows rows_seen
      (λ r t. pieces_in r.pieces r.base n t (front_inside (λ c. not (is_blank c)) s at h))
      (h, inl refl)

  plain_in : (at : ℕ) → at ≤ end → LineIn end (plain_at s at)
  plain_in at h =
      then_has (LineIn end) (IsNumber at end 4294967295) (number_at s at 4294967295) (is_number s at 4294967295)
      (λ r q x. (omega arith, inr x.1)) (λ v n x. ended_in v n x.1)

  line_in : LineIn end (line_of s)
  unfolding line_of line_at
  line_in =
      let at = skipped s 0 in
      let h : at ≤ end = skip_inside s 0 (omega arith) in
      chosen (LineIn end) (is_digit (byte_at s at)) (λ _. plain_in at h) (λ _. instruction_in at h)

pub piece_value : (s : List ℕ) (p : Piece) (w n v m : ℕ) → n ≤ length s → is_seen p ≡ true → read_piece s p w n ≡ Ok (v, m)
    → (n ≤ m) × (m ≤ length s)
piece_value s p w n v m h t e = subst (PieceIn n (length s)) e (piece_in s p w n h t)

-- a column is one of 1 to the line's length and one more
pub line_wrong : (s : List ℕ) (r : Refusal) (p : ℕ) → line_of s ≡ Err (wrong r p) → p ≤ length s
line_wrong s r p e = (subst (LineIn (length s)) e (line_in s)).0

pub line_refusal : (s : List ℕ) (r : Refusal) (p : ℕ) → line_of s ≡ Err (wrong r p) → (r ≡ Mnemonic) ⊎ (r ≡ Operand) ⊎ (r ≡ Overflow)
line_refusal s r p e = (subst (LineIn (length s)) e (line_in s)).1
