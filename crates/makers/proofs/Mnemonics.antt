-- A line is refused for its mnemonic exactly where it is no plain number and no row has the name: nothing behind the name earns that.
use mathlib.Core.Path.{◌≡◌, refl, sym, ap, subst, ◌∙◌}
use mathlib.Core.Logic.{◌↔◌, ⊎_elim}
use mathlib.Core.Bool.{Bool, true, false, ◌&&◌, true≢false}
use mathlib.Core.List.Memᴰ
use mathlib.Core.List.{List, [], ◌∷◌, Memᴰ}
use Prim.Native.Nat.{ℕ, ◌+◌, ◌*◌, ◌≤◌}
use lib.Dec.{leb, ltb, eqb}
use lib.ListN.{length}
use Rattle.std.specs.Prelude.{if◌then◌else◌, Ok, Err}
use Rattle.model.specs.declared.Refusal.TheVariants.{Mnemonic, Operand, Overflow}
use Rattle.laws.proofs.Choice.{clash, chosen}
use Rattle.model.specs.Bytes.{same}
use Rattle.text.specs.Reading.{is_digit}
use Rattle.laws.proofs.Bytes.{same_equal, equal_same}
use Rattle.text.specs.Reading as reading
use Rattle.std.specs.Prelude.{Result, Ok, Err}
use Rattle.text.specs.declared.reading.Number.{Number}
use Rattle.notation.specs.Table.{Row, rows, first_row}
use Rattle.notation.specs.Sums.{byte_at, skipped, and_then, numbered, number_at, sum_at}
use Rattle.notation.specs.Line.{below, fitted, operand_at, read_piece, ended, read_pieces, name_at, is_named, instruction_at, plain_at, line_at, line_of}
use Rattle.notation.specs.declared.Piece.{Piece}
use Rattle.notation.specs.declared.Piece.TheVariants.{Mark, Field}
use Rattle.notation.specs.Answers.{Parsed, wrong}
use Rattle.grammar.proofs.Lies.{Lies}
use Rattle.grammar.proofs.Sums.{sum_lies}
use Rattle.makers.specs.Refusals.{Unknown}

-- ---- what is refused for something else, or is good
abbrev Otherwise : Parsed → Type 0
Otherwise (Ok (v, n)) = Unit
Otherwise (Err w) = ¬ (w.refusal ≡ Mnemonic)

then_otherwise : (p : Parsed) (onto : ℕ → ℕ → Parsed) → Otherwise p → ((v n : ℕ) → Otherwise (onto v n)) → Otherwise (and_then p onto)
then_otherwise (Ok (v, n)) onto h f = f v n
then_otherwise (Err w) onto h f = h

no_operand : ¬ (Operand ≡ Mnemonic)
no_operand e = clash (cc)

no_overflow : ¬ (Overflow ≡ Mnemonic)
no_overflow e = clash (cc)

lies_otherwise : (H : Type 0) (at end : ℕ) (p : Parsed) → Lies H at end p → Otherwise p
lies_otherwise H at end (Ok (v, n)) h = tt
lies_otherwise H at end (Err w) h = λ e. ⊎_elim (λ q. no_operand (sym q ∙ e)) (λ q. no_overflow (sym q ∙ e)) h.1

module _ (s : List ℕ) where
  operand_otherwise : (at size : ℕ) (signed : Bool) → Otherwise (operand_at s at size signed)
  unfolding fitted
  operand_otherwise at size signed =
      then_otherwise (sum_at s at 8) (fitted size signed at) (lies_otherwise (at ≤ length s) at (length s) (sum_at s at 8) (sum_lies s at 8))
      (λ v n. chosen Otherwise (leb 2147483648 (v + below size signed) && ltb (v + below size signed) (2147483648 + size)) (λ _. tt) (λ _. no_overflow))

  piece_otherwise : (p : Piece) (w n : ℕ) → Otherwise (read_piece s p w n)
  unfolding read_piece
  piece_otherwise (Mark b) w n = chosen Otherwise (eqb (byte_at s (skipped s n)) b) (λ _. tt) (λ _. no_operand)
  piece_otherwise (Field scale size signed) w n =
      then_otherwise (operand_at s (skipped s n) size signed) (λ v next. Ok (w + v * scale, next))
      (operand_otherwise (skipped s n) size signed) (λ v m. tt)

  ended_otherwise : (w n : ℕ) → Otherwise (ended s w n)
  unfolding ended
  ended_otherwise w n = chosen Otherwise (eqb (skipped s n) (length s)) (λ _. tt) (λ _. no_operand)

  pieces_otherwise : (ps : List Piece) (w n : ℕ) → Otherwise (read_pieces s ps w n)
  unfolding read_pieces
  pieces_otherwise [] w n = ended_otherwise w n
  pieces_otherwise (p ∷ ps) w n =
      then_otherwise (read_piece s p w n) (read_pieces s ps) (piece_otherwise p w n) (λ v m. pieces_otherwise ps v m)

  numbered_otherwise : (at : ℕ) (p : Result Number ℕ) → Otherwise (numbered at p)
  numbered_otherwise at (Ok n) = tt
  numbered_otherwise at (Err column) = no_overflow

  plain_otherwise : (at : ℕ) → Otherwise (plain_at s at)
  unfolding number_at
  plain_otherwise at =
      then_otherwise (number_at s at 4294967295) (ended s)
      (chosen Otherwise (is_digit (byte_at s at)) (λ _. numbered_otherwise at (reading.number_at s at 4294967295)) (λ _. no_operand))
      (λ v n. ended_otherwise v n)

-- ---- the rows
abbrev Unnamed : List ℕ → List Row → Type 0
Unnamed name rs = (row : Row) → Memᴰ row rs → ¬ (row.name ≡ name)

place_of : Parsed → ℕ
place_of (Ok (v, n)) = n
place_of (Err w) = w.place

module _ (name : List ℕ) (made : Row → Parsed) (at : ℕ) where
  -- no row has the name: none is met
  none_named : (rs : List Row) → Unnamed name rs → first_row (is_named name) made (Err (wrong Mnemonic at)) rs ≡ Err (wrong Mnemonic at)
  unfolding first_row
  none_named [] f = refl
  none_named (r ∷ rs) f =
      chosen (λ p. p ≡ Err (wrong Mnemonic at)) (is_named name r) (λ t. absurd (f r (Memᴰ.head refl) (same_equal r.name name t)))
      (λ _. none_named rs (λ row m. f row (Memᴰ.tail m)))

  module _ (other : (r : Row) → Otherwise (made r)) where
    -- only a name that no row has is refused for itself
    refused_named : (rs : List Row) (p : ℕ) → first_row (is_named name) made (Err (wrong Mnemonic at)) rs ≡ Err (wrong Mnemonic p) → (p ≡ at) × Unnamed name rs
    unfolding first_row place_of
    refused_named [] p e = (sym (ap place_of e), λ row m. absurd (Memᴰ.not-nil m))
    refused_named (r ∷ rs) p e = pick (is_named name r) refl e (refused_named rs p)
      where
        behind : Parsed
        behind = first_row (is_named name) made (Err (wrong Mnemonic at)) rs

        pick : (t : Bool) → is_named name r ≡ t → (if t then made r else behind) ≡ Err (wrong Mnemonic p)
            → (behind ≡ Err (wrong Mnemonic p) → (p ≡ at) × Unnamed name rs) → (p ≡ at) × Unnamed name (r ∷ rs)
        pick true t f ih = absurd (subst Otherwise f (other r) refl)
        pick false t f ih = (
          (ih f).0,
          λ row m q. ⊎_elim
              (λ (g : row ≡ r). true≢false (sym (equal_same name) ∙ ap (λ n. same n name) (sym q ∙ ap (λ x. x.name) g) ∙ t))
              (λ (k : Memᴰ row rs). (ih f).1 row k q) (Memᴰ.cases_cons m),
        )

-- ---- the line
module _ (l : List ℕ) (p : ℕ) where
  abbrev start : ℕ
  start = skipped l 0

  -- what a row makes of the line
  abbrev by_row : Row → Parsed
  by_row r = read_pieces l r.pieces r.base (start + length (name_at l start))

  found : line_of l ≡ Err (wrong Mnemonic p) → Unknown l p
  unfolding line_of line_at instruction_at
  found e = pick (is_digit (byte_at l start)) refl e
    where
      pick : (t : Bool) → is_digit (byte_at l start) ≡ t → (if t then plain_at l start else instruction_at l start) ≡ Err (wrong Mnemonic p) → Unknown l p
      pick true t f = absurd (subst Otherwise f (plain_otherwise l start) refl)
      pick false t f =
          let n = refused_named (name_at l start) by_row start (λ r. pieces_otherwise l r.pieces r.base (start + length (name_at l start))) rows p f in
          record { first = n.0; no_digit = rw n.0 t; no_row = rw n.0 n.1 }

  is : Unknown l p → line_of l ≡ Err (wrong Mnemonic p)
  unfolding line_of line_at instruction_at
  is u =
      let digit : is_digit (byte_at l start) ≡ false = rw u.first at u.no_digit in
      let none : Unnamed (name_at l start) rows = rw u.first at u.no_row in
      rw digit (none_named (name_at l start) by_row start rows none ∙ ap (λ n. Err (wrong Mnemonic n)) (sym u.first))

  pub unknown : (line_of l ≡ Err (wrong Mnemonic p)) ↔ Unknown l p
  unknown = (found, is)
