-- A listed line gives its word back and holds no newline.
use mathlib.Core.Bool.{true, false, not}
use mathlib.Core.Path.{◌≡◌, refl, sym, ap, ◌∙◌}
use mathlib.Core.List.{List, [], ◌∷◌, ◌++◌, append-nil, Memᴰ}
use Prim.Native.Nat.{ℕ, ◌+◌, ◌^◌, ◌<◌}
use native.Mathlib.Omega.{arith}
use borrow.Author.Tests.{ltb-true, lt-ltb, leb-true, le-leb, lt-leb, eqb-true}
use lib.Dec.{ltb, eqb}
use lib.ListN.{length, get_or, drop, get_or-append}
use Rattle.std.specs.Prelude.{Ok, Err}
use Rattle.model.specs.Console.{digits}
use Rattle.model.specs.declared.Refusal.TheVariants.{Mnemonic}
use Rattle.laws.proofs.Choice.{chosen}
use Rattle.text.specs.Reading.{is_digit}
use Rattle.text.proofs.Fronts.{inside}
use Rattle.notation.specs.Sums.{is_blank, byte_at, skipped}
use Rattle.notation.specs.Table.{Row, rows}
use Rattle.notation.specs.Line.{read_pieces, name_at, instruction_at, line_at, line_of}
use Rattle.notation.specs.Listing.{pieces_text, filled, is_keyed, by_row, listed}
use Rattle.notation.specs.Answers.{wrong}
use Rattle.grammar.proofs.Sums.{skip_none}
use Rattle.makers.proofs.Every.{every, every_append, every_other, front_every, drop-behind, behind_inside}
use Rattle.makers.proofs.Digits.{digits_every}
use Rattle.makers.proofs.Operands.{no_blank, digit_from, digit_there, number_there}
use Rattle.makers.proofs.Pieces.{in_line, dark_in_line, behind_blank, pieces_in_line, none_there}
use Rattle.makers.proofs.Rows.{row_sound, first_of, row_found_lem}

pub record Line (w : ℕ) (l : List ℕ) : Type 0 where
  pub back : line_of l ≡ Ok (w, length l)
  pub one : every in_line l ≡ true

-- ---- one plain number
module _ (w : ℕ) (h : w < 2 ^ 32) where
  plain_there : drop 0 (digits 9 w) ≡ digits 9 w ++ []
  plain_there = sym (append-nil (digits 9 w))

  plain_back : line_of (digits 9 w) ≡ Ok (w, length (digits 9 w))
  unfolding line_of line_at
  plain_back =
      let s : List ℕ = digits 9 w in
      let d : is_digit (byte_at s 0) ≡ true = digit_there s 0 w [] plain_there (omega arith) in
      let p : skipped s 0 ≡ 0 = skip_none s 0 (no_blank (byte_at s 0) (omega (arith, digit_from (byte_at s 0) d))) in
      rw (p, d, number_there s 0 w [] plain_there (omega arith) (unfold is_digit in refl) 4294967295 (omega arith))
      (none_there s w w (0 + length s) (omega arith) (drop-behind s 0 s [] plain_there))

  plain : Line w (digits 9 w)
  plain = record {
    back = plain_back;
    one = every_other is_digit in_line (λ c d. dark_in_line c (lt-ltb 32 c (omega (arith, digit_from c d)))) (digits 9 w) (digits_every 9 w (omega arith));
  }

-- ---- by the mnemonic of a row
behind_digits : (c : ℕ) → 57 < c → is_digit c ≡ false
unfolding is_digit
behind_digits c h = rw (le-leb 48 c (omega arith), lt-leb c 57 h)

module _ (r : Row) (m : Memᴰ r rows) (w : ℕ) where
  abbrev text : List ℕ
  text = r.name ++ 32 ∷ pieces_text r.pieces w

  first_letter : 57 < byte_at text 0
  first_letter =
      let t : ltb 57 (get_or r.name 0 0) ≡ true = row_sound m 2 in
      rw (get_or-append r.name (32 ∷ pieces_text r.pieces w) 0 0 (inside (ltb 57) r.name 0 refl t)) (ltb-true 57 (get_or r.name 0 0) t)

  its_name : name_at text 0 ≡ r.name
  its_name = front_every (λ c. not (is_blank c)) r.name (32 ∷ pieces_text r.pieces w) (row_sound m 0) (unfold is_blank in refl)

  named_back : line_of text ≡ Ok (filled r.pieces r.base w, length text)
  unfolding line_of line_at instruction_at
  named_back =
      let n : ℕ = 0 + length r.name in
      let p : skipped text 0 ≡ 0 = skip_none text 0 (no_blank (byte_at text 0) (omega (arith, first_letter))) in
      rw (p, behind_digits (byte_at text 0) first_letter, its_name)
      (row_found_lem (λ q. read_pieces text q.pieces q.base n) (Err (wrong Mnemonic 0)) m
      ∙ behind_blank text w r.pieces r.base n (leb-true 1 (length r.pieces) (row_sound m 3)) (row_sound m 4)
      (behind_inside text 0 r.name _ refl (omega arith)) (drop-behind text 0 r.name _ refl))

  named : filled r.pieces r.base w ≡ w → Line w text
  named e = record {
    back = named_back ∙ ap (λ (v : ℕ). Ok (v, length text)) e;
    one = every_append in_line r.name (32 ∷ pieces_text r.pieces w) (row_sound m 1)
        (unfold every in_line in (pieces_in_line r.pieces w (row_sound m 4)));
  }

  row_line : w < 2 ^ 32 → Line w (by_row w r)
  unfolding by_row
  row_line h = chosen (Line w) (eqb (filled r.pieces r.base w) w) (λ t. named (eqb-true _ w t)) (λ _. plain w h)

pub listed_line : (w : ℕ) → w < 2 ^ 32 → Line w (listed w)
unfolding listed
listed_line w h = first_of (Line w) (is_keyed w) (by_row w) (digits 9 w) rows (λ r m. row_line r m w h) (plain w h)
