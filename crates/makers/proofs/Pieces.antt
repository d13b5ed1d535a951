-- What stands behind a mnemonic, listed and read back piece by piece.
use mathlib.Core.Bool.{Bool, true, false, ◌&&◌, not, true≢false}
use mathlib.Core.Path.{◌≡◌, refl, sym, ap, ◌∙◌}
use mathlib.Core.List.{List, [], ◌∷◌, ◌++◌}
use Prim.Native.Nat.{ℕ, ◌+◌, ◌-◌, ◌*◌, ◌/◌, ◌^◌, ◌≤◌, ◌<◌}
use native.Mathlib.Nat.{mod-lt, not-suc-le-zero}
use native.Mathlib.Omega.{arith}
use borrow.Author.Tests.{leb-true, ltb-true, lt-ltb, eqb-true, eq-eqb, ne_eqb}
use lib.Dec.{leb, ltb, eqb}
use lib.ListN.{length, get_or, drop, length-drop}
use Rattle.std.specs.Prelude.{Ok}
use Rattle.model.specs.Choice.{passes}
use Rattle.model.specs.Console.{digits}
use Rattle.laws.proofs.Choice.{and_left, and_right, and_both, pass, chosen}
use Rattle.text.specs.Reading.{is_digit}
use Rattle.notation.specs.Sums.{is_blank, byte_at, skipped, and_then}
use Rattle.notation.specs.Line.{read_piece, read_pieces, ended}
use Rattle.notation.specs.Listing.{field_of, value_text, piece_text, pieces_text, filled}
use Rattle.notation.specs.declared.Piece.{Piece}
use Rattle.notation.specs.declared.Piece.TheVariants.{Mark, Field}
use Rattle.notation.specs.Answers.{Parsed}
use Rattle.grammar.proofs.Sums.{skip_none, skip_more}
use Rattle.makers.proofs.Every.{every, every_append, every_other, first_every, byte_there, drop-behind, behind_inside}
use Rattle.makers.proofs.Digits.{digits_every, digits_some}
use Rattle.makers.proofs.Operands.{stops, stop_blank, no_blank, digit_from, Halves, operand_there}

-- ---- pieces that can be read back, as a test
-- no newline
unfoldable pub in_line : ℕ → Bool
in_line c = not (eqb c 10)

-- the byte that pieces begin with: 0 where there is none, a digit for an operand
abbrev first_byte : List Piece → ℕ
first_byte [] = 0
first_byte (Mark b ∷ ps) = b
first_byte (Field scale size signed ∷ ps) = 48

-- a size that halves
abbrev halves : ℕ → Bool
halves size = passes (ltb 0 size ∷ eqb (size / 2 + size / 2) size ∷ leb size (2 ^ 26) ∷ [])

-- an operand is followed by a mark that ends it, or by nothing
unfoldable pub readable : List Piece → Bool
readable [] = true
readable (Mark b ∷ ps) = (stops b && in_line b) && readable ps
readable (Field scale size signed ∷ ps) = (halves size && stops (first_byte ps)) && readable ps

digit_goes_on : stops 48 ≡ false
unfolding stops passes is_digit
digit_goes_on = refl

pub dark_in_line : (c : ℕ) → ltb 32 c ≡ true → in_line c ≡ true
unfolding in_line
dark_in_line c h = rw (ne_eqb c 10 (λ e. omega (arith, ltb-true 32 c h)))

-- what the test of an operand says
module _ (size : ℕ) (ps : List Piece) (ok : (halves size && stops (first_byte ps)) ≡ true) where
  tested : (i : ℕ) → get_or (ltb 0 size ∷ eqb (size / 2 + size / 2) size ∷ leb size (2 ^ 26) ∷ []) i true ≡ true
  tested = pass _ (and_left (halves size) (stops (first_byte ps)) ok)

  some : 0 < size
  some = ltb-true 0 size (tested 0)

  its_size : Halves size
  its_size = record { half = eqb-true (size / 2 + size / 2) size (tested 1); most = leb-true size (2 ^ 26) (tested 2) }

  its_number : (scale w : ℕ) → field_of scale size w < size
  its_number scale w = mod-lt (w / scale) some

  its_end : (w : ℕ) → stops (get_or (pieces_text ps w) 0 0) ≡ true
  unfolding pieces_text piece_text
  its_end w = ended_by ps (and_right (halves size) (stops (first_byte ps)) ok)
    where
      ended_by : (ps : List Piece) → stops (first_byte ps) ≡ true → stops (get_or (pieces_text ps w) 0 0) ≡ true
      ended_by [] h = h
      ended_by (Mark b ∷ ps) h = h
      ended_by (Field scale size signed ∷ ps) h = absurd (true≢false (sym h ∙ digit_goes_on))

-- ---- the text of an operand: bytes behind the blank
module _ (size x : ℕ) (z : Halves size) (inside : x < size) where
  all_dark : (y : ℕ) → y ≤ size → every (ltb 32) (digits 9 y) ≡ true
  all_dark y h = every_other is_digit (ltb 32) (λ c d. lt-ltb 32 c (omega (arith, digit_from c d))) (digits 9 y) (digits_every 9 y (omega arith))

  pub value_dark : (signed : Bool) → every (ltb 32) (value_text size signed x) ≡ true
  unfolding value_text
  value_dark signed =
      chosen (λ (l : List ℕ). every (ltb 32) l ≡ true) (signed && leb (size / 2) x)
      (λ _. unfold every in (all_dark (size - x) (omega arith))) (λ _. all_dark x (omega arith))

  pub value_some : (signed : Bool) → 1 ≤ length (value_text size signed x)
  unfolding value_text
  value_some signed =
      chosen (λ (l : List ℕ). 1 ≤ length l) (signed && leb (size / 2) x) (λ _. omega arith) (λ _. digits_some 9 x)

  pub value_first : (s : List ℕ) (n : ℕ) (t : List ℕ) (signed : Bool) → drop n s ≡ value_text size signed x ++ t → is_blank (byte_at s n) ≡ false
  value_first s n t signed e =
      no_blank (byte_at s n) (ltb-true 32 (byte_at s n)
      (ap (ltb 32) (byte_there s n (value_text size signed x ++ t) e)
      ∙ first_every (ltb 32) (value_text size signed x) t (value_dark signed) (value_some signed)))

-- ---- read back
module _ (s : List ℕ) (w : ℕ) where
  pub none_there : (base n : ℕ) → n ≤ length s → drop n s ≡ [] → ended s base n ≡ Ok (base, length s)
  unfolding ended
  none_there base n h e =
      let q : n ≡ length s = omega (arith, sym (length-drop n s) ∙ ap length e) in
      let p : skipped s n ≡ n = skip_none s n (ap is_blank (byte_there s n [] e) ∙ (unfold is_blank in refl)) in
      rw (p, eq-eqb n (length s) q) (ap (λ (m : ℕ). Ok (base, m)) q)

  pub pieces_there : (ps : List Piece) (base n : ℕ) → readable ps ≡ true → n ≤ length s → drop n s ≡ pieces_text ps w
      → read_pieces s ps base n ≡ Ok (filled ps base w, length s)
  unfolding readable read_pieces read_piece pieces_text piece_text filled
  pieces_there [] base n ok h e = none_there base n h e
  pieces_there (Mark b ∷ ps) base n ok h e =
      let t : (stops b && in_line b) ≡ true = and_left (stops b && in_line b) (readable ps) ok in
      let q : byte_at s n ≡ b = byte_there s n (b ∷ pieces_text ps w) e in
      let p : skipped s n ≡ n = skip_none s n (ap is_blank q ∙ stop_blank b (and_left (stops b) (in_line b) t)) in
      rw (p, eq-eqb (byte_at s n) b q)
      (pieces_there ps base (n + 1) (and_right (stops b && in_line b) (readable ps) ok)
      (behind_inside s n (b ∷ []) (pieces_text ps w) e h) (drop-behind s n (b ∷ []) (pieces_text ps w) e))
  pieces_there (Field scale size signed ∷ ps) base n ok h e =
      let t : (halves size && stops (first_byte ps)) ≡ true = and_left (halves size && stops (first_byte ps)) (readable ps) ok in
      let x : ℕ = field_of scale size w in
      let i : x < size = its_number size ps t scale w in
      let z : Halves size = its_size size ps t in
      let a : List ℕ = value_text size signed x in
      let p : skipped s n ≡ n = skip_none s n (value_first size x z i s n (pieces_text ps w) signed e) in
      rw (p, operand_there size x i z s n (pieces_text ps w) (its_end size ps t w) signed e)
      (pieces_there ps (base + x * scale) (n + length a) (and_right (halves size && stops (first_byte ps)) (readable ps) ok)
      (behind_inside s n a (pieces_text ps w) e h) (drop-behind s n a (pieces_text ps w) e))

  same_from : (p : Piece) (base n m : ℕ) → skipped s n ≡ skipped s m → read_piece s p base n ≡ read_piece s p base m
  unfolding read_piece
  same_from (Mark b) base n m e = rw e
  same_from (Field scale size signed) base n m e = rw e

  -- behind one blank
  pub behind_blank : (ps : List Piece) (base n : ℕ) → 1 ≤ length ps → readable ps ≡ true → n ≤ length s → drop n s ≡ 32 ∷ pieces_text ps w
      → read_pieces s ps base n ≡ Ok (filled ps base w, length s)
  unfolding read_pieces
  behind_blank [] base n some ok h e = absurd (not-suc-le-zero some)
  behind_blank (p ∷ ps) base n some ok h e =
      let b : is_blank (byte_at s n) ≡ true = ap is_blank (byte_there s n _ e) ∙ (unfold is_blank in refl) in
      ap (λ (r : Parsed). and_then r (read_pieces s ps)) (same_from p base n (n + 1) (skip_more s n b))
      ∙ pieces_there (p ∷ ps) base (n + 1) ok (behind_inside s n (32 ∷ []) _ e h) (drop-behind s n (32 ∷ []) _ e)

-- ---- no newline in them
pub pieces_in_line : (ps : List Piece) (w : ℕ) → readable ps ≡ true → every in_line (pieces_text ps w) ≡ true
unfolding readable pieces_text piece_text every
pieces_in_line [] w ok = refl
pieces_in_line (Mark b ∷ ps) w ok =
    let t : (stops b && in_line b) ≡ true = and_left (stops b && in_line b) (readable ps) ok in
    and_both (in_line b) (every in_line (pieces_text ps w)) (and_right (stops b) (in_line b) t)
    (pieces_in_line ps w (and_right (stops b && in_line b) (readable ps) ok))
pieces_in_line (Field scale size signed ∷ ps) w ok =
    let t : (halves size && stops (first_byte ps)) ≡ true = and_left (halves size && stops (first_byte ps)) (readable ps) ok in
    let a : List ℕ = value_text size signed (field_of scale size w) in
    every_append in_line a (pieces_text ps w)
    (every_other (ltb 32) in_line dark_in_line a (value_dark size (field_of scale size w) (its_size size ps t) (its_number size ps t scale w) signed))
    (pieces_in_line ps w (and_right (halves size && stops (first_byte ps)) (readable ps) ok))
