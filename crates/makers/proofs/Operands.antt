-- A field's number, listed and read back: the sum is one number, or one behind a minus.
use mathlib.Core.Bool.{Bool, true, false, ◌&&◌, not}
use mathlib.Core.Path.{◌≡◌, refl, sym, ap, ◌∙◌}
use mathlib.Core.List.{List, [], ◌∷◌, ◌++◌}
use Prim.Native.Nat.{ℕ, suc, ◌+◌, ◌-◌, ◌*◌, ◌/◌, ◌^◌, ◌≤◌, ◌<◌}
use native.Mathlib.Numerals.{add-two}
use native.Mathlib.Omega.{arith}
use borrow.Author.Tests.{leb-true, leb-false, le-leb, lt-leb, lt-ltb, ne_eqb, not-true}
use lib.Dec.{leb, eqb}
use lib.ListN.{length, get_or, drop}
use Rattle.std.specs.Prelude.{Ok}
use Rattle.model.specs.Choice.{passes}
use Rattle.model.specs.Console.{digits}
use Rattle.laws.proofs.Choice.{and_left, pass}
use Rattle.text.specs.Reading as reading
use Rattle.text.specs.Reading.{front, is_digit, number_of}
use Rattle.text.proofs.Numbers.{number_read}
use Rattle.notation.specs.Sums.{is_blank, byte_at, skipped, and_then, numbered, number_at, kept, Goal, term, whole, factor, valued, read_by, read_in, sum_at, read_at}
use Rattle.notation.specs.Line.{below, in_field, fitted, operand_at}
use Rattle.notation.specs.Listing.{value_text}
use Rattle.notation.specs.Answers.{Parsed}
use Rattle.grammar.proofs.Sums.{skip_none}
use Rattle.makers.proofs.Every.{front_every, first_every, byte_there, drop-behind}
use Rattle.makers.proofs.Digits.{digits_every, digits_some, digits_say}

-- ---- bytes
-- what ends a sum: no digit, no blank, no sign
unfoldable pub stops : ℕ → Bool
stops c = passes (not (is_digit c) ∷ not (is_blank c) ∷ not (eqb c 43) ∷ not (eqb c 45) ∷ [])

module _ (c : ℕ) (h : stops c ≡ true) where
  stops_at : (i : ℕ) → get_or (not (is_digit c) ∷ not (is_blank c) ∷ not (eqb c 43) ∷ not (eqb c 45) ∷ []) i true ≡ true
  unfolding stops
  stops_at = pass _ h

  stop_digit : is_digit c ≡ false
  stop_digit = not-true (is_digit c) (stops_at 0)

  pub stop_blank : is_blank c ≡ false
  stop_blank = not-true (is_blank c) (stops_at 1)

  stop_plus : eqb c 43 ≡ false
  stop_plus = not-true (eqb c 43) (stops_at 2)

  stop_minus : eqb c 45 ≡ false
  stop_minus = not-true (eqb c 45) (stops_at 3)

pub no_blank : (c : ℕ) → 32 < c → is_blank c ≡ false
unfolding is_blank
no_blank c h = rw (ne_eqb c 32 (λ e. omega arith), ne_eqb c 9 (λ e. omega arith), ne_eqb c 13 (λ e. omega arith))

pub digit_from : (c : ℕ) → is_digit c ≡ true → 48 ≤ c
unfolding is_digit
digit_from c h = leb-true 48 c (and_left (leb 48 c) (leb c 57) h)

-- ---- a number that stands at a place
module _ (s : List ℕ) (at x : ℕ) (t : List ℕ) (e : drop at s ≡ digits 9 x ++ t) (small : x < 10 ^ 10) where
  pub digit_there : is_digit (byte_at s at) ≡ true
  digit_there = ap is_digit (byte_there s at (digits 9 x ++ t) e) ∙ first_every is_digit (digits 9 x) t (digits_every 9 x small) (digits_some 9 x)

  low : 48 ≤ byte_at s at
  low = digit_from (byte_at s at) digit_there

  not_byte : (b : ℕ) → b < 48 → eqb (byte_at s at) b ≡ false
  not_byte b h = ne_eqb (byte_at s at) b (λ q. omega (arith, low))

  pub number_there : is_digit (get_or t 0 0) ≡ false → (most : ℕ) → x ≤ most → number_at s at most ≡ Ok (x, at + length (digits 9 x))
  unfolding number_at reading.number_at
  number_there stop most h =
      rw digit_there
      (ap (numbered at)
      (ap (λ (ds : List ℕ). number_of ds at most) (ap (front is_digit) e ∙ front_every is_digit (digits 9 x) t (digits_every 9 x small) stop)
      ∙ sym (number_read (digits 9 x) at most x (at + length (digits 9 x)) (digits_say 9 x small) refl h (omega (arith, digits_some 9 x)))))

  factor_there : stops (get_or t 0 0) ≡ true → x < 2147483648 → (read : Goal → Parsed) (d : ℕ)
      → factor read s at d ≡ Ok (x + 2147483648, at + length (digits 9 x))
  factor_there stop h read d =
      rw (not_byte 40 (omega arith)) (ap valued (number_there (stop_digit (get_or t 0 0) stop) 2147483647 (omega arith)))

  term_there : stops (get_or t 0 0) ≡ true → x < 2147483648 → (k d : ℕ)
      → read_in (suc k) s (term at d) ≡ Ok (x + 2147483648, at + length (digits 9 x))
  unfolding read_in read_by
  term_there stop h k d = rw (not_byte 45 (omega arith)) (factor_there stop h (read_in k s) d)

kept_is : (at u n : ℕ) → 2147483648 ≤ u → u < 6442450944 → kept at u n ≡ Ok (u - 2147483648, n)
unfolding kept
kept_is at u n p q = rw (le-leb 2147483648 u p, lt-ltb u 6442450944 q)

-- behind a minus
module _ (s : List ℕ) (at x : ℕ) (t : List ℕ) (e : drop at s ≡ 45 ∷ (digits 9 x ++ t)) (stop : stops (get_or t 0 0) ≡ true) (h : x < 2147483648) where
  behind : drop (at + 1) s ≡ digits 9 x ++ t
  behind = drop-behind s at (45 ∷ []) (digits 9 x ++ t) e

  minus_there : (k d : ℕ) → read_in (suc k) s (term at d) ≡ Ok (2147483648 - x, at + 1 + length (digits 9 x))
  unfolding read_in read_by
  minus_there k d =
      let q : eqb (byte_at s at) 45 ≡ true = ap (λ (c : ℕ). eqb c 45) (byte_there s at _ e) in
      let p : skipped s (at + 1) ≡ at + 1 = skip_none s (at + 1) (no_blank (byte_at s (at + 1)) (omega (arith, low s (at + 1) x t behind (omega arith)))) in
      rw (q, p, factor_there s (at + 1) x t behind (omega arith) stop h (read_in k s) d)
      (kept_is at (2147483648 + 4294967296 - (x + 2147483648)) _ (omega arith) (omega arith)
      ∙ ap (λ (v : ℕ). Ok (v, at + 1 + length (digits 9 x))) (omega arith))

-- ---- a sum of one term
module _ (s : List ℕ) (at v n d : ℕ) where
  sum_there : (k : ℕ) → read_in (suc k) s (term at d) ≡ Ok (v, n) → v < 4294967296 → stops (byte_at s n) ≡ true
      → read_in (suc (suc k)) s (whole at d) ≡ Ok (v, n)
  unfolding read_in read_by
  sum_there k e h stop =
      let p : skipped s n ≡ n = skip_none s n (stop_blank (byte_at s n) stop) in
      rw (e, kept_is at (2147483648 + v) n (omega arith) (omega arith), p, stop_plus (byte_at s n) stop, stop_minus (byte_at s n) stop)
      (ap (λ (u : ℕ). Ok (u, n)) (omega arith))

  whole_there : ((k : ℕ) → read_in (suc k) s (term at d) ≡ Ok (v, n)) → v < 4294967296 → stops (byte_at s n) ≡ true → sum_at s at d ≡ Ok (v, n)
  unfolding read_at
  whole_there e h stop =
      let left = 2 * (length s - at) in
      ap (λ (m : ℕ). read_in m s (whole at d)) (add-two left) ∙ sum_there left (e left) h stop

-- ---- the operand
-- a size that halves, well within 32 bits
pub record Halves (size : ℕ) : Type 0 where
  pub half : size / 2 + size / 2 ≡ size
  pub most : size ≤ 2 ^ 26

module _ (size x : ℕ) (inside : x < size) where
  fits : (signed : Bool) (at v n : ℕ) → 2147483648 ≤ v + below size signed → v + below size signed < 2147483648 + size → in_field size v ≡ x
      → fitted size signed at v n ≡ Ok (x, n)
  unfolding fitted
  fits signed at v n p q e =
      rw (le-leb 2147483648 (v + below size signed) p, lt-ltb (v + below size signed) (2147483648 + size) q) (ap (λ (y : ℕ). Ok (y, n)) e)

  in_plain : in_field size (x + 2147483648) ≡ x
  in_plain = rw (le-leb 2147483648 (x + 2147483648) (omega arith)) (omega arith)

  fits_plain : (signed : Bool) (at n : ℕ) → (signed && leb (size / 2) x) ≡ false → fitted size signed at (x + 2147483648) n ≡ Ok (x, n)
  fits_plain false at n f = fits false at (x + 2147483648) n (omega arith) (omega arith) in_plain
  fits_plain true at n f =
      let h : x < size / 2 = leb-false (size / 2) x f in fits true at (x + 2147483648) n (omega arith) (omega arith) in_plain

  fits_minus : Halves size → (at n : ℕ) → size / 2 ≤ x → fitted size true at (2147483648 - (size - x)) n ≡ Ok (x, n)
  fits_minus z at n h =
      let v = 2147483648 - (size - x) in
      fits true at v n (omega arith) (omega arith) (rw (lt-leb 2147483648 v (omega arith)) (omega arith))

  text_plain : (signed : Bool) → (signed && leb (size / 2) x) ≡ false → value_text size signed x ≡ digits 9 x
  unfolding value_text
  text_plain signed f = rw f

  text_minus : size / 2 ≤ x → value_text size true x ≡ 45 ∷ digits 9 (size - x)
  unfolding value_text
  text_minus h = rw (le-leb (size / 2) x h)

  module _ (z : Halves size) (s : List ℕ) (at : ℕ) (t : List ℕ) (stop : stops (get_or t 0 0) ≡ true) where
    -- by its one term
    read_as : (signed : Bool) (a : List ℕ) (v : ℕ) → drop at s ≡ a ++ t → ((k : ℕ) → read_in (suc k) s (term at 8) ≡ Ok (v, at + length a))
        → v < 4294967296 → fitted size signed at v (at + length a) ≡ Ok (x, at + length a) → operand_at s at size signed ≡ Ok (x, at + length a)
    read_as signed a v e r h f =
        let last : stops (byte_at s (at + length a)) ≡ true = ap stops (byte_there s (at + length a) t (drop-behind s at a t e)) ∙ stop in
        ap (λ (p : Parsed). and_then p (fitted size signed at)) (whole_there s at v (at + length a) 8 r h last) ∙ f

    plain_read_lem : (signed : Bool) → (signed && leb (size / 2) x) ≡ false → drop at s ≡ digits 9 x ++ t
        → operand_at s at size signed ≡ Ok (x, at + length (digits 9 x))
    plain_read_lem signed f e =
        read_as signed (digits 9 x) (x + 2147483648) e (λ k. term_there s at x t e (omega arith) stop (omega arith) k 8) (omega arith)
        (fits_plain signed at (at + length (digits 9 x)) f)

    minus_read : size / 2 ≤ x → drop at s ≡ 45 ∷ digits 9 (size - x) ++ t
        → operand_at s at size true ≡ Ok (x, at + length (45 ∷ digits 9 (size - x)))
    minus_read h e =
        let v = 2147483648 - (size - x) in
        let n : at + 1 + length (digits 9 (size - x)) ≡ at + length (45 ∷ digits 9 (size - x)) = omega arith in
        read_as true (45 ∷ digits 9 (size - x)) v e (λ k. minus_there s at (size - x) t e stop (omega arith) k 8 ∙ ap (λ (m : ℕ). Ok (v, m)) n) (omega arith)
        (fits_minus z at (at + length (45 ∷ digits 9 (size - x))) h)

    pub operand_there : (signed : Bool) → drop at s ≡ value_text size signed x ++ t
        → operand_at s at size signed ≡ Ok (x, at + length (value_text size signed x))
    operand_there signed = pick (leb (size / 2) x) refl signed
      where
        pick : (b : Bool) → leb (size / 2) x ≡ b → (signed : Bool) → drop at s ≡ value_text size signed x ++ t
            → operand_at s at size signed ≡ Ok (x, at + length (value_text size signed x))
        pick b q false = rw (text_plain false refl) (plain_read_lem false refl)
        pick true q true = let h = leb-true (size / 2) x q in rw (text_minus h) (minus_read h)
        pick false q true = rw (text_plain true q) (plain_read_lem true q)
