-- A number, digit by digit.
use mathlib.Core.Bool.{true}
use mathlib.Core.Path.{◌≡◌, refl, sym, ap, ◌∙◌}
use mathlib.Core.List.{List, [], ◌∷◌}
use Prim.Native.Nat.{ℕ, ◌+◌, ◌-◌, ◌*◌, ◌≤◌, ◌<◌}
use native.Mathlib.Omega.{arith}
use lib.Dec.{leb-zero}
use lib.ListN.{length, get_or, take, drop, length-drop}
use lib.Seq.{take_all}
use borrow.Author.Tests.{le-leb, lt-leb}
use Rattle.std.specs.Prelude.{Result, Ok, Err}
use Rattle.std.proofs.lemmas.List.{nil_from_length}
use Rattle.text.specs.Reading.{front, is_digit, decimal, number_of, number_at}
use Rattle.text.specs.declared.reading.Number.{Number}
use Rattle.text.proofs.Fronts.{front_more, front_stop, inside}

-- more digits make no number smaller
pub decimal_grows : (v : ℕ) (ds : List ℕ) → v ≤ decimal v ds
unfolding decimal
decimal_grows v [] = omega arith
decimal_grows v (c ∷ cs) = omega (arith, decimal_grows (10 * v + (c - 48)) cs)

-- after the digits before what is left of the line, which say v
pub record Reading (line : List ℕ) (at most v : ℕ) (left : List ℕ) : Type 0 where
  pub inside : at + length left ≤ length line
  pub small : v ≤ most
  pub value : decimal v (front is_digit left) ≡ decimal 0 (front is_digit (drop at line))
  pub place : length line + length (front is_digit left) ≡ at + length left + length (front is_digit (drop at line))

abbrev number : ℕ → ℕ → Result Number ℕ
number v next = Ok (record { value = v; next = next })

abbrev unfit : ℕ → Result Number ℕ
unfit column = Err column

module _ (ds : List ℕ) (at most : ℕ) where
  pub number_large : most < decimal 0 ds → unfit (at + 1) ≡ number_of ds at most
  unfolding number_of
  number_large h = simp lt-leb

  pub number_none : ds ≡ [] → unfit (at + 1) ≡ number_of ds at most
  unfolding number_of decimal
  number_none h = simp (h, leb-zero)

  pub number_read : (v i : ℕ) → decimal 0 ds ≡ v → at + length ds ≡ i → v ≤ most → at < i → number v i ≡ number_of ds at most
  unfolding number_of
  number_read v i e p h k =
      let n : 1 ≤ length ds = omega arith in
      simp (e, p, le-leb)

-- the front of digits: one digit more, or none
module _ (l : List ℕ) where
  next_digit : 1 ≤ length l → 48 ≤ get_or l 0 0 → get_or l 0 0 ≤ 57 → front is_digit l ≡ get_or l 0 0 ∷ front is_digit (drop 1 l)
  unfolding is_digit
  next_digit n h k = front_more is_digit l 0 (omega arith) (simp (le-leb 48 _ h, le-leb _ 57 k))

  pub no_byte : length l < 1 → front is_digit l ≡ []
  unfolding front
  no_byte h = ap (front is_digit) (nil_from_length l (omega arith))

  pub below_digits : get_or l 0 0 < 48 → front is_digit l ≡ []
  unfolding is_digit
  below_digits h = front_stop is_digit l 0 (simp (lt-leb 48 _ h))

  pub above_digits : 57 < get_or l 0 0 → front is_digit l ≡ []
  unfolding is_digit
  above_digits h =
      let k : 48 ≤ get_or l 0 0 = omega arith in
      front_stop is_digit l 0 (simp (le-leb 48 _ k, lt-leb _ 57 h))

module _ {line : List ℕ} {at most v : ℕ} {left : List ℕ} (r : Reading line at most v left) where
  module _ (n : 1 ≤ length left) (h : 48 ≤ get_or left 0 0) (k : get_or left 0 0 ≤ 57) where
    one_value : decimal (10 * v + (get_or left 0 0 - 48)) (front is_digit (drop 1 left)) ≡ decimal 0 (front is_digit (drop at line))
    unfolding decimal
    one_value = sym (ap (decimal v) (next_digit left n h k)) ∙ r.value

    pub one_more : {d : ℕ} → d ≡ get_or left 0 0 - 48 → 10 * v + d ≤ most
        → Reading line at most (10 * v + d) (take (length left - 1) (drop 1 left))
    one_more {d} e s =
        let t = take_all (length left - 1) (drop 1 left) (omega (arith, length-drop 1 left)) in
        rw (t, e) (record {
          inside = omega (arith, length-drop 1 left, r.inside);
          small = omega arith;
          value = one_value;
          place = omega (arith, length-drop 1 left, ap length (next_digit left n h k), r.place, r.inside);
        })

    pub too_large : most < 10 * v + (get_or left 0 0 - 48) → unfit (at + 1) ≡ number_at line at most
    unfolding number_at
    too_large s = number_large _ at most (omega (arith, decimal_grows (10 * v + (get_or left 0 0 - 48)) (front is_digit (drop 1 left)), one_value))

  -- no digit is left
  module _ (s : front is_digit left ≡ []) where
    pub none_read : length line - length left ≡ at → unfit (at + 1) ≡ number_at line at most
    unfolding number_at
    none_read e = number_none _ at most (nil_from_length _ (omega (arith, ap length s, r.place, r.inside)))

    pub all_read : (length line - length left ≡ at → ⊥) → number v (length line - length left) ≡ number_at line at most
    unfolding number_at decimal
    all_read e =
        let p : at + length (front is_digit (drop at line)) ≡ length line - length left = omega (arith, ap length s, r.place, r.inside) in
        number_read _ at most v _ (sym r.value ∙ ap (decimal v) s) p r.small (omega (arith, r.inside))

-- a digit lies within the line
pub digit_inside : (l : List ℕ) (i : ℕ) → is_digit (get_or l i 0) ≡ true → i < length l
unfolding is_digit
digit_inside l i t = inside is_digit l i refl t
