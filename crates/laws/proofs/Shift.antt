-- The signed shift: its answers are those that it gave before, and bit 31 fills the bits that come in at the top.
use mathlib.Core.Path.{◌≡◌, sym, ap, ◌∙◌}
use Prim.Native.Nat.{ℕ, suc, ◌+◌, ◌-◌, ◌*◌, ◌/◌, ◌%◌, ◌^◌, ◌≤◌, ◌<◌}
use native.Mathlib.Nat.{add_comm, mul_assoc, div-eq_of_lt, zero-div, zero-mul, mul-zero, one-mul, mul-one, lt_of_lt_of_le}
use native.Mathlib.Decide.{dec_lt}
use native.Mathlib.Omega.{arith}
use borrow.Author.Tests.{lt-ltb, le-ltb}
use lib.Dec.{ltb, eqb}
use lib.Pow.{pow_pos, pow_mono, pow-add, shl-shr, shr-shr, shr_lt, high, low, ones_lt, ones_split, high_ones}
use lib.Bits.{bit_or, or_zero_r, or_shifted_r, shifted_even}
use Rattle.std.specs.Prelude.{if◌then◌else◌}
use Rattle.model.specs.Words.{field, top_ones, fill, shift_signed}
use Rattle.laws.specs.Shift.{AsItWas, Filled}
use Rattle.laws.proofs.Marks.{or_bit}

-- what a bit chooses
if_clear : (s t : ℕ) → s ≡ 0 → (if eqb s 1 then t else 0) ≡ 0
if_clear s t e = ap (λ (k : ℕ). if eqb k 1 then t else 0) e

if_set : (s t : ℕ) → s ≡ 1 → (if eqb s 1 then t else 0) ≡ t
if_set s t e = ap (λ (k : ℕ). if eqb k 1 then t else 0) e

-- bit 31 of a word, clear or set, and what it fills in
clear : (x : ℕ) → x < 2 ^ 31 → field 31 1 x ≡ 0
clear x h = ap (λ (k : ℕ). k % 2) (div-eq_of_lt h)

set : (x : ℕ) → x < 2 ^ 32 → 2 ^ 31 ≤ x → field 31 1 x ≡ 1
set x b h = omega arith

fill_clear : (x n : ℕ) → x < 2 ^ 31 → fill x n ≡ 0
fill_clear x n h = if_clear (field 31 1 x) _ (clear x h)

fill_set : (x n : ℕ) → x < 2 ^ 32 → 2 ^ 31 ≤ x → fill x n ≡ top_ones n
fill_set x n b h = if_set (field 31 1 x) _ (set x b h)

-- ones, shifted: as many fewer
ones_shr : (j k : ℕ) → (2 ^ (j + k) - 1) / 2 ^ k ≡ 2 ^ j - 1
ones_shr j k = ap (λ (m : ℕ). m / 2 ^ k) (ones_split j k) ∙ high (2 ^ j - 1) k (ones_lt k)

module _ (n : ℕ) (h : n < 32) where
  -- the n top bits as a number, and as n ones above the rest
  top_less : top_ones n ≡ 2 ^ 32 - 2 ^ (32 - n)
  top_less =
      let e : 32 - n + n ≡ 32 = omega arith in
      let s : (2 ^ 32 - 1) / 2 ^ n ≡ 2 ^ (32 - n) - 1 = ap (λ (k : ℕ). (2 ^ k - 1) / 2 ^ n) (sym e) ∙ ones_shr (32 - n) n in
      let p : 0 < 2 ^ (32 - n) = pow_pos (32 - n) in
      omega (arith, s, p)

  top_above : top_ones n ≡ (2 ^ n - 1) * 2 ^ (32 - n)
  top_above =
      let e : n + (32 - n) ≡ 32 = omega arith in
      top_less ∙ ap (λ (k : ℕ). 2 ^ k - 2 ^ (32 - n)) (sym e) ∙ high_ones n (32 - n)

  -- bit i of it
  top_clear : (i : ℕ) → i + n < 32 → field i 1 (top_ones n) ≡ 0
  top_clear i q =
      let a : ℕ = 2 ^ n - 1 in
      let k : ℕ = 31 - n - i in
      let e : 32 - n ≡ suc k + i = omega arith in
      let m : (2 ^ n - 1) * 2 ^ (32 - n) ≡ a * 2 ^ suc k * 2 ^ i =
      ap (λ (t : ℕ). a * 2 ^ t) e ∙ ap (λ (t : ℕ). a * t) (pow-add 2 (suc k) i) ∙ sym (mul_assoc a (2 ^ suc k) (2 ^ i)) in
      ap (λ (t : ℕ). t / 2 ^ i % 2) (top_above ∙ m) ∙ ap (λ (t : ℕ). t % 2) (shl-shr (a * 2 ^ suc k) i) ∙ shifted_even a k

  top_set : (i : ℕ) → i < 32 → 32 ≤ i + n → field i 1 (top_ones n) ≡ 1
  top_set i b q =
      let j : ℕ = i + n - 32 in
      let m : ℕ = 31 - i in
      let ei : i ≡ 32 - n + j = omega arith in
      let en : n ≡ m + 1 + j = omega arith in
      let above : top_ones n / 2 ^ (32 - n) ≡ 2 ^ n - 1 = ap (λ (t : ℕ). t / 2 ^ (32 - n)) top_above ∙ shl-shr (2 ^ n - 1) (32 - n) in
      let ones : top_ones n / 2 ^ i ≡ 2 ^ (m + 1) - 1 =
      ap (λ (t : ℕ). top_ones n / 2 ^ t) ei ∙ sym (shr-shr (top_ones n) (32 - n) j) ∙ ap (λ (t : ℕ). t / 2 ^ j) above
      ∙ ap (λ (t : ℕ). (2 ^ t - 1) / 2 ^ j) en ∙ ones_shr (m + 1) j in
      ap (λ (t : ℕ). t % 2) (ones ∙ ones_split m 1) ∙ low (2 ^ m - 1) 1 (ones_lt 1)

pub as_it_was : AsItWas
as_it_was x n b h = pick (dec_lt x (2 ^ 31))
  where
    pick : Dec (x < 2 ^ 31) → shift_signed x n ≡ (if ltb x (2 ^ 31) then x / 2 ^ n else x / 2 ^ n + (2 ^ 32 - 2 ^ (32 - n)))
    pick (yes l) = rw (lt-ltb x (2 ^ 31) l) (ap (bit_or (x / 2 ^ n)) (fill_clear x n l) ∙ or_zero_r (x / 2 ^ n))
    pick (no l) =
        let g : 2 ^ 31 ≤ x = omega arith in
        let e : 32 - n + n ≡ 32 = omega arith in
        let small : x / 2 ^ n < 2 ^ (32 - n) = shr_lt (32 - n) n (rw e b) in
        rw (le-ltb x (2 ^ 31) g)
        (ap (bit_or (x / 2 ^ n)) (fill_set x n b g ∙ top_above n h) ∙ or_shifted_r (2 ^ n - 1) (32 - n) (x / 2 ^ n) small
        ∙ ap (λ (k : ℕ). k + x / 2 ^ n) (sym (top_above n h) ∙ top_less n h) ∙ add_comm (2 ^ 32 - 2 ^ (32 - n)) (x / 2 ^ n))

pub filled : Filled
filled x n i b h q = or_bit (x / 2 ^ n) (fill x n) i ∙ pick (dec_lt (i + n) 32)
  where
    moved : field i 1 (x / 2 ^ n) ≡ field (i + n) 1 x
    moved = ap (λ (k : ℕ). k % 2) (shr-shr x n i ∙ ap (λ (k : ℕ). x / 2 ^ k) (add_comm n i))

    -- the fill is as bit 31 says
    sign : (c : ℕ) → field i 1 (top_ones n) ≡ c → field i 1 (fill x n) ≡ field 31 1 x * c
    sign c e = with31 (dec_lt x (2 ^ 31))
      where
        with31 : Dec (x < 2 ^ 31) → field i 1 (fill x n) ≡ field 31 1 x * c
        with31 (yes l) =
            ap (field i 1) (fill_clear x n l) ∙ ap (λ (k : ℕ). k % 2) (zero-div (2 ^ i)) ∙ sym (ap (λ (k : ℕ). k * c) (clear x l) ∙ zero-mul c)
        with31 (no l) =
            let g : 2 ^ 31 ≤ x = omega arith in
            ap (field i 1) (fill_set x n b g) ∙ e ∙ sym (ap (λ (k : ℕ). k * c) (set x b g) ∙ one-mul c)

    pick : Dec (i + n < 32) → bit_or (field i 1 (x / 2 ^ n)) (field i 1 (fill x n)) ≡ (if ltb (i + n) 32 then field (i + n) 1 x else field 31 1 x)
    pick (yes l) =
        rw (lt-ltb (i + n) 32 l)
        (ap (bit_or (field i 1 (x / 2 ^ n))) (sign 0 (top_clear n h i l) ∙ mul-zero (field 31 1 x)) ∙ or_zero_r (field i 1 (x / 2 ^ n)) ∙ moved)
    pick (no l) =
        let g : 32 ≤ i + n = omega arith in
        let none : field i 1 (x / 2 ^ n) ≡ 0 = moved ∙ ap (λ (k : ℕ). k % 2) (div-eq_of_lt (lt_of_lt_of_le b (pow_mono g))) in
        rw (le-ltb (i + n) 32 g)
        (ap (λ (k : ℕ). bit_or k (field i 1 (fill x n))) none ∙ sign 1 (top_set n h i q g) ∙ mul-one (field 31 1 x))
