-- The marks, bit f for frame f: one set, one cleared, and how large they are.
use mathlib.Core.Path.{◌≡◌, refl, sym, ap, ap₂, ◌∙◌}
use mathlib.Core.Bool.{true, false}
use Prim.Native.Nat.{ℕ, zero, suc, ◌+◌, ◌-◌, ◌*◌, ◌/◌, ◌%◌, ◌^◌, ◌<◌, ◌≤◌}
use native.Mathlib.Nat.{lt_of_lt_of_le, lt_of_le_of_lt, mod-lt, zero-div, div-eq_of_lt, pow-suc, mul-mod_left}
use native.Mathlib.Decide.{dec_lt}
use native.Mathlib.Omega.{arith}
use lib.Arith.{bin_ind}
use lib.Dec.{eqb}
use lib.Pow.{pow_pos, pow-lt, pow_mono, pow-add, shl-shr, split}
use lib.Bits.{bit_and, bit_or, bit_xor, or_shr, or_mod, or_lt, or_zero_r, or_self, and_shr, and_mod, and_le_l, and_zero_r, xor_shr, xor_mod, xor_lt, xor_zero_r}
use Rattle.model.specs.Words.{field}
use Rattle.model.specs.Frames.{marked, with_mark, without_mark}

-- ---- single bits
pub or_bit : (a b f : ℕ) → field f 1 (bit_or a b) ≡ bit_or (field f 1 a) (field f 1 b)
or_bit a b f = ap (λ (x : ℕ). x % 2) (or_shr a b f) ∙ or_mod (a / 2 ^ f) (b / 2 ^ f) 1

and_bit : (a b f : ℕ) → field f 1 (bit_and a b) ≡ bit_and (field f 1 a) (field f 1 b)
and_bit a b f = ap (λ (x : ℕ). x % 2) (and_shr a b f) ∙ and_mod (a / 2 ^ f) (b / 2 ^ f) 1

xor_bit : (a b f : ℕ) → field f 1 (bit_xor a b) ≡ bit_xor (field f 1 a) (field f 1 b)
xor_bit a b f = ap (λ (x : ℕ). x % 2) (xor_shr a b f) ∙ xor_mod (a / 2 ^ f) (b / 2 ^ f) 1

without_bit : (m f g : ℕ) → field g 1 (without_mark m f) ≡ bit_xor (field g 1 m) (bit_and (field g 1 m) (field g 1 (2 ^ f)))
without_bit m f g = xor_bit m (bit_and m (2 ^ f)) g ∙ ap (bit_xor (field g 1 m)) (and_bit m (2 ^ f) g)

-- the bits of a power
power_shr : (k p : ℕ) → k ≤ p → 2 ^ p / 2 ^ k ≡ 2 ^ (p - k)
power_shr k p q =
    let e : p ≡ p - k + k = omega arith in
    ap (λ (x : ℕ). 2 ^ x / 2 ^ k) e ∙ ap (λ (x : ℕ). x / 2 ^ k) (pow-add 2 (p - k) k) ∙ shl-shr (2 ^ (p - k)) k

power_here : (f : ℕ) → field f 1 (2 ^ f) ≡ 1
power_here f =
    let e : f - f ≡ 0 = omega arith in
    let q : f ≤ f = omega arith in
    ap (λ (x : ℕ). x % 2) (power_shr f f q ∙ ap (λ (x : ℕ). 2 ^ x) e)

power_other : (f g : ℕ) → (g ≡ f → ⊥) → field g 1 (2 ^ f) ≡ 0
power_other f g n = pick (dec_lt g f)
  where
    pick : Dec (g < f) → field g 1 (2 ^ f) ≡ 0
    pick (yes h) =
        let e : f - g ≡ suc (f - g - 1) = omega arith in
        let q : g ≤ f = omega arith in
        ap (λ (x : ℕ). x % 2) (power_shr g f q ∙ ap (λ (x : ℕ). 2 ^ x) e ∙ pow-suc 2 (f - g - 1)) ∙ mul-mod_left (2 ^ (f - g - 1)) 2
    pick (no h) = let q : f < g = omega arith in ap (λ (x : ℕ). x % 2) (div-eq_of_lt (pow-lt q))

-- a bit with 1
or_one : (x : ℕ) → x < 2 → bit_or x 1 ≡ 1
or_one zero h = refl
or_one (suc zero) h = refl
or_one (suc (suc x)) h = absurd (omega arith)

clear_one : (x : ℕ) → x < 2 → bit_xor x (bit_and x 1) ≡ 0
clear_one zero h = refl
clear_one (suc zero) h = refl
clear_one (suc (suc x)) h = absurd (omega arith)

-- `bit_or` is associative: of bits, and so of numbers
assoc_bits : (x y z : ℕ) → x < 2 → y < 2 → z < 2 → bit_or (bit_or x y) z ≡ bit_or x (bit_or y z)
assoc_bits zero y z p q r = refl
assoc_bits (suc zero) zero z p q r = refl
assoc_bits (suc zero) (suc zero) zero p q r = refl
assoc_bits (suc zero) (suc zero) (suc zero) p q r = refl
assoc_bits (suc zero) (suc zero) (suc (suc z)) p q r = absurd (omega arith)
assoc_bits (suc zero) (suc (suc y)) z p q r = absurd (omega arith)
assoc_bits (suc (suc x)) y z p q r = absurd (omega arith)

pub or_assoc : (a b c : ℕ) → bit_or (bit_or a b) c ≡ bit_or a (bit_or b c)
or_assoc a =
    bin_ind (λ (n : ℕ). (b c : ℕ) → bit_or (bit_or n b) c ≡ bit_or n (bit_or b c)) (λ b c. refl)
    (λ n ih b c. sym (split (bit_or (bit_or n b) c) 1)
    ∙ ap₂ (λ (x y : ℕ). x * 2 + y) (halves n b c (ih (b / 2) (c / 2))) (lows n b c)
    ∙ split (bit_or n (bit_or b c)) 1) a
  where
    two : (n : ℕ) → n % 2 < 2
    two n = mod-lt n (pow_pos 1)

    halves : (n b c : ℕ) → bit_or (bit_or (n / 2) (b / 2)) (c / 2) ≡ bit_or (n / 2) (bit_or (b / 2) (c / 2))
        → bit_or (bit_or n b) c / 2 ≡ bit_or n (bit_or b c) / 2
    halves n b c e =
        or_shr (bit_or n b) c 1 ∙ ap (λ (x : ℕ). bit_or x (c / 2)) (or_shr n b 1) ∙ e
        ∙ sym (or_shr n (bit_or b c) 1 ∙ ap (bit_or (n / 2)) (or_shr b c 1))

    lows : (n b c : ℕ) → bit_or (bit_or n b) c % 2 ≡ bit_or n (bit_or b c) % 2
    lows n b c =
        or_mod (bit_or n b) c 1 ∙ ap (λ (x : ℕ). bit_or x (c % 2)) (or_mod n b 1) ∙ assoc_bits (n % 2) (b % 2) (c % 2) (two n) (two b) (two c)
        ∙ sym (or_mod n (bit_or b c) 1 ∙ ap (bit_or (n % 2)) (or_mod b c 1))

-- ---- one set
pub mark_here : (m f : ℕ) → marked (with_mark m f) f ≡ true
mark_here m f =
    ap (λ (x : ℕ). eqb x 1) (or_bit m (2 ^ f) f ∙ ap (bit_or (field f 1 m)) (power_here f) ∙ or_one (field f 1 m) (mod-lt (m / 2 ^ f) (pow_pos 1)))

pub mark_other : (m f g : ℕ) → (g ≡ f → ⊥) → marked (with_mark m f) g ≡ marked m g
mark_other m f g n =
    ap (λ (x : ℕ). eqb x 1) (or_bit m (2 ^ f) g ∙ ap (bit_or (field g 1 m)) (power_other f g n) ∙ or_zero_r (field g 1 m))

pub mark_twice : (m f : ℕ) → with_mark (with_mark m f) f ≡ with_mark m f
mark_twice m f = or_assoc m (2 ^ f) (2 ^ f) ∙ ap (bit_or m) (or_self (2 ^ f))

-- ---- one cleared
pub clear_here : (m f : ℕ) → marked (without_mark m f) f ≡ false
clear_here m f =
    ap (λ (x : ℕ). eqb x 1)
    (without_bit m f f ∙ ap (λ (x : ℕ). bit_xor (field f 1 m) (bit_and (field f 1 m) x)) (power_here f)
    ∙ clear_one (field f 1 m) (mod-lt (m / 2 ^ f) (pow_pos 1)))

pub clear_other : (m f g : ℕ) → (g ≡ f → ⊥) → marked (without_mark m f) g ≡ marked m g
clear_other m f g n =
    ap (λ (x : ℕ). eqb x 1)
    (without_bit m f g ∙ ap (λ (x : ℕ). bit_xor (field g 1 m) (bit_and (field g 1 m) x)) (power_other f g n)
    ∙ ap (bit_xor (field g 1 m)) (and_zero_r (field g 1 m)) ∙ xor_zero_r (field g 1 m))

pub clear_none : (f : ℕ) → without_mark 0 f ≡ 0
clear_none f = refl

-- ---- those of n frames
pub mark_most : (n m f : ℕ) → m < 2 ^ n → f < n → with_mark m f < 2 ^ n
mark_most n m f h q = or_lt n m (2 ^ f) h (pow-lt q)

pub clear_most : (n m f : ℕ) → m < 2 ^ n → without_mark m f < 2 ^ n
clear_most n m f h = xor_lt n m (bit_and m (2 ^ f)) h (lt_of_le_of_lt (and_le_l m (2 ^ f)) h)

pub more_most : (n k m : ℕ) → n ≤ k → m < 2 ^ n → m < 2 ^ k
more_most n k m q h = lt_of_lt_of_le h (pow_mono q)

pub beyond : (n m f : ℕ) → m < 2 ^ n → n ≤ f → marked m f ≡ false
beyond n m f h q = ap (λ (x : ℕ). eqb (x % 2) 1) (div-eq_of_lt (more_most n f m q h))

-- ---- the main pages that were stored to, bit p for page p, from page k on: one more
pub mark_joined : (k p m t : ℕ) → k ≤ p → with_mark (bit_or m (t / 2 ^ k)) (p - k) ≡ bit_or m (bit_or t (2 ^ p) / 2 ^ k)
mark_joined k p m t q =
    or_assoc m (t / 2 ^ k) (2 ^ (p - k)) ∙ ap (bit_or m) (sym (or_shr t (2 ^ p) k ∙ ap (bit_or (t / 2 ^ k)) (power_shr k p q)))

pub joined_none : (k m : ℕ) → bit_or m (0 / 2 ^ k) ≡ m
joined_none k m = ap (bit_or m) (zero-div (2 ^ k)) ∙ or_zero_r m

pub joined_most : (k p t : ℕ) → k ≤ p → p < k + 32 → t / 2 ^ k < 2 ^ 32 → bit_or t (2 ^ p) / 2 ^ k < 2 ^ 32
joined_most k p t q r h =
    let l : p - k < 32 = omega arith in
    rw (or_shr t (2 ^ p) k, power_shr k p q) (or_lt 32 (t / 2 ^ k) (2 ^ (p - k)) h (pow-lt l))
