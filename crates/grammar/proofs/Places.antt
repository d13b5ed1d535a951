-- Laws of the parts of a sum: blanks, a byte that is no 0, a number, and two values that are joined.
use mathlib.Core.Bool.{Bool, true, false, ◌&&◌}
use mathlib.Core.Path.{◌≡◌, refl, ap, subst}
use mathlib.Core.List.{List}
use mathlib.Core.Logic.{◌⊎◌, inl, inr}
use Prim.Native.Nat.{ℕ, ◌+◌, ◌-◌, ◌≤◌, ◌<◌, ◌^◌}
use native.Mathlib.Omega.{arith}
use lib.Dec.{eqb, leb, ltb}
use lib.ListN.{length, drop}
use borrow.Author.Tests.{eqb-true, leb-true, ltb-true, lt-ltb}
use Rattle.std.specs.Prelude.{if◌then◌else◌, Ok, Err}
use Rattle.model.specs.declared.Refusal.{Refusal}
use Rattle.model.specs.declared.Refusal.TheVariants.{Operand, Overflow}
use Rattle.laws.proofs.Choice.{and_left, and_right, chosen}
use Rattle.text.specs.Reading as reading
use Rattle.text.specs.Reading.{front, is_digit, decimal, number_of}
use Rattle.text.proofs.Fronts.{front_more, front_stop, front_inside, inside}
use Rattle.text.proofs.Numbers.{digit_inside}
use Rattle.notation.specs.Sums.{is_blank, byte_at, skipped, numbered, number_at, kept, joined}
use Rattle.notation.specs.Answers.{Parsed, wrong}

-- ---- blanks, and bytes that are no 0
pub blank_inside : (s : List ℕ) (i : ℕ) → is_blank (byte_at s i) ≡ true → i < length s
unfolding is_blank
blank_inside s i h = inside is_blank s i refl h

pub skip_more : (s : List ℕ) (i : ℕ) → is_blank (byte_at s i) ≡ true → skipped s i ≡ skipped s (i + 1)
unfolding skipped
skip_more s i h = omega (arith, ap length (front_more is_blank s i (blank_inside s i h) h))

pub skip_none : (s : List ℕ) (i : ℕ) → is_blank (byte_at s i) ≡ false → skipped s i ≡ i
unfolding skipped
skip_none s i h = omega (arith, ap length (front_stop is_blank s i h))

pub skip_from : (s : List ℕ) (i : ℕ) → i ≤ skipped s i
unfolding skipped
skip_from s i = omega arith

pub skip_inside : (s : List ℕ) (i : ℕ) → i ≤ length s → skipped s i ≤ length s
unfolding skipped
skip_inside s i h = front_inside is_blank s i h

pub byte_inside : (s : List ℕ) (i : ℕ) → 0 < byte_at s i → i < length s
byte_inside s i h = inside (ltb 0) s i refl (lt-ltb 0 (byte_at s i) h)

-- a byte that is read as one that is no 0
pub known_inside : (s : List ℕ) (i b : ℕ) → 0 < b → eqb (byte_at s i) b ≡ true → i < length s
known_inside s i b h t = byte_inside s i (omega (arith, eqb-true (byte_at s i) b t))

-- the refusals of a sum
abbrev pub OfSum : Refusal → Type 0
OfSum r = (r ≡ Operand) ⊎ (r ≡ Overflow)

-- ---- a number
abbrev pub IsNumber : ℕ → ℕ → ℕ → Parsed → Type 0
IsNumber at end most (Ok (v, n)) = (at < n) × (n ≤ end) × (v ≤ most)
IsNumber at end most (Err w) = (w.place ≡ at) × OfSum w.refusal

pub is_number : (s : List ℕ) (at most : ℕ) → IsNumber at (length s) most (number_at s at most)
unfolding number_at reading.number_at number_of
is_number s at most =
    let ds = front is_digit (drop at s) in
    let low = leb (decimal 0 ds) most in
    let some = leb 1 (length ds) in
    chosen (IsNumber at (length s) most) (is_digit (byte_at s at))
    (λ d. chosen (λ p. IsNumber at (length s) most (numbered at p)) (low && some)
    (λ t. let n : 1 ≤ length ds = leb-true 1 (length ds) (and_right low some t) in
    let h : at < length s = digit_inside s at d in
    (omega arith, front_inside is_digit s at (omega arith), leb-true (decimal 0 ds) most (and_left low some t)))
    (λ _. (refl, inr refl)))
    (λ _. (refl, inl refl))

pub number_value : (s : List ℕ) (at most v n : ℕ) → number_at s at most ≡ Ok (v, n) → (at < n) × (n ≤ length s) × (v ≤ most)
number_value s at most v n e = subst (IsNumber at (length s) most) e (is_number s at most)

pub number_wrong : (s : List ℕ) (at most : ℕ) (r : Refusal) (p : ℕ) → number_at s at most ≡ Err (wrong r p) → p ≡ at
number_wrong s at most r p e = (subst (IsNumber at (length s) most) e (is_number s at most)).0

-- ---- a sum of two
abbrev pub IsKept : ℕ → ℕ → Parsed → Type 0
IsKept at n (Ok (v, m)) = (m ≡ n) × (v < 2 ^ 32)
IsKept at n (Err w) = (w.place ≡ at) × OfSum w.refusal

is_kept : (at v n : ℕ) → IsKept at n (kept at v n)
unfolding kept
is_kept at v n =
    chosen (IsKept at n) (leb 2147483648 v && ltb v 6442450944)
    (λ t. let h : v < 6442450944 = ltb-true v 6442450944 (and_right (leb 2147483648 v) (ltb v 6442450944) t) in (refl, omega arith))
    (λ _. (refl, inr refl))

pub is_joined : (at acc : ℕ) (minus : Bool) (v n : ℕ) → IsKept at n (joined at acc minus v n)
is_joined at acc minus v n = is_kept at (if minus then acc + 4294967296 - v else acc + v) n

pub joined_value : (at acc : ℕ) (minus : Bool) (v n w m : ℕ) → joined at acc minus v n ≡ Ok (w, m) → (m ≡ n) × (w < 2 ^ 32)
joined_value at acc minus v n w m e = subst (IsKept at n) e (is_joined at acc minus v n)

pub joined_wrong : (at acc : ℕ) (minus : Bool) (v n : ℕ) (r : Refusal) (p : ℕ) → joined at acc minus v n ≡ Err (wrong r p) → p ≡ at
joined_wrong at acc minus v n r p e = (subst (IsKept at n) e (is_joined at acc minus v n)).0
