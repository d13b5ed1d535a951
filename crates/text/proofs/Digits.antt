-- Laws of decimal digits and of bytes in hexadecimal.
use mathlib.Core.Path.{◌≡◌, refl, ap, ap₂, ◌∙◌}
use mathlib.Core.Bool.{Bool, true, false}
use mathlib.Core.List.{List, [], ◌∷◌, ◌++◌, append_assoc}
use native.Mathlib.Numerals.{add-one}
use Prim.Native.Nat.{ℕ, zero, suc, ◌+◌, ◌-◌, ◌*◌, ◌/◌, ◌%◌, ◌^◌, ◌≤◌, ◌<◌}
use native.Mathlib.Nat.{pow-succ', add_assoc, not-suc-le-zero}
use native.Mathlib.Omega.{arith}
use borrow.Author.Tests.{lt-ltb, le-ltb}
use lib.Dec.{ltb}
use lib.ListN.{length, get_or, set, take, length-append, length-set}
use lib.Seq.{take-suc}
use Rattle.std.specs.Prelude.{if◌then◌else◌}
use Rattle.model.specs.Console.{digits}
use Rattle.text.specs.Text.{Appended, hex_digit, hex_of}
use Rattle.text.proofs.Appending.{byte, joined, same}

pub digits_one : (more n : ℕ) → n < 10 → digits more n ≡ (48 + n) ∷ []
unfolding digits
digits_one zero n h = refl
digits_one (suc more) n h = simp lt-ltb

digits_again : (more n : ℕ) → 10 ≤ n → 0 < more → digits more n ≡ digits (more - 1) (n / 10) ++ ((48 + n % 10) ∷ [])
unfolding digits
digits_again zero n h p = absurd (not-suc-le-zero p)
digits_again (suc more) n h p = let e : suc more - 1 ≡ more = omega arith in rw e (simp le-ltb)

-- with no digit more there is one only
pub more_digits : (more n : ℕ) → 10 ≤ n → n < 10 * 10 ^ more → 0 < more
more_digits zero n h k = omega arith
more_digits (suc more) n h k = omega arith

-- what is left has one digit less
pub fewer_digits : (more n : ℕ) → 0 < more → n < 10 * 10 ^ more → n / 10 < 10 * 10 ^ (more - 1)
fewer_digits zero n p h = absurd (not-suc-le-zero p)
fewer_digits (suc more) n p h = let e : suc more - 1 ≡ more = omega arith in rw e (omega (arith, pow-succ' 10 more))

pub length_digits : (more n : ℕ) → length (digits more n) ≤ more + 1
unfolding digits
length_digits zero n = omega arith
length_digits (suc more) n =
    pick (ltb n 10) ((48 + n) ∷ []) (digits more (n / 10)) (48 + n % 10) (omega arith) (length_digits more (n / 10))
  where
    pick : (b : Bool) (x l : List ℕ) (y : ℕ) → length x ≡ 1 → length l ≤ more + 1 → length (if b then x else l ++ (y ∷ [])) ≤ suc more + 1
    pick true x l y e h = omega arith
    pick false x l y e h = omega (arith, length-append l (y ∷ []))

-- the last digit is put behind those of the number without it
pub last_digit : {d e : List ℕ} {at to : ℕ} (more n : ℕ) → 10 ≤ n → 0 < more → to < length e
    → Appended d at e to (digits (more - 1) (n / 10)) → Appended d at (set e to (48 + n % 10)) (to + 1) (digits more n)
last_digit {e = e} {to = to} more n h p r a = rw (digits_again more n) (joined a (byte e to (48 + n % 10) r))

-- ---- hexadecimal
hex_of_append : (a b : List ℕ) → hex_of (a ++ b) ≡ hex_of a ++ hex_of b
unfolding hex_of
hex_of_append [] b = refl
hex_of_append (x ∷ a) b = ap (λ (l : List ℕ). hex_digit (x / 16) ∷ hex_digit (x % 16) ∷ l) (hex_of_append a b)

hex_next : (l : List ℕ) (i x y : ℕ) → i < length l → x ≡ hex_digit (get_or l i 0 / 16) → y ≡ hex_digit (get_or l i 0 % 16)
    → hex_of (take i l) ++ (x ∷ y ∷ []) ≡ hex_of (take (i + 1) l)
unfolding hex_of
hex_next l i x y h p q =
    rw (add-one, take-suc l i 0 h, hex_of_append)
    (ap₂ (λ (u v : ℕ). hex_of (take i l) ++ (u ∷ v ∷ [])) p q)

-- a byte's two digits are put behind those of the bytes before it
pub hex_step : {d e : List ℕ} {at to : ℕ} (l : List ℕ) (i x y : ℕ) → i < length l → to + 1 < length e
    → x ≡ hex_digit (get_or l i 0 / 16) → y ≡ hex_digit (get_or l i 0 % 16) → Appended d at e to (hex_of (take i l))
    → Appended d at (set (set e to x) (to + 1) y) (to + 2) (hex_of (take (i + 1) l))
hex_step {e = e} {to = to} l i x y h r p q a =
    rw (← add_assoc to 1 1)
    (same (joined (joined a (byte e to x (omega arith))) (byte (set e to x) (to + 1) y (simp length-set r)))
    (append_assoc (hex_of (take i l)) (x ∷ []) (y ∷ []) ∙ hex_next l i x y h p q))
