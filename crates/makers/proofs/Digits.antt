-- The decimal digits of a number: they are digits, at least one, and they say the number.
use mathlib.Core.Bool.{true}
use mathlib.Core.Path.{◌≡◌, refl, ◌∙◌}
use mathlib.Core.List.{List, [], ◌∷◌, ◌++◌}
use Prim.Native.Nat.{ℕ, zero, suc, ◌+◌, ◌-◌, ◌*◌, ◌/◌, ◌%◌, ◌^◌, ◌≤◌, ◌<◌}
use native.Mathlib.Nat.{pow-succ'}
use native.Mathlib.Omega.{arith}
use borrow.Author.Tests.{ltb-true, le-leb}
use lib.Dec.{ltb, leb}
use lib.ListN.{length, length-append}
use Rattle.model.specs.Console.{digits}
use Rattle.laws.proofs.Choice.{and_both, chosen}
use Rattle.text.specs.Reading.{is_digit, decimal}
use Rattle.makers.proofs.Every.{every, every_append}

digit : (n : ℕ) → n < 10 → is_digit (48 + n) ≡ true
unfolding is_digit
digit n h = and_both (leb 48 (48 + n)) (leb (48 + n) 57) (le-leb 48 (48 + n) (omega arith)) (le-leb (48 + n) 57 (omega arith))

one_digit : (n : ℕ) → n < 10 → every is_digit ((48 + n) ∷ []) ≡ true
unfolding every
one_digit n h = and_both (is_digit (48 + n)) true (digit n h) refl

pub digits_every : (more n : ℕ) → n < 10 * 10 ^ more → every is_digit (digits more n) ≡ true
unfolding digits
digits_every zero n h = one_digit n (omega arith)
digits_every (suc more) n h =
    chosen (λ (l : List ℕ). every is_digit l ≡ true) (ltb n 10)
    (λ t. one_digit n (ltb-true n 10 t))
    (λ t. every_append is_digit (digits more (n / 10)) ((48 + n % 10) ∷ [])
    (digits_every more (n / 10) (omega (arith, pow-succ' 10 more)))
    (one_digit (n % 10) (omega arith)))

pub digits_some : (more n : ℕ) → 1 ≤ length (digits more n)
unfolding digits
digits_some zero n = omega arith
digits_some (suc more) n =
    chosen (λ (l : List ℕ). 1 ≤ length l) (ltb n 10) (λ t. omega arith)
    (λ t. omega (arith, length-append (digits more (n / 10)) ((48 + n % 10) ∷ [])))

decimal_append : (v : ℕ) (a b : List ℕ) → decimal v (a ++ b) ≡ decimal (decimal v a) b
unfolding decimal
decimal_append v [] b = refl
decimal_append v (c ∷ a) b = decimal_append (10 * v + (c - 48)) a b

decimal_one : (v n : ℕ) → decimal v ((48 + n) ∷ []) ≡ 10 * v + n
unfolding decimal
decimal_one v n = omega arith

pub digits_say : (more n : ℕ) → n < 10 * 10 ^ more → decimal 0 (digits more n) ≡ n
unfolding digits
digits_say zero n h = decimal_one 0 n ∙ omega arith
digits_say (suc more) n h =
    chosen (λ (l : List ℕ). decimal 0 l ≡ n) (ltb n 10) (λ t. decimal_one 0 n ∙ omega arith)
    (λ t. decimal_append 0 (digits more (n / 10)) ((48 + n % 10) ∷ [])
    ∙ decimal_one (decimal 0 (digits more (n / 10))) (n % 10)
    ∙ omega (arith, digits_say more (n / 10) (omega (arith, pow-succ' 10 more))))
