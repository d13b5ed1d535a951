-- The line of a number begins with a digit, that of a name does not.
use mathlib.Core.Path.{◌≡◌, refl, sym, ap, ◌∙◌}
use mathlib.Core.Bool.{Bool, true, false, not, true≢false}
use mathlib.Core.List.{List, [], ◌∷◌, ◌++◌}
use Prim.Native.Nat.{ℕ, zero, suc, ◌+◌, ◌*◌, ◌/◌, ◌%◌, ◌^◌, ◌≤◌, ◌<◌}
use native.Mathlib.Nat.{pow-succ'}
use native.Mathlib.Omega.{arith}
use borrow.Author.Tests.{le-leb, ltb-true, not-true}
use lib.Dec.{ltb}
use Rattle.std.specs.Prelude.{if◌then◌else◌}
use Rattle.model.specs.Console.{digits}
use Rattle.text.specs.Reading.{is_digit}
use Rattle.notation.specs.Table.{rows, spelled}
use Rattle.notation.specs.Sums.{byte_at}
use Rattle.makers.proofs.ByMnemonicFirst.{all}

-- a list whose first byte is a digit
record Begins (l : List ℕ) : Type 0 where
  byte : ℕ
  behind : List ℕ
  whole : l ≡ byte ∷ behind
  digit : is_digit byte ≡ true

digit_is : (x : ℕ) → x < 10 → is_digit (48 + x) ≡ true
unfolding is_digit
digit_is x h =
    let above : 48 ≤ 48 + x = omega arith in
    let below : 48 + x ≤ 57 = omega arith in
    simp le-leb

digits_begin : (n x : ℕ) → x < 10 * 10 ^ n → Begins (digits n x)
unfolding digits
digits_begin zero x h = record { byte = 48 + x; behind = []; whole = refl; digit = digit_is x (omega arith) }
digits_begin (suc n) x h = pick (ltb x 10) refl (digits_begin n (x / 10) (omega (arith, pow-succ' 10 n)))
  where
    pick : (b : Bool) → ltb x 10 ≡ b → Begins (digits n (x / 10)) → Begins (if b then (48 + x) ∷ [] else digits n (x / 10) ++ ((48 + x % 10) ∷ []))
    pick true q later = record { byte = 48 + x; behind = []; whole = refl; digit = digit_is x (ltb-true x 10 q) }
    pick false q later = record {
      byte = later.byte;
      behind = later.behind ++ ((48 + x % 10) ∷ []);
      whole = ap (λ (l : List ℕ). l ++ ((48 + x % 10) ∷ [])) later.whole;
      digit = later.digit;
    }

pub number_begins : (w : ℕ) → w < 2 ^ 32 → is_digit (byte_at (digits 9 w) 0) ≡ true
number_begins w h =
    let b = digits_begin 9 w (omega arith) in
    ap (λ (l : List ℕ). is_digit (byte_at l 0)) b.whole ∙ b.digit

-- a name, as the table has them
abbrev pub is_word : List ℕ → Bool
is_word [] = false
is_word (c ∷ cs) = not (is_digit c)

pub word_begins : (name behind : List ℕ) → is_word name ≡ true → is_digit (byte_at (name ++ behind) 0) ≡ false
word_begins [] behind e = absurd (true≢false (sym e))
word_begins (c ∷ cs) behind e = not-true (is_digit c) e

pub names_begin : all (λ r. is_word r.name) rows ≡ true
unfolding rows spelled is_digit
names_begin = refl
