-- What a line asks for, as code has it: its digits are the rest of the line, and its numbers keep to the table.
use mathlib.Core.Path.{◌≡◌, refl, sym, ap, ap₂, subst, ◌∙◌}
use mathlib.Core.List.{List, ◌∷◌, ◌++◌}
use Prim.Native.Nat.{ℕ, suc, zero, ◌-◌, ◌/◌, ◌≤◌}
use native.Mathlib.Nat.{not-suc-le-zero}
use native.Mathlib.Omega.{arith}
use lib.ListN.{length, take, drop, replicate, length-append, length-drop, length-replicate}
use lib.Seq.{take_all, take_at, length-take-le}
use Rattle.std.specs.Prelude.{Result, Ok}
use Rattle.laws.specs.Over.{over}
use Rattle.laws.proofs.Over.{part_over}
use Rattle.text.specs.Reading.{bytes_of}
use Rattle.text.proofs.Pairs.{length-bytes_of}
use Rattle.script.specs.Keeping.{Keeps}
use Rattle.script.specs.declared.parts.Numbers.{Numbers}
use Rattle.script.specs.declared.table.Row.{Row}

-- the bytes from a place on
module _ (l : List ℕ) (h : ℕ) where
  pub rest_is : take (length l - h) (drop h l) ≡ drop h l
  rest_is = take_all (length l - h) (drop h l) (omega (arith, length-drop h l))

  length_rest : length (take (length l - h) (drop h l)) ≡ length l - h
  length_rest = ap length rest_is ∙ length-drop h l

  pub rest_keeps : (row : Row) (n : Numbers) → Keeps row n ((length l - h) / 2) → Keeps row n (length (take (length l - h) (drop h l)) / 2)
  rest_keeps row n k = subst (λ (m : ℕ). Keeps row n (m / 2)) (sym length_rest) k

  pub short_rest : length l ≤ 65536 → length (take (length l - h) (drop h l)) ≤ 65536
  short_rest k = omega (arith, length_rest)

-- the part of a buffer that is lent
pub lent_long : (k : ℕ) (l : List ℕ) (n : ℕ) → k ≤ n → length l ≡ n → k ≡ length (take k l)
lent_long k l n h e = sym (length-take-le k l (omega arith))

-- a line that was read, which is known to be x
pub read_as : {A : Type 0} {z : Result A ℕ} {y x : A} → z ≡ Ok y → y ≡ x → z ≡ Ok x
read_as g h = g ∙ ap (λ v. Ok v) h

-- what the numbers of a call or a change keep to, which is known
pub keeps_known : {A : Type 0} (row : A → Row) {c x : A} → c ≡ x → (n : Numbers) (k : ℕ) → Keeps (row c) n k → Keeps (row x) n k
keeps_known row e n k h = subst (λ z. Keeps (row z) n k) e h

-- ---- some of a buffer of zeros
pub take-zeros : (k n : ℕ) → k ≤ n → take {A = ℕ} k (replicate n 0) ≡ replicate k 0
take-zeros zero n h = refl
take-zeros (suc k) zero h = absurd (not-suc-le-zero h)
take-zeros (suc k) (suc n) h = ap (λ (l : List ℕ). 0 ∷ l) (take-zeros k n (omega arith))

pub length-zeros : (k n : ℕ) → k ≤ n → length {A = ℕ} (take k (replicate n 0)) ≡ k
length-zeros k n h = length-take-le {A = ℕ} k (replicate n 0) (omega (arith, length-replicate {A = ℕ} n 0))

-- the same part, filled with as many bytes: it is those, and the buffer is as long as it was
module _ (k n : ℕ) (h : k ≤ n) (ys : List ℕ) (long : length ys ≡ length {A = ℕ} (take k (replicate n 0))) where
  pub part_filled : take k (ys ++ drop k (replicate n 0)) ≡ ys
  part_filled = take_at ys (drop k (replicate n 0)) k (long ∙ length-zeros k n h)

  pub length_part : length (take k (ys ++ drop k (replicate n 0))) ≡ k
  length_part = ap length part_filled ∙ long ∙ length-zeros k n h

  pub length-filled : length (ys ++ drop k (replicate n 0)) ≡ n
  length-filled =
      omega (arith, length-append {A = ℕ} ys (drop k (replicate n 0)), length-drop {A = ℕ} k (replicate n 0), length-replicate {A = ℕ} n 0, long ∙ length-zeros k n h)

-- ---- the bytes of digits, put into a buffer of zeros from its start on
pub digits_taken : (digits into : List ℕ) → length digits ≤ 65536 → into ≡ over 0 (bytes_of digits) (replicate 32768 0)
    → take (length digits / 2) into ≡ bytes_of digits
digits_taken digits into h e =
    ap₂ (λ (k : ℕ) (l : List ℕ). take k l) (sym (length-bytes_of digits)) e
    ∙ part_over 0 (bytes_of digits) (replicate 32768 0) (omega (arith, length-bytes_of digits, length-replicate {A = ℕ} 32768 0))

pub length-digits_taken : (digits into : List ℕ) → length digits ≤ 65536 → into ≡ over 0 (bytes_of digits) (replicate 32768 0)
    → length digits / 2 ≡ length (take (length digits / 2) into)
length-digits_taken digits into h e = sym (length-bytes_of digits) ∙ sym (ap length (digits_taken digits into h e))
