-- What the makers' two calls refuse, exactly: which line is the first bad one and what its refusal and its place can be; which number each
-- call answers when; and what it leaves of the lent output. The theorem is `refusals` of proofs/Refusals.
use Rattle.std.specs.Prelude.{◌≡◌, ◌↔◌, ◌⊎◌, false, ℕ, ◌+◌, ◌-◌, ◌*◌, ◌%◌, ◌≤◌, ◌<◌, length, get_or, take, drop, Ok, Err}
use mathlib.Core.List.{List, [], Memᴰ}
use Rattle.model.specs.declared.Refusal.{Refusal}
use Rattle.model.specs.declared.Refusal.TheVariants.{Mnemonic, Operand, Overflow}
use Rattle.text.specs.Reading.{is_digit}
use Rattle.notation.specs.Table.{Row, rows}
use Rattle.notation.specs.Sums.{byte_at, skipped}
use Rattle.notation.specs.Line.{name_at, line_of}
use Rattle.notation.specs.Text.{lines, words, bad, read_text}
use Rattle.notation.specs.Listing.{listing}
use Rattle.notation.specs.Calls.{words_of, assemble_call, list_call}
use Rattle.notation.specs.Answers.{wrong}

-- ---- a line
-- it is good, and this is its word
abbrev pub HasWord : List ℕ → ℕ → Type 0
HasWord l w = (next : ℕ) × (line_of l ≡ Ok (w, next))

abbrev pub IsGood : List ℕ → Type 0
IsGood l = (w : ℕ) × HasWord l w

-- its mnemonic, at place p, is unknown
pub record Unknown (l : List ℕ) (p : ℕ) : Type 0 where
  -- the first place that holds no blank
  pub first : p ≡ skipped l 0
  -- the line is no plain number
  pub no_digit : is_digit (byte_at l p) ≡ false
  pub no_row : (row : Row) → Memᴰ row rows → ¬ (row.name ≡ name_at l p)

-- ---- the lines of a text, which count from 1
abbrev pub line : List ℕ → ℕ → List ℕ
line text k = get_or (lines text) (k - 1) []

abbrev pub IsLine : List ℕ → ℕ → Type 0
IsLine text k = (1 ≤ k) × (k ≤ length (lines text))

abbrev pub EveryGood : List ℕ → Type 0
EveryGood text = (k : ℕ) → IsLine text k → IsGood (line text k)

-- a word for each line
pub record Words (text ws : List ℕ) : Type 0 where
  pub one_each : length ws ≡ length (lines text)
  pub of_line : (k : ℕ) → IsLine text k → HasWord (line text k) (get_or ws (k - 1) 0)

-- line n is the first bad one, and earns this refusal at this column
pub record FirstBad (text : List ℕ) (r : Refusal) (n column : ℕ) : Type 0 where
  pub is_line : IsLine text n
  pub place : ℕ
  pub wrong : line_of (line text n) ≡ Err (wrong r place)
  pub from_one : column ≡ place + 1
  pub before : (k : ℕ) → 1 ≤ k → k < n → IsGood (line text k)

abbrev pub BadBy : List ℕ → Refusal → Type 0
BadBy text r = (n : ℕ) × (column : ℕ) × FirstBad text r n column

-- "8 to 10", at a place of the line or at its end
pub record Placed (l : List ℕ) (r : Refusal) (column : ℕ) : Type 0 where
  pub by_line : (r ≡ Mnemonic) ⊎ (r ≡ Operand) ⊎ (r ≡ Overflow)
  pub least : 1 ≤ column
  pub most : column ≤ length l + 1

-- ---- what a call answers: the number of its refusal, or 0
abbrev pub assemble_number : List ℕ → List ℕ → ℕ
assemble_number text out = (assemble_call text out).numbers.verdict.refused

abbrev pub OfAssemble : ℕ → Type 0
OfAssemble n = (n ≡ 0) ⊎ (n ≡ 7) ⊎ (n ≡ 8) ⊎ (n ≡ 9) ⊎ (n ≡ 10)

pub record AssembleExactly (text out : List ℕ) : Type 0 where
  pub mnemonic : (assemble_number text out ≡ 8) ↔ BadBy text Mnemonic
  pub operand : (assemble_number text out ≡ 9) ↔ BadBy text Operand
  pub overflow : (assemble_number text out ≡ 10) ↔ BadBy text Overflow
  -- "last, 7 for a lent output shorter than the result"
  pub room : (assemble_number text out ≡ 7) ↔ (EveryGood text × (length out < 4 * length (lines text)))
  pub done : (assemble_number text out ≡ 0) ↔ (EveryGood text × (4 * length (lines text) ≤ length out))
  pub no_other : OfAssemble (assemble_number text out)

abbrev pub list_number : List ℕ → List ℕ → ℕ
list_number bytes out = (list_call bytes out).numbers.verdict.refused

abbrev pub listed_length : List ℕ → ℕ
listed_length bytes = length (listing (words_of bytes))

abbrev pub OfList : ℕ → Type 0
OfList n = (n ≡ 0) ⊎ (n ≡ 1) ⊎ (n ≡ 7)

pub record ListExactly (bytes out : List ℕ) : Type 0 where
  pub bound : (list_number bytes out ≡ 1) ↔ (¬ (length bytes % 4 ≡ 0))
  pub room : (list_number bytes out ≡ 7) ↔ ((length bytes % 4 ≡ 0) × (length out < listed_length bytes))
  pub done : (list_number bytes out ≡ 0) ↔ ((length bytes % 4 ≡ 0) × (listed_length bytes ≤ length out))
  pub no_other : OfList (list_number bytes out)

-- the lent output, of a call that answers this number and a result of n bytes: a refusal changes no byte, a result none behind it
pub record Kept (number n : ℕ) (out after : List ℕ) : Type 0 where
  pub refused : ¬ (number ≡ 0) → after ≡ out
  pub behind : number ≡ 0 → drop n after ≡ drop n out
  pub long : length after ≡ length out

pub record Refusals : Type 0 where
  pub unknown : (l : List ℕ) (p : ℕ) → (line_of l ≡ Err (wrong Mnemonic p)) ↔ Unknown l p
  pub good : (text ws : List ℕ) → (read_text text ≡ words ws) ↔ Words text ws
  pub first_bad : (text : List ℕ) (r : Refusal) (n column : ℕ) → (read_text text ≡ bad r n column) ↔ FirstBad text r n column
  pub placed : (text : List ℕ) (r : Refusal) (n column : ℕ) → read_text text ≡ bad r n column → Placed (line text n) r column
  -- what stands behind the first bad line says nothing
  pub behind_bad : (text text' : List ℕ) (r : Refusal) (n column : ℕ) → take n (lines text') ≡ take n (lines text)
      → read_text text ≡ bad r n column → read_text text' ≡ bad r n column
  pub assemble : (text out : List ℕ) → AssembleExactly text out
  pub assemble_keeps : (text out : List ℕ)
      → Kept (assemble_number text out) (assemble_call text out).numbers.length out (assemble_call text out).out
  pub list : (bytes out : List ℕ) → ListExactly bytes out
  pub list_keeps : (bytes out : List ℕ) → Kept (list_number bytes out) (list_call bytes out).numbers.length out (list_call bytes out).out
