-- The table of mnemonics is no second truth beside the model: a row is found exactly where `plan` is not Unknown, and `plan` of a word is
-- `plan` of the word with its unused fields zero. So a word is listed by mnemonic exactly if the machine carries it out and its unused
-- fields are zero. The theorem is `by_mnemonic` of proofs/ByMnemonic.
use Rattle.std.specs.Prelude.{◌≡◌, Bool, true, false, ◌↔◌, List, ℕ, ◌^◌, ◌≤◌, ◌<◌}
use Rattle.model.specs.Instruction.{plan}
use Rattle.model.specs.Console.{digits}
use Rattle.model.specs.declared.Plan.TheVariants.{Unknown}
use Rattle.text.specs.Reading.{is_digit}
use Rattle.notation.specs.Table.{rows, first_row}
use Rattle.notation.specs.Sums.{byte_at}
use Rattle.notation.specs.Listing.{is_keyed, filled, listed}

-- the table has a row for the word
unfoldable pub row_found : ℕ → Bool
row_found w = first_row (is_keyed w) (λ r. true) false rows

-- the word with the unused fields of its row zero
unfoldable pub unused_zeroed : ℕ → ℕ
unused_zeroed w = first_row (is_keyed w) (λ r. filled r.pieces r.base w) w rows

-- the machine carries the word out
abbrev pub Carried : List ℕ → ℕ → ℕ → Type 0
Carried gpr next w = plan gpr next w ≡ Unknown → ⊥

-- its line begins with no digit
abbrev pub ListedByName : ℕ → Type 0
ListedByName w = is_digit (byte_at (listed w) 0) ≡ false

pub record ByMnemonic : Type 0 where
  pub found : (gpr : List ℕ) (next w : ℕ) → w < 2 ^ 32 → (row_found w ≡ true) ↔ Carried gpr next w
  pub same_plan : (gpr : List ℕ) (next w : ℕ) → w < 2 ^ 32 → plan gpr next (unused_zeroed w) ≡ plan gpr next w
  pub zeroed_again : (w : ℕ) → w < 2 ^ 32 → unused_zeroed (unused_zeroed w) ≡ unused_zeroed w
  pub zeroed_within : (w : ℕ) → w < 2 ^ 32 → unused_zeroed w ≤ w
  pub by_name : (gpr : List ℕ) (next w : ℕ) → w < 2 ^ 32 → ListedByName w ↔ (Carried gpr next w × (unused_zeroed w ≡ w))
  pub by_number : (w : ℕ) → w < 2 ^ 32 → (ListedByName w → ⊥) → listed w ≡ digits 9 w
