-- "So each page comes back from its listing unchanged": of what is listed of words, the assembler makes the same words. The theorem is
-- `page_back` of proofs/PageBack.
use Rattle.std.specs.Prelude.{◌≡◌, List, [], ◌∷◌, ℕ, ◌%◌, ◌^◌, ◌≤◌, ◌<◌, length, take, Ok}
use Rattle.laws.specs.Over.{over}
use Rattle.notation.specs.Text.{words, read_text}
use Rattle.notation.specs.Listing.{listed, listing}
use Rattle.notation.specs.Calls.{bytes_of, words_of, assemble_outcome, assemble_call, ListOutcome, list_call}

-- every number of the list is below n
unfoldable pub Below : ℕ → List ℕ → Type 0
Below n [] = Unit
Below n (x ∷ xs) = (x < n) × Below n xs

-- the list call is granted, and assembling its text leaves the bytes at the beginning of what is lent
pub record CallBack (listed : ListOutcome) (bytes again : List ℕ) : Type 0 where
  pub granted : listed.numbers.verdict.refused ≡ 0
  pub assembled : assemble_call (take listed.numbers.length listed.out) again ≡ assemble_outcome (Ok (length bytes)) (over 0 bytes again)

pub record PageBack : Type 0 where
  pub words_back : (ws : List ℕ) → Below (2 ^ 32) ws → read_text (listing ws) ≡ words ws
  pub bytes_back : (bytes : List ℕ) → Below 256 bytes → length bytes % 4 ≡ 0 → bytes_of (words_of bytes) ≡ bytes
  pub calls_back : (bytes out again : List ℕ) → Below 256 bytes → length bytes % 4 ≡ 0 → length (listing (words_of bytes)) ≤ length out
      → length bytes ≤ length again → CallBack (list_call bytes out) bytes again
  -- a line and its newline take at most 18 bytes
  pub short_lines : (w : ℕ) → length (listed w) ≤ 17
