-- What it is to put bytes into a buffer from a place on; and bytes in hexadecimal.
use Rattle.std.specs.Prelude.{◌≡◌, List, [], ◌∷◌, ℕ, ◌+◌, ◌/◌, ◌%◌, ◌≤◌, ltb, length, if◌then◌else◌, Ok}
use Rattle.model.specs.Answers.{verdict_numbers, RunNumbers}
use Rattle.laws.specs.Over.{over}

-- `after` is the buffer with the bytes over it from `at` on, all of them within it, and `to` the place behind them
pub record Appended (before : List ℕ) (at : ℕ) (after : List ℕ) (to : ℕ) (bytes : List ℕ) : Type 0 where
  pub place : to ≡ at + length bytes
  pub room : to ≤ length before
  pub buffer : after ≡ over at bytes before

-- a digit below 16, as its lower-case byte
abbrev pub hex_digit : ℕ → ℕ
hex_digit n = if ltb n 10 then 48 + n else 87 + n

-- two digits a byte
unfoldable pub hex_of : List ℕ → List ℕ
hex_of [] = []
hex_of (b ∷ bs) = hex_digit (b / 16) ∷ hex_digit (b % 16) ∷ hex_of bs

-- the numbers of a run that is not refused, as far as the four lines say them: no line has the pages copied back
abbrev pub numbers_of : ℕ → ℕ → ℕ → ℕ → RunNumbers
numbers_of stop detail finished loads =
    record { verdict = verdict_numbers (Ok tt); stop = stop; detail = detail; finished = finished; loads = loads; copied = 0 }
