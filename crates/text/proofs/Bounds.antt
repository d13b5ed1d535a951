-- What is read lies within the text, and no number is above its bound.
use mathlib.Core.Bool.{true, ◌&&◌}
use mathlib.Core.Path.{◌≡◌, refl}
use mathlib.Core.List.{List}
use Prim.Native.Nat.{ℕ, ◌+◌, ◌≤◌, ◌<◌}
use native.Mathlib.Omega.{arith}
use lib.Dec.{leb}
use lib.ListN.{length, get_or, drop}
use borrow.Author.Tests.{leb-true}
use Rattle.laws.proofs.Choice.{and_left, chosen}
use Rattle.text.specs.Reading.{front, is_space, is_digit, is_hex, decimal, number_of, number_at, hex_end}
use Rattle.text.specs.declared.reading.Number.{Number}
use Rattle.std.specs.Prelude.{Result, Ok, Err}
use Rattle.text.proofs.Fronts.{front_inside, inside}

-- what it is to lie within a text of n bytes; a column that does not fit is at most the one behind its end
abbrev pub PartIn : ℕ → ℕ → Result Number ℕ → Type 0
PartIn n most (Ok p) = (p.next ≤ n) × (p.value ≤ most)
PartIn n most (Err column) = column ≤ n + 1

module _ (l : List ℕ) (at : ℕ) where
  pub space_inside : is_space (get_or l at 0) ≡ true → at < length l
  space_inside t = inside is_space l at refl t

  pub hex_inside : at ≤ length l → (at ≤ hex_end l at) × (hex_end l at ≤ length l)
  unfolding hex_end
  hex_inside h = (omega arith, front_inside is_hex l at h)

  module _ (most : ℕ) (h : at ≤ length l) where
    pub number_in : PartIn (length l) most (number_at l at most)
    unfolding number_at number_of
    number_in =
        let ds = front is_digit (drop at l) in
        chosen (PartIn (length l) most) (leb (decimal 0 ds) most && leb 1 (length ds))
        (λ t. (front_inside is_digit l at h, leb-true _ _ (and_left _ _ t))) (λ _. omega arith)
