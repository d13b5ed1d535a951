-- What code hands back for a line, by what the line asks for.
use mathlib.Core.Bool.{false}
use mathlib.Core.Path.{◌≡◌, refl, sym, ap, ◌∙◌}
use mathlib.Core.List.{List}
use Prim.Native.Nat.{ℕ, ◌-◌}
use lib.ListN.{length, take, drop}
use Rattle.model.specs.State.{state}
use Rattle.text.specs.Text.{Appended}
use Rattle.text.specs.Reading.{bytes_of}
use Rattle.answerlines.specs.Lines.{bad_text}
use Rattle.script.proofs.Asked.{rest_is}
use Rattle.comparison.specs.Both.{Stands}
use Rattle.comparison.specs.Desk.{Desk, desk, told_of, Tells}
use Rattle.comparison.specs.Grammar.{asked_of}
use Rattle.comparison.specs.Line.{compared, called, spoken_by, spoken}
use Rattle.comparison.specs.declared.asked.Asked.{Asked}
use Rattle.std.specs.Prelude.{Result, Ok, Err}
use Rattle.comparison.specs.declared.Standing.{Standing}
use Rattle.comparison.specs.declared.Told.{Told}

-- a line l, and what it was read as
module _ (number : ℕ) (l : List ℕ) {z : Result Asked ℕ} (read : z ≡ asked_of l) where
  by_asked : {x : Result Asked ℕ} → z ≡ x → (d : Desk) → spoken_by compared x number l d.machines ≡ spoken number l d
  unfolding spoken
  by_asked g d = ap (λ (y : Result Asked ℕ). spoken_by compared y number l d.machines) (sym g ∙ read)

  -- a call
  pub call_told : (a : Asked) → z ≡ Ok a → (d : Desk) (r : Told) {before after : List ℕ} {filled : ℕ} {e : Desk}
      → Tells before filled after r e (called a.call a.numbers (bytes_of (take (length l - a.numbers.hex) (drop a.numbers.hex l))) number d.machines)
      → Tells before filled after r e (spoken number l d)
  unfolding spoken_by
  call_told a g d r told = rw (ap (λ (x : List ℕ). called a.call a.numbers (bytes_of x) number d.machines) (rest_is l a.numbers.hex) ∙ by_asked g d) at told

  -- a line that is bad
  pub bad_told : (column : ℕ) → z ≡ Err column → (at : Standing) (main swap bytes rights : List ℕ) {before after : List ℕ} {filled to : ℕ} {r : Told}
      → r ≡ told_of at.machine at.plain number false to → Appended before filled after to (bad_text number column)
      → Stands (state at.machine main swap) bytes
      → Tells before filled after r (desk r.standing main swap bytes rights) (spoken number l (desk at main swap bytes rights))
      × (Stands (state r.standing.machine main swap) bytes × (r.standing.lines ≡ number))
  unfolding spoken_by
  bad_told column g at main swap bytes rights h text stands =
      rw (h, ← (by_asked g (desk at main swap bytes rights))) (record { desk_is = refl; text = text; goes = refl }, (stands, refl))
