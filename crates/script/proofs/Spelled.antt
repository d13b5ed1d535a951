-- A word that a table names is spelled as the table has it (`spelled`).
use mathlib.Core.Bool.{true}
use mathlib.Core.Path.{◌≡◌, refl, sym, ap₂, subst}
use mathlib.Core.List.{List, [], ◌∷◌}
use Prim.Native.Nat.{ℕ}
use borrow.Author.Tests.{eqb-true}
use lib.Dec.{T, eqb}
use Rattle.laws.proofs.Choice.{chosen, and_left, and_right}
use Rattle.model.specs.Bytes.{same}
use Rattle.script.specs.Table.{Named, first_fit, or_own}
use Rattle.script.specs.Parts.{Parts, line_by}
use Rattle.std.specs.Prelude.{Option, Some, None, Ok, Err}
use Rattle.script.specs.declared.Call.{Call}
use Rattle.script.specs.declared.parts.Numbers.{Numbers}

same_is : (a b : List ℕ) → same a b ≡ true → a ≡ b
unfolding same
same_is [] [] h = refl
same_is [] (y ∷ ys) h = absurd (subst T (sym h) tt)
same_is (x ∷ xs) [] h = absurd (subst T (sym h) tt)
same_is (x ∷ xs) (y ∷ ys) h =
    ap₂ (λ (u : ℕ) (l : List ℕ). u ∷ l) (eqb-true x y (and_left (eqb x y) (same xs ys) h)) (same_is xs ys (and_right (eqb x y) (same xs ys) h))

-- ---- what holds of each that a table names where the word is spelled so, and of what stands for none, holds of what the word names
abbrev pub Each : {A : Type 0} → (A → Type 0) → List ℕ → List (Named A) → Type 0
Each P w [] = Unit {0}
Each P w (n ∷ ns) = (w ≡ n.word → P n.names) × Each P w ns

pub spelled : {A : Type 0} (P : A → Type 0) (none : A) (w : List ℕ) (ns : List (Named A)) → Each P w ns → P none → P (first_fit none w ns)
unfolding first_fit
spelled P none w [] h k = k
spelled P none w (n ∷ ns) h k =
    chosen P (same w n.word) (λ t. h.0 (same_is w n.word t)) (λ _. spelled P none w ns h.1 k)

-- behind the calls
pub own_spelled : {A : Type 0} (P : A → Type 0) (calls : Call → A) (z : Option Call) (x : A) → ((c : Call) → P (calls c)) → P x → P (or_own calls z x)
own_spelled P calls (Some c) x f h = f c
own_spelled P calls None x f h = h

-- ---- and of a line, whatever parts it has
pub line_by_parts : {L : Type 0} (P : L → Type 0) (fits : Numbers → L) (bad : ℕ → L) (p : Parts) → ((n : Numbers) → P (fits n)) → ((column : ℕ) → P (bad column))
    → P (line_by fits bad p)
line_by_parts P fits bad (Ok n) f g = f n
line_by_parts P fits bad (Err column) f g = g column
