-- What code hands back for a line, by what the line asks for: it says what the definition leaves, and what is lent lies within the buffers.
use mathlib.Core.Bool.{true, false}
use mathlib.Core.Path.{◌≡◌, refl, sym, ap, ◌∙◌}
use mathlib.Core.List.{List, ◌++◌}
use Prim.Native.Nat.{ℕ, ◌-◌}
use lib.ListN.{length, take, drop}
use Rattle.model.specs.State.{State, state}
use Rattle.model.specs.declared.Machine.{Machine}
use Rattle.text.specs.Text.{Appended}
use Rattle.text.specs.Reading.{bytes_of}
use Rattle.answerlines.specs.Lines.{bad_text}
use Rattle.script.specs.Grammar.{line_of}
use Rattle.script.specs.declared.parts.Numbers.{Numbers}
use Rattle.script.specs.declared.Call.{Call}
use Rattle.script.specs.declared.Show.{Show}
use Rattle.script.specs.declared.Change.{Change}
use Rattle.script.specs.declared.Line.{Line}
use Rattle.script.specs.declared.Line.TheVariants.{Calls, Shows, Changes}
use Rattle.std.specs.Prelude.{Result, Ok, Err}
use Rattle.script.proofs.Asked.{rest_is}
use Rattle.session.specs.Answers.{Says, answered, show_text}
use Rattle.session.specs.Desk.{Desk, desk, lent, handed_back, changed, said_to, changed_by, spoken_by, spoken, told_of, Tells}
use Rattle.session.specs.Ready.{Lent}
use Rattle.session.specs.declared.Standing.{Standing}
use Rattle.session.specs.declared.Told.{Told}

-- ---- what a change c leaves, which is known to be x
pub changed_as : {c x : Change} → c ≡ x → (n : Numbers) (bytes : List ℕ) (d : Desk) {e : Desk} → e ≡ changed x n bytes d → e ≡ changed c n bytes d
changed_as e n bytes d h = rw e h

-- ---- a line l, and what it was read as
module _ (number : ℕ) (l : List ℕ) where
  by_line : {z x : Result Line ℕ} → z ≡ line_of l → z ≡ x → (d : Desk) → spoken_by x number l d ≡ spoken number l d
  unfolding spoken
  by_line read g d = ap (λ (y : Result Line ℕ). spoken_by y number l d) (sym g ∙ read)

  module _ (at : Standing) (main swap : List ℕ) {before after : List ℕ} {filled : ℕ} {r : Told} {z : Result Line ℕ} (read : z ≡ line_of l) where
    -- a call; the lent bytes come back as it leaves them
    pub call_told : (c : Call) (n : Numbers) → z ≡ Ok (Calls c n) → {m : Machine} {to : ℕ} → r ≡ told_of m at.main at.swap to true
        → {ys zs : List ℕ} → Says before filled after to (state m ys zs)
        (answered c n (bytes_of (take (length l - n.hex) (drop n.hex l))) (lent (desk at main swap))) → Lent at
        → Tells before filled after r (ys ++ drop at.main main) (zs ++ drop at.swap swap) (spoken number l (desk at main swap)) × Lent r.standing
    unfolding spoken_by
    call_told c n g h says fits =
        let d = desk at main swap in
        rw (h, ← (ap (λ (x : List ℕ). said_to c n (bytes_of x) d) (rest_is l n.hex) ∙ by_line read g d)) (
          record { desk_is = ap (λ (p : State). handed_back d p) says.state; text = says.text; goes = refl },
          record { main_fits = fits.main_fits; swap_fits = fits.swap_fits },
        )

    -- what is shown; everything stays as it was
    pub show_told : (x : Show) → z ≡ Ok (Shows x) → {to : ℕ} → r ≡ told_of at.machine at.main at.swap to true
        → Appended before filled after to (show_text x (lent (desk at main swap))) → Lent at
        → Tells before filled after r main swap (spoken number l (desk at main swap)) × Lent r.standing
    unfolding spoken_by
    show_told x g h text fits =
        rw (h, ← (by_line read g (desk at main swap))) (
          record { desk_is = refl; text = text; goes = refl },
          record { main_fits = fits.main_fits; swap_fits = fits.swap_fits },
        )

    -- what a change leaves
    pub changed_told : (c : Change) (n : Numbers) → z ≡ Ok (Changes c n) → {main' swap' : List ℕ}
        → Tells before filled after r main' swap' (changed_by c n (bytes_of (take (length l - n.hex) (drop n.hex l))) (desk at main swap))
        → Tells before filled after r main' swap' (spoken number l (desk at main swap))
    unfolding spoken_by
    changed_told c n g told =
        let d = desk at main swap in
        rw (ap (λ (x : List ℕ). changed_by c n (bytes_of x) d) (rest_is l n.hex) ∙ by_line read g d) at told

    -- a line that is bad
    pub bad_told : (column : ℕ) → z ≡ Err column → {to : ℕ} → r ≡ told_of at.machine at.main at.swap to false
        → Appended before filled after to (bad_text number column) → Lent at
        → Tells before filled after r main swap (spoken number l (desk at main swap)) × Lent r.standing
    unfolding spoken_by
    bad_told column g h text fits =
        rw (h, ← (by_line read g (desk at main swap))) (
          record { desk_is = refl; text = text; goes = refl },
          record { main_fits = fits.main_fits; swap_fits = fits.swap_fits },
        )
