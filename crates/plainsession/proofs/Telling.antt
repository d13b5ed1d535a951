-- What code hands back for a line, by what the line asks for: it says what the definition leaves, and what is lent lies within the buffers.
use mathlib.Core.Bool.{true, false}
use mathlib.Core.Path.{◌≡◌, refl, sym, ap, ◌∙◌}
use mathlib.Core.List.{List, ◌++◌}
use Prim.Native.Nat.{ℕ, ◌-◌}
use lib.ListN.{length, take, drop, take-append-drop}
use Rattle.text.specs.Text.{Appended}
use Rattle.text.specs.Reading.{bytes_of}
use Rattle.answerlines.specs.Lines.{bad_text}
use Rattle.script.specs.declared.parts.Numbers.{Numbers}
use Rattle.script.specs.declared.Call.{Call}
use Rattle.script.proofs.Asked.{rest_is}
use Rattle.plainmodel.specs.State.{PlainState, plain_state}
use Rattle.plainmodel.specs.declared.Plain.{Plain}
use Rattle.plainsession.specs.Grammar.{line_of}
use Rattle.plainsession.specs.Answers.{Says, answered, sum_text}
use Rattle.plainsession.specs.Desk.{Desk, desk, standing, lent, handed_back, changed, said_to, changed_by, spoken_by, spoken, told_of, Tells}
use Rattle.plainsession.specs.Ready.{Lent}
use Rattle.plainsession.specs.declared.table.Change.{Change}
use Rattle.plainsession.specs.declared.table.Line.{Line}
use Rattle.plainsession.specs.declared.table.Line.TheVariants.{Calls, Sum, Changes}
use Rattle.std.specs.Prelude.{Result, Ok, Err}
use Rattle.plainsession.specs.declared.Standing.{Standing}
use Rattle.plainsession.specs.declared.Told.{Told}

-- ---- what a change c leaves, which is known to be x
pub changed_as : {c x : Change} → c ≡ x → (n : Numbers) (bytes : List ℕ) (d : Desk) {e : Desk} → e ≡ changed x n bytes d → e ≡ changed c n bytes d
changed_as e n bytes d h = rw e h

-- the rights, which a call only reads, come back as they were
back_as : (d : Desk) (m : Plain) (ys : List ℕ)
    → desk (standing m d.standing.memory d.standing.rights) (ys ++ drop d.standing.memory d.memory) d.rights
    ≡ handed_back d (plain_state m ys (take d.standing.rights d.rights))
back_as d m ys =
    ap (desk (standing m d.standing.memory d.standing.rights) (ys ++ drop d.standing.memory d.memory))
    (sym (take-append-drop d.standing.rights d.rights))

-- ---- a line l, and what it was read as
module _ (number : ℕ) (l : List ℕ) where
  by_line : {z x : Result Line ℕ} → z ≡ line_of l → z ≡ x → (d : Desk) → spoken_by x number l d ≡ spoken number l d
  unfolding spoken
  by_line read g d = ap (λ (y : Result Line ℕ). spoken_by y number l d) (sym g ∙ read)

  module _ (at : Standing) (memory rights : List ℕ) {before after : List ℕ} {filled : ℕ} {r : Told} {z : Result Line ℕ} (read : z ≡ line_of l) where
    -- a call; the lent bytes come back as it leaves them
    pub call_told : (c : Call) (n : Numbers) → z ≡ Ok (Calls c n) → {m : Plain} {to : ℕ} → r ≡ told_of m at.memory at.rights to true
        → {ys : List ℕ} → Says before filled after to (plain_state m ys (take at.rights rights))
        (answered c n (bytes_of (take (length l - n.hex) (drop n.hex l))) (lent (desk at memory rights))) → Lent at
        → Tells before filled after r (ys ++ drop at.memory memory) rights (spoken number l (desk at memory rights)) × Lent r.standing
    unfolding spoken_by
    call_told c n g {m} h {ys} says fits =
        let d = desk at memory rights in
        rw (h, ← (ap (λ (x : List ℕ). said_to c n (bytes_of x) d) (rest_is l n.hex) ∙ by_line read g d)) (
          record { desk_is = back_as d m ys ∙ ap (λ (p : PlainState). handed_back d p) says.state; text = says.text; goes = refl },
          record { memory_fits = fits.memory_fits; rights_fits = fits.rights_fits },
        )

    -- the sums; everything stays as it was
    pub sum_told : z ≡ Ok Sum → {to : ℕ} → r ≡ told_of at.plain at.memory at.rights to true
        → Appended before filled after to (sum_text (lent (desk at memory rights))) → Lent at
        → Tells before filled after r memory rights (spoken number l (desk at memory rights)) × Lent r.standing
    unfolding spoken_by
    sum_told g h text fits =
        rw (h, ← (by_line read g (desk at memory rights))) (
          record { desk_is = refl; text = text; goes = refl },
          record { memory_fits = fits.memory_fits; rights_fits = fits.rights_fits },
        )

    -- what a change leaves
    pub changed_told : (c : Change) (n : Numbers) → z ≡ Ok (Changes c n) → {memory' rights' : List ℕ}
        → Tells before filled after r memory' rights' (changed_by c n (bytes_of (take (length l - n.hex) (drop n.hex l))) (desk at memory rights))
        → Tells before filled after r memory' rights' (spoken number l (desk at memory rights))
    unfolding spoken_by
    changed_told c n g told =
        let d = desk at memory rights in
        rw (ap (λ (x : List ℕ). changed_by c n (bytes_of x) d) (rest_is l n.hex) ∙ by_line read g d) at told

    -- a line that is bad
    pub bad_told : (column : ℕ) → z ≡ Err column → {to : ℕ} → r ≡ told_of at.plain at.memory at.rights to false
        → Appended before filled after to (bad_text number column) → Lent at
        → Tells before filled after r memory rights (spoken number l (desk at memory rights)) × Lent r.standing
    unfolding spoken_by
    bad_told column g h text fits =
        rw (h, ← (by_line read g (desk at memory rights))) (
          record { desk_is = refl; text = text; goes = refl },
          record { memory_fits = fits.memory_fits; rights_fits = fits.rights_fits },
        )
