-- A row is found exactly where the plan is not Unknown (`found`): whether there is a plan, the key alone says, and the two tests are computed at
-- each function and at each opcode.
use mathlib.Core.Path.{◌≡◌, refl, sym, ap, ◌∙◌}
use mathlib.Core.Bool.{Bool, true, false, not, true≢false}
use mathlib.Core.Logic.{◌↔◌}
use mathlib.Core.List.{List, []}
use Prim.Native.Nat.{ℕ, ◌*◌, ◌/◌, ◌^◌, ◌<◌}
use native.Mathlib.Nat.{mod-mod}
use native.Mathlib.Omega.{arith}
use borrow.Author.Tests.{eqb-true, eqb-false, ne_eqb}
use lib.Dec.{eqb}
use Rattle.model.specs.Choice.{every_below}
use Rattle.std.specs.Prelude.{if◌then◌else◌}
use Rattle.model.specs.Words.{low, field}
use Rattle.model.specs.Instruction.{plan, register, immediate}
use Rattle.model.specs.declared.Plan.{Plan}
use Rattle.model.specs.declared.Plan.TheVariants.{Unknown, Set, LoadByte, LoadHalf, LoadWord, StoreByte, StoreHalf, StoreWord, Trapping}
use Rattle.laws.proofs.Choice.{every_at}
use Rattle.notation.specs.Table.{rows, first_row}
use Rattle.notation.specs.Listing.{key_of}
use Rattle.makers.specs.ByMnemonic.{row_found, Carried}
use Rattle.makers.proofs.ByMnemonicFields.{parts_of_lem}

-- the plan is not Unknown, as a test
abbrev is_known : Plan → Bool
is_known Unknown = false
is_known (Set i v target) = true
is_known (LoadByte signed i va) = true
is_known (LoadHalf signed i va) = true
is_known (LoadWord i va) = true
is_known (StoreByte va v) = true
is_known (StoreHalf va v) = true
is_known (StoreWord va v) = true
is_known (Trapping n) = true

known_if : (b : Bool) (p q : Plan) → is_known (if b then p else q) ≡ (if b then is_known p else is_known q)
known_if true p q = refl
known_if false p q = refl

-- whether there is a plan, the function or the opcode alone says
known_function : (gpr : List ℕ) (next w : ℕ) → field 26 6 w ≡ 0 → is_known (plan gpr next w) ≡ is_known (plan [] 0 (low 6 w))
unfolding plan register
known_function gpr next w e =
    let top : field 26 6 (low 6 w) ≡ 0 = omega arith in
    simp (e, top, known_if, mod-mod)

known_opcode : (gpr : List ℕ) (next w o : ℕ) → field 26 6 w ≡ o → field 26 6 (o * 2 ^ 26) ≡ o → (o ≡ 0 → ⊥)
    → is_known (plan gpr next w) ≡ is_known (plan [] 0 (o * 2 ^ 26))
unfolding plan immediate
known_opcode gpr next w o e top h = simp (e, top, ne_eqb o 0 h, known_if)

has_row : ℕ → Bool
has_row key = first_row (λ r. eqb r.base key) (λ r. true) false rows

-- the two tests, computed at each function and at each opcode
abbrev alike : Bool → Bool → Bool
alike true b = b
alike false b = not b

functions_alike : every_below 64 (λ f. alike (has_row f) (is_known (plan [] 0 f))) ≡ true
unfolding every_below first_row rows plan register has_row
functions_alike = refl

opcodes_alike : every_below 64 (λ o. alike (has_row (o * 2 ^ 26)) (is_known (plan [] 0 (o * 2 ^ 26)))) ≡ true
unfolding every_below first_row rows plan register immediate has_row
opcodes_alike = refl

alike_same : (a b : Bool) → alike a b ≡ true → a ≡ b
alike_same true b e = sym e
alike_same false true e = e
alike_same false false e = refl

key_known : (gpr : List ℕ) (next w : ℕ) → w < 2 ^ 32 → has_row (key_of w) ≡ is_known (plan gpr next w)
key_known gpr next w h = pick (eqb (w / 2 ^ 26) 0) refl
  where
    top : field 26 6 w ≡ w / 2 ^ 26
    top = (parts_of_lem w h).opcode

    pick : (b : Bool) → eqb (w / 2 ^ 26) 0 ≡ b → has_row (if b then low 6 w else w / 2 ^ 26 * 2 ^ 26) ≡ is_known (plan gpr next w)
    pick true q =
        alike_same (has_row (low 6 w)) (is_known (plan [] 0 (low 6 w)))
        (every_at 64 (λ f. alike (has_row f) (is_known (plan [] 0 f))) functions_alike (low 6 w) (omega arith))
        ∙ sym (known_function gpr next w (top ∙ eqb-true (w / 2 ^ 26) 0 q))
    pick false q =
        alike_same (has_row (w / 2 ^ 26 * 2 ^ 26)) (is_known (plan [] 0 (w / 2 ^ 26 * 2 ^ 26)))
        (every_at 64 (λ o. alike (has_row (o * 2 ^ 26)) (is_known (plan [] 0 (o * 2 ^ 26)))) opcodes_alike (w / 2 ^ 26) (omega arith))
        ∙ sym (known_opcode gpr next w (w / 2 ^ 26) top (omega arith) (eqb-false (w / 2 ^ 26) 0 q))

found_known : (gpr : List ℕ) (next w : ℕ) → w < 2 ^ 32 → row_found w ≡ is_known (plan gpr next w)
unfolding row_found has_row
found_known gpr next w h = key_known gpr next w h

carried_known : (p : Plan) → (p ≡ Unknown → ⊥) → is_known p ≡ true
carried_known Unknown h = absurd (h refl)
carried_known (Set i v target) h = refl
carried_known (LoadByte signed i va) h = refl
carried_known (LoadHalf signed i va) h = refl
carried_known (LoadWord i va) h = refl
carried_known (StoreByte va v) h = refl
carried_known (StoreHalf va v) h = refl
carried_known (StoreWord va v) h = refl
carried_known (Trapping n) h = refl

pub found : (gpr : List ℕ) (next w : ℕ) → w < 2 ^ 32 → (row_found w ≡ true) ↔ Carried gpr next w
found gpr next w h = (
  (λ e u. true≢false (sym e ∙ found_known gpr next w h ∙ ap is_known u)),
  (λ c. found_known gpr next w h ∙ carried_known (plan gpr next w) c),
)
