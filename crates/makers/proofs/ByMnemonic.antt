-- The table of mnemonics is no second truth beside the model (`by_mnemonic`).
use mathlib.Core.Path.{◌≡◌, refl, sym, ap, ◌∙◌}
use mathlib.Core.Bool.{Bool, true, false, true≢false}
use mathlib.Core.Logic.{◌↔◌}
use mathlib.Core.List.{List, ◌∷◌, ◌++◌}
use Prim.Native.Nat.{ℕ, ◌^◌, ◌≤◌, ◌<◌}
use native.Mathlib.Omega.{arith}
use borrow.Author.Tests.{eqb-true, eqb-false}
use lib.Dec.{eqb}
use Rattle.model.specs.Console.{digits}
use Rattle.model.specs.Instruction.{plan}
use Rattle.text.specs.Reading.{is_digit}
use Rattle.notation.specs.Table.{Row, rows, first_row}
use Rattle.notation.specs.Sums.{byte_at}
use Rattle.notation.specs.Listing.{key_of, is_keyed, filled, pieces_text, by_row, listed}
use Rattle.makers.specs.ByMnemonic.{row_found, unused_zeroed, ListedByName, ByMnemonic}
use Rattle.makers.proofs.ByMnemonicFirst.{First, row, nowhere, first, first_passes}
use Rattle.makers.proofs.ByMnemonicZeroed.{Zeroed, each_zeroed}
use Rattle.makers.proofs.ByMnemonicKnown.{found}
use Rattle.makers.proofs.ByMnemonicBegins.{number_begins, is_word, word_begins, names_begin}

-- ---- the word with its unused fields zero
-- the row of a word's key, if there is one
abbrev Here : ℕ → Type 1
Here w = First (λ r. Zeroed r.base r.pieces w) (is_keyed w) rows

here : (w : ℕ) → w < 2 ^ 32 → Here w
here w h = first (λ r. Zeroed r.base r.pieces w) (is_keyed w) rows (each_zeroed w h)

-- by a key, of which `unused_zeroed` takes the word's own
zeroed_by : ℕ → ℕ → ℕ
zeroed_by key w = first_row (λ r. eqb r.base key) (λ r. filled r.pieces r.base w) w rows

zeroed_by_lem : (w : ℕ) → unused_zeroed w ≡ zeroed_by (key_of w) w
unfolding unused_zeroed zeroed_by
zeroed_by_lem w = refl

-- what u, the word w with its unused fields zero, has of w
record Same (w u : ℕ) : Type 0 where
  same : (gpr : List ℕ) (next : ℕ) → plan gpr next u ≡ plan gpr next w
  again : unused_zeroed u ≡ u
  within : u ≤ w

unused : (w : ℕ) → Here w → Same w (unused_zeroed w)
unfolding unused_zeroed zeroed_by
unused w (row r z e) =
    rw (e ℕ (λ r. filled r.pieces r.base w) w)
    (record {
      same = z.same;
      again = zeroed_by_lem (filled r.pieces r.base w) ∙ ap (λ (key : ℕ). zeroed_by key (filled r.pieces r.base w)) z.key ∙ e ℕ _ _ ∙ z.again;
      within = z.within;
    })
unused w (nowhere e) =
    rw (e ℕ (λ r. filled r.pieces r.base w) w)
    (record { same = λ gpr next. refl; again = e ℕ _ _; within = omega arith })

-- ---- a word's line, by the two ways out of `by_row`
by_row_name : (w : ℕ) (r : Row) → eqb (filled r.pieces r.base w) w ≡ true → by_row w r ≡ r.name ++ 32 ∷ pieces_text r.pieces w
unfolding by_row
by_row_name w r q = rw q refl

by_row_number : (w : ℕ) (r : Row) → eqb (filled r.pieces r.base w) w ≡ false → by_row w r ≡ digits 9 w
unfolding by_row
by_row_number w r q = rw q refl

record Line (w : ℕ) : Type 0 where
  by_name : ListedByName w ↔ ((row_found w ≡ true) × (unused_zeroed w ≡ w))
  by_number : (ListedByName w → ⊥) → listed w ≡ digits 9 w

numbered : (w : ℕ) → w < 2 ^ 32 → listed w ≡ digits 9 w → (row_found w ≡ true → unused_zeroed w ≡ w → ⊥) → Line w
numbered w h e not-both = record {
  by_name = (
    (λ n. absurd (true≢false (sym (number_begins w h) ∙ sym (ap (λ (l : List ℕ). is_digit (byte_at l 0)) e) ∙ n))),
    (λ p. absurd (not-both p.0 p.1)),
  );
  by_number = λ n. e;
}

named : (w : ℕ) (name behind : List ℕ) → listed w ≡ name ++ behind → is_word name ≡ true → row_found w ≡ true → unused_zeroed w ≡ w → Line w
named w name behind e word has-row unused-zero =
    let begins : ListedByName w = ap (λ (l : List ℕ). is_digit (byte_at l 0)) e ∙ word_begins name behind word in
    record { by_name = ((λ n. (has-row, unused-zero)), (λ p. begins)); by_number = λ n. absurd (n begins) }

line : (w : ℕ) → w < 2 ^ 32 → Here w → Line w
unfolding row_found unused_zeroed listed
line w h (nowhere e) = numbered w h (e (List ℕ) _ _) (λ f z. true≢false (sym f ∙ e Bool _ _))
line w h (row r z e) = pick (eqb (filled r.pieces r.base w) w) refl
  where
    text : listed w ≡ by_row w r
    text = e (List ℕ) _ _

    word : is_word r.name ≡ true
    word = sym (e Bool (λ r. is_word r.name) true) ∙ first_passes (is_keyed w) (λ r. is_word r.name) rows names_begin

    pick : (b : Bool) → eqb (filled r.pieces r.base w) w ≡ b → Line w
    pick true q =
        named w r.name (32 ∷ pieces_text r.pieces w) (text ∙ by_row_name w r q) word (e Bool _ _) (e ℕ _ _ ∙ eqb-true _ w q)
    pick false q = numbered w h (text ∙ by_row_number w r q) (λ f z. eqb-false _ w q (sym (e ℕ _ _) ∙ z))

-- ---- the theorem
pub by_mnemonic : ByMnemonic
by_mnemonic = record {
  found = found;
  same_plan = λ gpr next w h. (unused w (here w h)).same gpr next;
  zeroed_again = λ w h. (unused w (here w h)).again;
  zeroed_within = λ w h. (unused w (here w h)).within;
  by_name = λ gpr next w h. (
    (λ n. let p = (line w h (here w h)).by_name.0 n in ((found gpr next w h).0 p.0, p.1)),
    (λ p. (line w h (here w h)).by_name.1 ((found gpr next w h).1 p.0, p.1)),
  );
  by_number = λ w h. (line w h (here w h)).by_number;
}
