-- What the programs make, at each way out of them: an input that is too long, a refusal, a result. And that a bad line's numbers are small,
-- and a result lies within the output lent.
use mathlib.Core.Path.{◌≡◌, refl, sym, ap}
use mathlib.Core.List.{List, []}
use Prim.Native.Nat.{ℕ, ◌^◌, ◌≤◌, ◌<◌}
use native.Mathlib.Omega.{arith}
use borrow.Author.Tests.{le-leb, lt-leb}
use lib.Dec.{leb}
use lib.ListN.{length}
use Rattle.std.specs.Prelude.{Ok, Err}
use Rattle.model.specs.Answers.{refusal_number}
use Rattle.model.specs.Console.{refused_word, spaced, newline, refused_line}
use Rattle.model.specs.declared.Refusal.{Refusal}
use Rattle.laws.proofs.Choice.{chosen}
use Rattle.laws.proofs.Granted.{some_number}
use Rattle.text.specs.Text.{Appended}
use Rattle.text.proofs.Appending.{nothing, joined, same, within}
use Rattle.notation.specs.Calls.{AssembleOutcome, assemble_outcome, assemble_call, ListOutcome, list_outcome, list_call}
use Rattle.notation.specs.Answers.{AssembleAnswer, not_assembled, ListAnswer}
use Rattle.grammar.proofs.Bounds.{assemble_few, listing_inside}
use Rattle.workshop.specs.Programs.{Work, refused_at, asm_by, asm_work, list_by, list_work, Does}
use Rattle.workshop.specs.declared.Made.{Made}

-- ---- a refusal: its line, and the output as it was; a result: nothing is said
abbrev refusal : List ℕ → List ℕ → Work
refusal line out = record { length = 0; out = out; line = line }

abbrev result : ℕ → List ℕ → Work
result n out = record { length = n; out = out; line = [] }

module _ {w : Work} {said after : List ℕ} where
  pub refused : {r : Made} {heard line : List ℕ} → (r.written ≡ 0) × Appended said 0 heard r.said line → refusal line after ≡ w
      → Does w said r after heard
  refused {r} {heard} {line} h e =
      let p : Does (refusal line after) said r after heard = record { written = h.0; output = refl; line = h.1 } in
      rw e at p

  pub made : (n : ℕ) → result n after ≡ w → Does w said (record { written = n; said = 0 }) after said
  made n e =
      let r : Made = record { written = n; said = 0 } in
      let p : Does (result n after) said r after said = record { written = refl; output = refl; line = nothing said 0 (omega arith) } in
      rw e at p

-- what is to be written lies within the buffers lent
pub record Inside (r : Made) (after heard : List ℕ) : Type 0 where
  pub written : r.written ≤ length after
  pub said : r.said ≤ length heard

inside : {w : Work} {said after heard : List ℕ} {r : Made} → w.length ≤ length w.out → Does w said r after heard → Inside r after heard
inside h p = record { written = rw (p.written, p.output) h; said = within p.line }

-- ---- asm
abbrev WordsIn : AssembleOutcome → Type 0
WordsIn o = o.numbers.length ≤ length o.out

-- the line of a bad line, one thing after another
pub said_at : (x : Refusal) (n line column : ℕ) {b c d e f g : List ℕ} {h i j k m : ℕ} → n ≡ refusal_number x → Appended b 0 c h refused_word
    → Appended c h d i (spaced n) → Appended d i e j (spaced line) → Appended e j f k (spaced column) → Appended f k g m newline
    → Appended b 0 g m (refused_at (refusal_number x) line column)
said_at x n line column is word number place behind last =
    same (joined word (joined number (joined place (joined behind last)))) (ap (λ a. refused_at a line column) is)

asm_refused : (x : Refusal) (line column : ℕ) (out : List ℕ)
    → refusal (refused_at (refusal_number x) line column) out ≡ asm_by (assemble_outcome (Err (not_assembled x line column)) out)
asm_refused x line column out = rw (some_number x)

module _ (input out : List ℕ) where
  pub text_long : 294912 < length input → refusal (refused_at 7 0 0) out ≡ asm_work input out
  unfolding asm_work
  text_long h = simp lt-leb

  pub long_none : 294912 < length input → (asm_work input out).length ≡ 0
  long_none h = ap (λ w. w.length) (sym (text_long h))

  pub long_same : 294912 < length input → (asm_work input out).out ≡ out
  long_same h = ap (λ w. w.out) (sym (text_long h))

  pub long_said : 294912 < length input → (asm_work input out).line ≡ refused_at 7 0 0
  long_said h = ap (λ w. w.line) (sym (text_long h))

  module _ (short : length input ≤ 294912) where
    asm_called : asm_work input out ≡ asm_by (assemble_call input out)
    unfolding asm_work
    asm_called = simp le-leb

    module _ (a : AssembleAnswer) (after : List ℕ) (call : assemble_outcome a after ≡ assemble_call input out) where
      pub text_good : (n : ℕ) → a ≡ Ok n → result n after ≡ asm_work input out
      text_good n e = rw (asm_called, ← call, e)

      module _ (x : Refusal) (line column : ℕ) (e : a ≡ Err (not_assembled x line column)) where
        pub text_bad : refusal (refused_at (refusal_number x) line column) after ≡ asm_work input out
        text_bad = rw (asm_called, ← call, e) (asm_refused x line column after)

        pub small : (line < 2 ^ 32) × (column < 2 ^ 32)
        small =
            let few = rw (← call, e) at (assemble_few input out) in
            (omega (arith, few.line), omega (arith, few.column))

  words_inside : (asm_work input out).length ≤ length (asm_work input out).out
  unfolding asm_work
  words_inside = chosen WordsIn (leb (length input) 294912) (λ _. (assemble_few input out).inside) (λ _. omega arith)

  pub asm_inside : {said after heard : List ℕ} {r : Made} → Does (asm_work input out) said r after heard → Inside r after heard
  asm_inside p = inside words_inside p

-- ---- list
abbrev TextIn : ListOutcome → Type 0
TextIn o = o.numbers.length ≤ length o.out

list_refused_lem : (x : Refusal) (out : List ℕ) → refusal (refused_line (refusal_number x)) out ≡ list_by (list_outcome (Err x) out)
list_refused_lem x out = rw (some_number x)

module _ (input out : List ℕ) where
  pub words_long : 65536 < length input → refusal (refused_line 7) out ≡ list_work input out
  unfolding list_work
  words_long h = simp lt-leb

  module _ (short : length input ≤ 65536) where
    list_called : list_work input out ≡ list_by (list_call input out)
    unfolding list_work
    list_called = simp le-leb

    module _ (a : ListAnswer) (after : List ℕ) (call : list_outcome a after ≡ list_call input out) where
      pub words_good : (n : ℕ) → a ≡ Ok n → result n after ≡ list_work input out
      words_good n e = rw (list_called, ← call, e)

      pub words_bad : (x : Refusal) → a ≡ Err x → refusal (refused_line (refusal_number x)) after ≡ list_work input out
      words_bad x e = rw (list_called, ← call, e) (list_refused_lem x after)

  text_inside : (list_work input out).length ≤ length (list_work input out).out
  unfolding list_work
  text_inside = chosen TextIn (leb (length input) 65536) (λ _. listing_inside input out) (λ _. omega arith)

  pub list_inside : {said after heard : List ℕ} {r : Made} → Does (list_work input out) said r after heard → Inside r after heard
  list_inside p = inside text_inside p
