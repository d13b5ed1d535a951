-- The numbers that `assemble` answers, exactly, and what it leaves of the lent output.
use mathlib.Core.Path.{◌≡◌, refl, sym, ap, ◌∙◌}
use mathlib.Core.Logic.{◌↔◌, ◌⊎◌, inl, inr}
use mathlib.Core.Bool.{Bool, true, false}
use mathlib.Core.List.{List, [], ◌∷◌}
use Prim.Native.Nat.{ℕ, ◌-◌, ◌*◌, ◌≤◌, ◌<◌}
use native.Mathlib.Omega.{arith}
use lib.Dec.{leb, eqb}
use lib.ListN.{length, get_or}
use borrow.Author.Tests.{le-leb, lt-leb, leb-true, leb-false}
use Rattle.std.specs.Prelude.{if◌then◌else◌, Ok, Err}
use Rattle.model.specs.Answers.{refusal_number}
use Rattle.model.specs.declared.Refusal.{Refusal}
use Rattle.model.specs.declared.Refusal.TheVariants.{Room, Mnemonic, Operand, Overflow}
use Rattle.laws.specs.Over.{over}
use Rattle.notation.specs.Text.{lines, Reading, words, bad, read_text}
use Rattle.notation.specs.Calls.{bytes_of, AssembleOutcome, assemble_outcome, assemble_call}
use Rattle.notation.specs.Answers.{not_assembled}
use Rattle.makers.specs.Refusals.{EveryGood, BadBy, assemble_number, OfAssemble, AssembleExactly, Kept}
use Rattle.makers.proofs.Texts.{good, first_found, first_is, placed}
use Rattle.makers.proofs.Keeping.{kept_refused, kept_result}

length-bytes_of : (ws : List ℕ) → length (bytes_of ws) ≡ 4 * length ws
unfolding bytes_of
length-bytes_of [] = refl
length-bytes_of (w ∷ ws) = omega (arith, length-bytes_of ws)

-- ---- the three ways of `assemble`
data Told (text out : List ℕ) : Type 0 where
  refused : (r : Refusal) (n column : ℕ) → read_text text ≡ bad r n column → Told text out
  short : (ws : List ℕ) → read_text text ≡ words ws → length out < 4 * length ws → Told text out
  done : (ws : List ℕ) → read_text text ≡ words ws → 4 * length ws ≤ length out → Told text out

told : (text out : List ℕ) → Told text out
told text out = pick (read_text text) refl
  where
    pick : (read : Reading) → read_text text ≡ read → Told text out
    pick (bad r n column) e = refused r n column e
    pick (words ws) e = room (leb (4 * length ws) (length out)) refl
      where
        room : (b : Bool) → leb (4 * length ws) (length out) ≡ b → Told text out
        room true q = done ws e (leb-true _ _ q)
        room false q = short ws e (leb-false _ _ q)

abbrev number : AssembleOutcome → ℕ
number o = o.numbers.verdict.refused

-- ---- the refusals of a line, by their numbers
abbrev ByLine : Refusal → Type 0
ByLine r = (r ≡ Mnemonic) ⊎ (r ≡ Operand) ⊎ (r ≡ Overflow)

refusal_of : ℕ → Refusal
refusal_of n = if eqb n 8 then Mnemonic else if eqb n 9 then Operand else Overflow

numbered : {r : Refusal} → ByLine r → (refusal_of (refusal_number r) ≡ r) × (8 ≤ refusal_number r) × (refusal_number r ≤ 10)
unfolding refusal_of
numbered (inl e) = rw e (refl, omega arith, omega arith)
numbered (inr (inl e)) = rw e (refl, omega arith, omega arith)
numbered (inr (inr e)) = rw e (refl, omega arith, omega arith)

same_refusal : {r s : Refusal} → ByLine r → ByLine s → refusal_number r ≡ refusal_number s → r ≡ s
same_refusal a b e = sym (numbered a).0 ∙ ap refusal_of e ∙ (numbered b).0

module _ (text out : List ℕ) where
  refused_call : {r : Refusal} {n column : ℕ} → read_text text ≡ bad r n column
      → assemble_call text out ≡ assemble_outcome (Err (not_assembled r n column)) out
  unfolding assemble_call
  refused_call e = rw e

  module _ {ws : List ℕ} (e : read_text text ≡ words ws) where
    short_call : length out < 4 * length ws → assemble_call text out ≡ assemble_outcome (Err (not_assembled Room 0 0)) out
    unfolding assemble_call
    short_call h = rw e (simp lt-leb)

    done_call : 4 * length ws ≤ length out → assemble_call text out ≡ assemble_outcome (Ok (4 * length ws)) (over 0 (bytes_of ws) out)
    unfolding assemble_call
    done_call h = rw e (simp le-leb)

    every_good : EveryGood text
    every_good k h = (get_or ws (k - 1) 0, ((good text ws).0 e).of_line k h)

    one_each : length ws ≡ length (lines text)
    one_each = ((good text ws).0 e).one_each

  not_good : {r : Refusal} {n column : ℕ} → read_text text ≡ bad r n column → EveryGood text → ⊥
  not_good {r} {n} {column} e g =
      let p = first_found text r n column e in
      let w = g n p.is_line in
      let z : ◌≡◌ {A = ℕ} 0 1 = cc (p.wrong, w.1.1) in
      omega arith

  -- what its number says
  bad_number : (s : Refusal) → ByLine s → (assemble_number text out ≡ refusal_number s) ↔ BadBy text s
  bad_number s b = (found (told text out), λ p. ap number (refused_call (first_is text s p.0 p.1 p.2)))
    where
      found : Told text out → assemble_number text out ≡ refusal_number s → BadBy text s
      found (refused r n column e) h =
          let q : r ≡ s = same_refusal (placed text r n column e).by_line b (sym (ap number (refused_call e)) ∙ h) in
          (n, column, rw q at (first_found text r n column e))
      found (short ws e h) q = absurd (omega (arith, (numbered b).1, q, ap number (short_call e h)))
      found (done ws e h) q = absurd (omega (arith, (numbered b).1, q, ap number (done_call e h)))

  -- every line is good: there is room, or not
  abbrev Roomy : Type 0
  Roomy =
      ((assemble_number text out ≡ 7) ↔ (EveryGood text × (length out < 4 * length (lines text))))
      × ((assemble_number text out ≡ 0) ↔ (EveryGood text × (4 * length (lines text) ≤ length out)))

  good_numbers : Roomy
  good_numbers = pick (told text out)
    where
      pick : Told text out → Roomy
      pick (refused r n column e) =
          let large : 8 ≤ assemble_number text out = omega (arith, (numbered (placed text r n column e).by_line).1, ap number (refused_call e)) in
          ((λ q. absurd (omega arith), λ p. absurd (not_good e p.0)), (λ q. absurd (omega arith), λ p. absurd (not_good e p.0)))
      pick (short ws e h) =
          let less : length out < 4 * length (lines text) = omega (arith, one_each e) in
          let n : assemble_number text out ≡ 7 = ap number (short_call e h) in
          ((λ q. (every_good e, less), λ p. n), (λ q. absurd (omega arith), λ p. absurd (omega (arith, p.1))))
      pick (done ws e h) =
          let room : 4 * length (lines text) ≤ length out = omega (arith, one_each e) in
          let n : assemble_number text out ≡ 0 = ap number (done_call e h) in
          ((λ q. absurd (omega arith), λ p. absurd (omega (arith, p.1))), (λ q. (every_good e, room), λ p. n))

  line_number : {r : Refusal} → ByLine r → assemble_number text out ≡ refusal_number r → OfAssemble (assemble_number text out)
  line_number (inl q) e = inr (inr (inl (e ∙ ap refusal_number q)))
  line_number (inr (inl q)) e = inr (inr (inr (inl (e ∙ ap refusal_number q))))
  line_number (inr (inr q)) e = inr (inr (inr (inr (e ∙ ap refusal_number q))))

  no_other : OfAssemble (assemble_number text out)
  no_other = pick (told text out)
    where
      pick : Told text out → OfAssemble (assemble_number text out)
      pick (done ws e h) = inl (ap number (done_call e h))
      pick (short ws e h) = inr (inl (ap number (short_call e h)))
      pick (refused r n column e) = line_number (placed text r n column e).by_line (ap number (refused_call e))

  pub assemble : AssembleExactly text out
  assemble = record {
    mnemonic = bad_number Mnemonic (inl refl);
    operand = bad_number Operand (inr (inl refl));
    overflow = bad_number Overflow (inr (inr refl));
    room = good_numbers.0;
    done = good_numbers.1;
    no_other = no_other;
  }

  -- ---- the lent output
  abbrev Keeps : AssembleOutcome → Type 0
  Keeps o = Kept (number o) o.numbers.length out o.out

  pub assemble_keeps : Keeps (assemble_call text out)
  assemble_keeps = pick (told text out)
    where
      pick : Told text out → Keeps (assemble_call text out)
      pick (refused r n column e) = rw (refused_call e) (kept_refused (refusal_number r) 0 out)
      pick (short ws e h) = rw (short_call e h) (kept_refused 7 0 out)
      pick (done ws e h) = rw (done_call e h) (kept_result (4 * length ws) (bytes_of ws) out (length-bytes_of ws) h)
