-- What is written first, what the lines are answered and the end are together all that the definition says.
use mathlib.Core.Path.{◌≡◌, refl, sym, ap, ◌∙◌}
use mathlib.Core.List.{List, ◌++◌}
use Prim.Native.Nat.{ℕ, ◌*◌, ◌≤◌}
use native.Mathlib.Omega.{arith}
use lib.ListN.{take, replicate}
use Rattle.std.specs.Prelude.{true, false, Option, Ok, Err}
use Rattle.std.specs.Io.KnownBytes.{Appends}
use Rattle.std.proofs.Common.{append_assoc}
use Rattle.std.proofs.lemmas.List.{append-nil, take-replicate}
use Rattle.model.specs.State.{memory}
use Rattle.model.specs.Answers.{refusal_number, ImageNumbers, image_numbers, Verdict}
use Rattle.model.specs.Image.{ptl_of, image_by}
use Rattle.model.specs.Console.{refused_line}
use Rattle.model.specs.declared.Refusal.{Refusal}
use Rattle.model.specs.declared.Written.{Written}
use Rattle.laws.proofs.Granted.{refused}
use Rattle.session.specs.Series.{admits}
use Rattle.files.proofs.Known.{appended}
use Rattle.talk.specs.Script.{Spoken, Talk, talk, talk_after, lines_of}
use Rattle.comparison.specs.Desk.{Desk}
use Rattle.comparison.specs.Line.{spoken}
use Rattle.comparison.specs.Begun.{admitted, begun}
use Rattle.comparison.specs.Compare.{closing, closed, begun_with, text_by, compare_text}

module _ (s : Spoken Desk) (script first : List ℕ) (d : Desk) (a b : Option (List ℕ)) (text_is : first ≡ s.text)
    (goes : d.goes_on ≡ s.goes_on) (desk_is : d ≡ s.desk) (h : Appends a b first) where
  alone : d.goes_on ≡ false → closed (talk_after spoken s script) ≡ s.text
  alone off = rw (sym goes ∙ off, sym (ap (λ (e : Desk). e.goes_on) desk_is) ∙ off) (append-nil s.text)

  pub ended : d.goes_on ≡ false → Appends a b (closed (talk_after spoken s script))
  ended off = rw (alone off, sym text_is) h

  abbrev all : Talk Desk
  all = talk spoken 0 d (lines_of script)

  module _ (on : d.goes_on ≡ true) (last : Desk) (stands : last ≡ all.desk) (c z : Option (List ℕ)) (i : Appends b c all.text) (end : List ℕ)
      (end_is : end ≡ closing last.goes_on last.lines) (j : Appends c z end) where
    together : closed (talk_after spoken s script) ≡ first ++ (all.text ++ end)
    together =
        rw (sym goes ∙ on)
        (append_assoc s.text (talk spoken 0 s.desk (lines_of script)).text _ ∙ rw (text_is, end_is, stands, desk_is) refl)

    pub went_on : Appends a z (closed (talk_after spoken s script))
    went_on = rw together (appended a b z first (all.text ++ end) h (appended b c z all.text end i j))

-- ---- the image, as the reader answered it
module _ (file : List ℕ) (pages : ℕ) (script : List ℕ) where
  pub text_granted : {w : Written} → image_numbers (Ok w) ≡ admitted file pages
      → compare_text file pages script ≡ closed (talk_after spoken (begun_with file pages) script)
  unfolding compare_text
  text_granted {w} = by (admits file pages)
    where
      by : (v : Verdict) → image_numbers (Ok w) ≡ (image_by v file).numbers
          → text_by spoken v file pages script ≡ closed (talk_after spoken (begun_with file pages) script)
      by (Ok tt) e = refl
      by (Err r) e = refused r (sym (ap (λ (n : ImageNumbers). n.verdict.refused) e))

  pub text_refused : (r : Refusal) → image_numbers (Err r) ≡ admitted file pages → refused_line (refusal_number r) ≡ compare_text file pages script
  unfolding compare_text
  text_refused r = by (admits file pages)
    where
      by : (v : Verdict) → image_numbers (Err r) ≡ (image_by v file).numbers → refused_line (refusal_number r) ≡ text_by spoken v file pages script
      by (Ok tt) e = refused r (ap (λ (n : ImageNumbers). n.verdict.refused) e)
      by (Err q) e = ap (λ (n : ImageNumbers). refused_line n.verdict.refused) e

-- what is lent is a part of arrays of zeros
pub zeros : (k n : ℕ) → k ≤ n → replicate {A = ℕ} k 0 ≡ take k (replicate n 0)
zeros k n h = sym (take-replicate {X = ℕ} k n 0 h)

pub begun_zeros : (file : List ℕ) (pages ptl : ℕ) → ptl ≡ ptl_of file → ptl ≤ 64 → pages ≤ 64
    → begun_with file pages
    ≡ begun file (memory (take (4096 * pages) (replicate 262144 0)) (take (4096 * ptl) (replicate 262144 0))) (take (4096 * ptl) (replicate 262144 0))
    (take ptl (replicate 64 0))
begun_zeros file pages ptl is h i =
    rw (← is, zeros (4096 * pages) 262144 (omega arith), zeros (4096 * ptl) 262144 (omega arith), zeros ptl 64 h)
