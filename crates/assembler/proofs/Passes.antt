-- The two passes, line by line: what the first has counted (`Counted`), and what the second has written (`Written`).
use mathlib.Core.Path.{◌≡◌, refl, sym, ap, ap₂, ◌∙◌}
use mathlib.Core.List.{List, [], ◌∷◌}
use Prim.Native.Nat.{ℕ, ◌+◌, ◌*◌, ◌/◌, ◌≤◌, ◌<◌}
use native.Mathlib.Nat.{zero-add}
use native.Mathlib.Omega.{arith}
use borrow.Author.Tests.{le-leb, lt-leb}
use lib.ListN.{length}
use Rattle.std.specs.Prelude.{Result, Ok, Err}
use Rattle.model.specs.declared.Refusal.{Refusal}
use Rattle.model.specs.declared.Refusal.TheVariants.{Room}
use Rattle.laws.specs.Over.{over}
use Rattle.laws.proofs.Choice.{clash}
use Rattle.laws.proofs.Over.{over_none, over_over, length_over}
use Rattle.notation.specs.Calls.{bytes_of_word, bytes_of, assemble_outcome, assemble_by, assemble_call}
use Rattle.notation.specs.Line.{line_of}
use Rattle.notation.specs.Text.{lines, Reading, words, bad, with, judged, read_from, read_text}
use Rattle.notation.specs.Answers.{Parsed, wrong, not_assembled}
use Rattle.notation.specs.declared.NotAssembled.{NotAssembled}
use Rattle.grammar.proofs.Line.{line_wrong}
use Rattle.assembler.specs.Passes.{checked_by, checked, word_of}

-- what is read of the lines that are left, as line k and those behind it
abbrev read_on : List ℕ → ℕ → Reading
read_on left k = read_from k (lines left)

module _ (left : List ℕ) (k : ℕ) where
  read_none : lines left ≡ [] → read_on left k ≡ words []
  unfolding read_from
  read_none h = rw h refl

  read_line_lem : (line behind : List ℕ) → lines left ≡ line ∷ lines behind → read_on left k ≡ judged k (line_of line) (read_on behind (k + 1))
  unfolding read_from
  read_line_lem line behind h = rw h refl

-- ---- the first pass
-- what is found behind n good lines
abbrev counted : ℕ → Reading → Result ℕ NotAssembled
counted n (words ws) = Ok (n + length ws)
counted n (bad r line column) = Err (not_assembled r line column)

counted_none : (r : Reading) → counted 0 r ≡ checked_by r
counted_none (words ws) = ap Ok (zero-add (length ws))
counted_none (bad r line column) = refl

counted_more : (n w : ℕ) (r : Reading) → counted n (with w r) ≡ counted (n + 1) r
counted_more n w (words ws) = ap Ok (omega arith)
counted_more n w (bad r line column) = refl

pub record Counted (text left : List ℕ) (n : ℕ) : Type 0 where
  pub few : n + length left ≤ length text
  pub same : counted n (read_on left (n + 1)) ≡ checked text

pub count_none : (text : List ℕ) → Counted text text 0
unfolding checked read_text
count_none text = record { few = omega arith; same = counted_none (read_from 1 (lines text)) }

module _ {text left : List ℕ} {n : ℕ} (p : Counted text left n) where
  pub count_end : lines left ≡ [] → Ok n ≡ checked text
  count_end h = ap Ok (omega arith) ∙ sym (ap (counted n) (read_none left (n + 1) h)) ∙ p.same

  module _ (line behind : List ℕ) (h : lines left ≡ line ∷ lines behind) where
    found : {q : Parsed} → q ≡ line_of line → counted n (judged (n + 1) q (read_on behind (n + 1 + 1))) ≡ checked text
    found e = sym (ap (counted n) (read_line_lem left (n + 1) line behind h ∙ ap (λ q. judged (n + 1) q (read_on behind (n + 1 + 1))) (sym e))) ∙ p.same

    pub count_bad : {r : Refusal} {place k column : ℕ} → Err (wrong r place) ≡ line_of line → k ≡ n + 1 → column ≡ place + 1
        → Err (not_assembled r k column) ≡ checked text
    count_bad {r} e k l = ap₂ (λ a b. Err (not_assembled r a b)) k l ∙ found e

    pub count_place : {r : Refusal} {place : ℕ} → length line + length behind ≤ length left → Err (wrong r place) ≡ line_of line → place ≤ length text
    count_place {r} {place} k e = omega (arith, line_wrong line r place (sym e), k, p.few)

    pub count_more : {w next : ℕ} → length behind < length left → Ok (w, next) ≡ line_of line → Counted text behind (n + 1)
    count_more {w} k e = record {
      few = omega (arith, k, p.few);
      same = sym (counted_more n w (read_on behind (n + 1 + 1))) ∙ found e;
    }

-- ---- a bad line
as_bad : Result ℕ NotAssembled → Reading
as_bad (Ok n) = words []
as_bad (Err w) = bad w.refusal w.line w.column

bad_line : {w : NotAssembled} (read : Reading) → checked_by read ≡ Err w → read ≡ bad w.refusal w.line w.column
unfolding as_bad
bad_line (words ws) e = clash (cc)
bad_line (bad r line column) e = ap as_bad e

pub refused_line_lem : (text out : List ℕ) {w : NotAssembled} → Err w ≡ checked text → assemble_outcome (Err w) out ≡ assemble_call text out
unfolding assemble_call checked
refused_line_lem text out e = sym (ap (λ read. assemble_by read out) (bad_line (read_text text) (sym e)))

-- ---- the second pass, where the first has found `count` good lines
abbrev Good-words : ℕ → Reading → Type 0
Good-words count r = (ws : List ℕ) × (r ≡ words ws) × (length ws ≡ count)

good_words : {count : ℕ} (r : Reading) → checked_by r ≡ Ok count → Good-words count r
good_words (words ws) e = (ws, refl, cc)
good_words (bad r line column) e = clash (cc)

-- what is left to write is what is read of the lines that are left
pub record Written (text before : List ℕ) (count : ℕ) (left : List ℕ) (n : ℕ) (out : List ℕ) : Type 0 where
  pub rest : List ℕ
  pub reads : read_on left (n + 1) ≡ words rest
  pub few : n + length rest ≡ count
  pub room : 4 * count ≤ length out
  pub long : length out ≡ length before
  pub same : assemble_outcome (Ok (4 * count)) (over (4 * n) (bytes_of rest) out) ≡ assemble_call text before

module _ (text out : List ℕ) {count : ℕ} (e : checked text ≡ Ok count) where
  found_good : Good-words count (read_text text)
  unfolding checked
  found_good = good_words (read_text text) e

  pub no_room : length out / 4 < count → assemble_outcome (Err (not_assembled Room 0 0)) out ≡ assemble_call text out
  unfolding assemble_call
  no_room h =
      let short : length out < 4 * length found_good.0 = omega (arith, found_good.2) in
      rw found_good.1 (simp lt-leb)

  module _ (h : count ≤ length out / 4) where
    with_room : assemble_outcome (Ok (4 * count)) (over 0 (bytes_of found_good.0) out) ≡ assemble_call text out
    unfolding assemble_call
    with_room =
        let room : 4 * length found_good.0 ≤ length out = omega (arith, found_good.2) in
        ap (λ k. assemble_outcome (Ok (4 * k)) (over 0 (bytes_of found_good.0) out)) (sym found_good.2)
        ∙ rw found_good.1 (simp le-leb)

    pub write_none : Written text out count text 0 out
    unfolding read_text
    write_none = record {
      rest = found_good.0;
      reads = found_good.1;
      few = omega (arith, found_good.2);
      room = omega arith;
      long = refl;
      same = with_room;
    }

-- a word that is read, and those behind it
one_read : (k : ℕ) (q : Parsed) (r : Reading) {ws : List ℕ} → judged k q r ≡ words ws
    → (behind : List ℕ) × (r ≡ words behind) × (ws ≡ word_of q ∷ behind)
one_read k (Ok (w, next)) (words ws) e = (ws, refl, cc)
one_read k (Ok (w, next)) (bad r line column) e = clash (cc)
one_read k (Err w) b e = clash (cc)

module _ {text before left : List ℕ} {count n : ℕ} {out : List ℕ} (p : Written text before count left n out) where
  pub write_end : lines left ≡ [] → assemble_outcome (Ok (4 * count)) out ≡ assemble_call text before
  unfolding bytes_of
  write_end h =
      let e : p.rest ≡ [] = cc (read_none left (n + 1) h) in
      ap (λ l. assemble_outcome (Ok (4 * count)) l) (sym (ap (λ r. over (4 * n) (bytes_of r) out) e ∙ over_none (4 * n) out)) ∙ p.same

  module _ (line behind : List ℕ) (h : lines left ≡ line ∷ lines behind) where
    w : ℕ
    w = word_of (line_of line)

    onward : (ws : List ℕ) × (read_on behind (n + 1 + 1) ≡ words ws) × (p.rest ≡ w ∷ ws)
    unfolding w
    onward = one_read (n + 1) (line_of line) _ (sym (read_line_lem left (n + 1) line behind h) ∙ p.reads)

    pub write_room : 4 * n + 4 ≤ length out
    write_room = omega (arith, ap length onward.2)

    put : List ℕ
    put = over (4 * n) (bytes_of_word w []) out

    put_long : length put ≡ length out
    unfolding put
    put_long = length_over (4 * n) (bytes_of_word w []) out write_room

    -- the word and those behind it are what was left
    put_same : over (4 * (n + 1)) (bytes_of onward.0) put ≡ over (4 * n) (bytes_of p.rest) out
    unfolding bytes_of put
    put_same =
        let e : 4 * (n + 1) ≡ 4 * n + 4 = omega arith in
        ap (λ k. over k (bytes_of onward.0) put) e ∙ over_over (4 * n) (bytes_of_word w []) out write_room (bytes_of onward.0)
        ∙ ap (λ r. over (4 * n) (bytes_of r) out) (sym onward.2)

    pub write_more : Written text before count behind (n + 1) (over (4 * n) (bytes_of_word (word_of (line_of line)) []) out)
    unfolding w put
    write_more = record {
      rest = onward.0;
      reads = onward.1;
      few = omega (arith, ap length onward.2);
      room = omega (arith, put_long);
      long = put_long ∙ p.long;
      same = ap (λ l. assemble_outcome (Ok (4 * count)) l) put_same ∙ p.same;
    }
