-- The program never says `differ` (`never_differs`). Two machines are alike where any series of steps finds them the same: by `every_same`
-- those that loading makes are, and a call leaves them so.
use mathlib.Core.Bool.{Bool, true, false, true≢false}
use mathlib.Core.Path.{◌≡◌, refl, sym, ap, ap₂}
use mathlib.Core.List.{List, [], ◌∷◌, ◌++◌}
use Prim.Native.Nat.{ℕ, suc, ◌*◌}
use lib.Dec.{eqb}
use lib.ListN.{length, drop, length-replicate}
use borrow.Author.Tests.{eq-eqb, eqb-true}
use Rattle.std.specs.Prelude.{if◌then◌else◌, Ok, Err}
use Rattle.model.specs.Answers.{Verdict}
use Rattle.model.specs.Bytes.{same}
use Rattle.model.specs.State.{Memory}
use Rattle.model.specs.Pages.{virtual}
use Rattle.model.specs.Console.{or_refused}
use Rattle.model.specs.Image.{ptl_of, load_call}
use Rattle.model.specs.Series as series
use Rattle.model.specs.Series.{SeriesStep, calls, runs, reads, writes, views, replies, after, after_step, after_all}
use Rattle.model.specs.declared.Pcs.{Pcs}
use Rattle.laws.proofs.Choice.{and_both, pass_none, pass_more}
use Rattle.laws.proofs.Formed.{load_facts, image_onward}
use Rattle.plainmodel.specs.Load as plain-load
use Rattle.plainmodel.specs.Series as plain-series
use Rattle.demands.specs.Same.{Said, paged_call, plain_call, paged_tells, plain_tells, SameMachine, SameSeries}
use Rattle.demands.proofs.Same.{every_same}
use Rattle.text.specs.Reading.{bytes_of}
use Rattle.answerlines.specs.Lines.{word_line, hex_line, numbers_line}
use Rattle.talk.specs.Script.{lines_of, Spoken, Talk, behind, talk}
use Rattle.script.specs.Vocabulary.{run_word, read_word, write_word, view_word, reply_word, registers_word}
use Rattle.script.specs.declared.parts.Numbers.{Numbers}
use Rattle.script.specs.declared.Call.{Call}
use Rattle.script.specs.declared.Call.TheVariants.{Run, Read, Write, View, Reply, Registers}
use Rattle.session.specs.Answers.{answered}
use Rattle.session.specs.Series.{admits}
use Rattle.comparison.specs.Both.{Both, agreeing, agree}
use Rattle.plainsession.specs.Answers as plain
use Rattle.comparison.specs.Answers.{paged_answered}
use Rattle.comparison.specs.Desk.{Desk, going}
use Rattle.comparison.specs.Begun.{begun}
use Rattle.comparison.specs.Grammar.{asked_of}
use Rattle.comparison.specs.Line.{compared, both_after, spoken_by, spoken}
use Rattle.comparison.specs.Compare.{closed, begun_with, text_by, compare_text}
use Rattle.comparison.specs.Never.{taken, uncompared, NeverDiffers}
use Rattle.comparison.specs.declared.asked.Asked.{Asked}
use Rattle.std.specs.Prelude.{Result, Ok, Err}

same_self : (l : List ℕ) → same l l ≡ true
unfolding same
same_self [] = refl
same_self (x ∷ l) = and_both _ _ (eq-eqb x x refl) (same_self l)

same_of : {a b : List ℕ} → a ≡ b → same a b ≡ true
same_of {a} e = rw (← e) (same_self a)

-- ---- any series of steps finds the two machines the same
abbrev Alike : Both → Type 0
Alike b = (ss : List SeriesStep) → SameSeries b.paged b.plain ss

abbrev first : {A : Type 0} → A → List A → A
first d [] = d
first d (x ∷ xs) = x

abbrev others : {A : Type 0} → List A → List A
others [] = []
others (x ∷ xs) = xs

module _ {b : Both} (h : Alike b) where
  alike_now : SameMachine b.paged b.plain
  unfolding after_all plain-series.after_all
  alike_now = (h []).machine

  alike_says : (c : series.Call) → paged_call b.paged c ≡ plain_call b.plain c
  unfolding paged_tells plain_tells
  alike_says c = ap (first (paged_call b.paged c)) (h (calls c ∷ [])).answers

  alike_next : (c : series.Call) → Alike (record { paged = after b.paged c; plain = plain-series.after b.plain c })
  unfolding paged_tells plain_tells after_all plain-series.after_all after_step plain-series.after_step
  alike_next c ss = record { answers = ap others (h (calls c ∷ ss)).answers; machine = (h (calls c ∷ ss)).machine }

  alike_agrees : agree b ≡ true
  unfolding agreeing
  alike_agrees =
      let m = alike_now in
      pass_more _ _ (same_of m.gpr) (pass_more _ _ (eq-eqb _ _ (ap (λ p. p.dpc) m.pcs))
      (pass_more _ _ (eq-eqb _ _ (ap (λ p. p.next) m.pcs)) (pass_more _ _ (same_of m.bytes) pass_none)))

-- ---- a call, by its numbers and the bytes of its HEX
module _ (n : Numbers) (bytes : List ℕ) (b : Both) (h : Alike b) where
  -- what both machines leave
  alike_after : (c : Call) → Alike (both_after c n bytes b)
  unfolding paged_answered answered plain.answered after plain-series.after
  alike_after Run = alike_next h (runs n.first)
  alike_after Read = h
  alike_after Write = alike_next h (writes n.first bytes)
  alike_after View = h
  alike_after Reply = alike_next h (replies n.first n.second)
  alike_after Registers = h

  -- what both say, by what the call answers
  abbrev run_line : Said → List ℕ
  run_line s = or_refused (record { refused = s.refused }) (numbers_line run_word (s.stop ∷ s.detail ∷ s.finished ∷ []))

  abbrev word_of : List ℕ → Said → List ℕ
  word_of word s = or_refused (record { refused = s.refused }) (word_line word)

  abbrev bytes_of' : List ℕ → Said → List ℕ
  bytes_of' word s = or_refused (record { refused = s.refused }) (hex_line word s.bytes)

  alike_text : (c : Call) → (plain.answered c n bytes b.plain).text ≡ (paged_answered c n bytes b.paged).text
  unfolding paged_answered answered plain.answered paged_call plain_call
  alike_text Run = sym (ap run_line (alike_says h (runs n.first)))
  alike_text Read = sym (ap (bytes_of' (read_word ++ (32 ∷ []))) (alike_says h (reads n.first n.second)))
  alike_text Write = sym (ap (word_of write_word) (alike_says h (writes n.first bytes)))
  alike_text View = sym (ap (bytes_of' (view_word ++ (32 ∷ []))) (alike_says h (views (virtual n.first))))
  alike_text Reply = sym (ap (word_of reply_word) (alike_says h (replies n.first n.second)))
  alike_text Registers =
      let m = alike_now h in
      sym (ap₂ (λ (g : List ℕ) (p : Pcs). numbers_line registers_word (p.dpc ∷ p.next ∷ g)) m.gpr m.pcs)

  -- so nothing differs
  as_taken : (c : Call) (number : ℕ)
      → compared number (both_after c n bytes b) (plain.answered c n bytes b.plain).text (paged_answered c n bytes b.paged).text
      ≡ going number (both_after c n bytes b) (plain.answered c n bytes b.plain).text
  as_taken c number = rw (same_of (alike_text c), alike_agrees (alike_after c))

-- ---- a line
abbrev LineAlike : Spoken Desk → Type 0
LineAlike s = s.goes_on ≡ true → Alike s.desk.machines

line_same : (a : Result Asked ℕ) (number : ℕ) (l : List ℕ) (b : Both) → Alike b
    → (spoken_by compared a number l b ≡ spoken_by taken a number l b) × LineAlike (spoken_by taken a number l b)
unfolding spoken_by
line_same (Ok a) number l b h =
    let bytes = bytes_of (drop a.numbers.hex l) in (as_taken a.numbers bytes b h a.call number, λ _. alike_after a.numbers bytes b h a.call)
line_same (Err column) number l b h = (refl, λ e. absurd (true≢false (sym e)))

-- ---- the lines of a script
by_goes : (s t : Spoken Desk) → s ≡ t → LineAlike t → (x y : Desk → Talk Desk) → ((d : Desk) → Alike d.machines → x d ≡ y d)
    → (if s.goes_on then behind s.text (x s.desk) else record { text = s.text; desk = s.desk })
    ≡ (if t.goes_on then behind t.text (y t.desk) else record { text = t.text; desk = t.desk })
by_goes s t e a x y h = rw e (pick t.goes_on a)
  where
    pick : (g : Bool) → (g ≡ true → Alike t.desk.machines)
        → (if g then behind t.text (x t.desk) else record { text = t.text; desk = t.desk })
        ≡ (if g then behind t.text (y t.desk) else record { text = t.text; desk = t.desk })
    pick true k = ap (behind t.text) (h t.desk (k refl))
    pick false k = refl

talk_same : (ls : List (List ℕ)) (n : ℕ) (d : Desk) → Alike d.machines → talk spoken n d ls ≡ talk uncompared n d ls
unfolding talk spoken uncompared
talk_same [] n d h = refl
talk_same (l ∷ ls) n d h =
    let e = line_same (asked_of l) (suc n) l d.machines h in
    by_goes (spoken (suc n) l d) (uncompared (suc n) l d) e.0 e.1 (λ x. talk spoken (suc n) x ls) (λ x. talk uncompared (suc n) x ls)
    (λ x k. talk_same ls (suc n) x k)

-- ---- the beginning
-- what paged loading takes plain loading takes, where it is lent as many pages as the image has
plain_takes : (l : List ℕ) (m : Memory) → (load_call l m).verdict.refused ≡ 0 → (bytes rights : List ℕ) → length bytes ≡ 4096 * ptl_of l
    → length rights ≡ ptl_of l → (plain-load.load_call l bytes rights).verdict.refused ≡ 0
unfolding plain-load.load_call plain-load.load_verdict plain-load.room
plain_takes l m e bytes rights h k =
    let a = load_facts l m e in
    rw (image_onward l _ a.known a.formed, and_both _ _ (eq-eqb _ _ h) (eq-eqb _ _ k))

loaded_alike : (l : List ℕ) (m : Memory) (bytes rights : List ℕ) → length bytes ≡ 4096 * ptl_of l → length rights ≡ ptl_of l
    → LineAlike (begun l m bytes rights)
unfolding begun
loaded_alike l m bytes rights h k = by (eqb (load_call l m).verdict.refused 0) refl
  where
    by : (g : Bool) → eqb (load_call l m).verdict.refused 0 ≡ g → LineAlike (begun l m bytes rights)
    by true q = λ _. let e = eqb-true _ _ q in rw q (every_same.series l m bytes rights e (plain_takes l m e bytes rights h k))
    by false q = rw q (λ e. absurd (true≢false (sym e)))

pub never_differs : NeverDiffers
unfolding compare_text
never_differs file pages script = by (admits file pages)
  where
    s : Spoken Desk
    s = begun_with file pages

    by : (v : Verdict) → text_by spoken v file pages script ≡ text_by uncompared v file pages script
    by (Ok tt) =
        ap closed (by_goes s s refl
        (loaded_alike file _ _ _ (length-replicate {A = ℕ} (4096 * ptl_of file) 0) (length-replicate {A = ℕ} (ptl_of file) 0))
        (λ x. talk spoken 0 x (lines_of script)) (λ x. talk uncompared 0 x (lines_of script)) (talk_same (lines_of script) 0))
    by (Err r) = refl
