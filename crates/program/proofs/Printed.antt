-- What the program prints and leaves in the lent memories, at each way out of it; and that what it prints does not depend on what stood
-- in them.
use mathlib.Core.Path.{◌≡◌, sym, ap, ap₂, ◌∙◌}
use mathlib.Core.Bool.{Bool}
use mathlib.Core.List.{List}
use Prim.Native.Nat.{ℕ, ◌*◌, ◌≤◌, ◌<◌}
use borrow.Author.Tests.{le-leb, lt-leb}
use lib.Dec.{leb}
use lib.ListN.{length, replicate, length-replicate}
use lib.Seq.{length-take-le}
use Rattle.std.specs.Prelude.{Ok, Err}
use Rattle.model.specs.State.{Memory, State, memory}
use Rattle.model.specs.Answers.{refusal_number, verdict_numbers, stop_number, stop_detail, image_numbers, Verdict, RunAnswer}
use Rattle.model.specs.Calls.{unless, RunOutcome, run_outcome, run_call, StateOutcome}
use Rattle.model.specs.Image.{ptl_of, frames_of, room, image_verdict, image_call, load_verdict, load_by, load_call, fresh}
use Rattle.model.specs.Console.{refused_line, four_lines, run_lines, loaded_lines, image_lines, console_verdict, console_text, loaded_memory, lent_pages, with_others, image_memory, console_memory}
use Rattle.model.specs.declared.Refusal.{Refusal}
use Rattle.model.specs.declared.Refusal.TheVariants.{Room}
use Rattle.model.specs.declared.Ran.{Ran}
use Rattle.model.specs.declared.Written.{Written}
use Rattle.text.specs.Text.{numbers_of}
use Rattle.laws.proofs.Granted.{some_number}
use Rattle.laws.proofs.Formed.{image_onward}
use Rattle.image.proofs.Accepted.{read_image, read_refused}

-- what loading hands back
abbrev load_outcome : Verdict → State → StateOutcome
load_outcome v p = record { verdict = verdict_numbers v; state = p }

-- ---- a run, by what it answers
module _ (a : RunAnswer) (p : State) (o : RunOutcome) (answers : run_outcome a p ≡ o) where
  pub run_refused : (r : Refusal) → a ≡ Err r → refused_line (refusal_number r) ≡ run_lines o
  run_refused r e = rw (← answers, e, some_number r)

  pub run_printed : (j k : ℕ) (r : Ran) → j ≡ stop_number r.stop → k ≡ stop_detail r.stop → a ≡ Ok r
      → four_lines (numbers_of j k r.finished r.loads) p.machine.pcs.dpc ≡ run_lines o
  run_printed j k r h i e = rw (← answers, e, h, i)

pub run_left : {o o' : RunOutcome} → o ≡ o' → o.state.memory ≡ o'.state.memory
run_left e = ap (λ o. o.state.memory) e

-- ---- loading, by what it answers
load_number : (r : Refusal) (p : State) → loaded_lines (load_outcome (Err r) p) ≡ refused_line (refusal_number r)
load_number r p = rw (some_number r)

module _ (v : Verdict) (p : State) (o : StateOutcome) (answers : load_outcome v p ≡ o) where
  module _ (r : Refusal) (e : v ≡ Err r) where
    pub load_refused : refused_line (refusal_number r) ≡ loaded_lines o
    load_refused = rw (← answers, e) (sym (load_number r p))

    pub refused_left : p.memory ≡ loaded_memory o
    refused_left = rw (← answers, e, some_number r)

  module _ (e : v ≡ Ok tt) where
    pub load_granted : run_lines (run_call p 1000) ≡ loaded_lines o
    load_granted = rw (← answers, e)

    pub granted_left : (run_call p 1000).state.memory ≡ loaded_memory o
    granted_left = rw (← answers, e)

-- ---- "what stood in the lent bytes before does not matter"
lent_by : (v : Verdict) (l : List ℕ) (m m' : Memory) → length m.main ≡ length m'.main → loaded_lines (load_by v l m) ≡ loaded_lines (load_by v l m')
lent_by (Ok tt) l m m' h = ap (λ (n : ℕ). run_lines (run_call (fresh l n) 1000)) h
lent_by (Err r) l m m' h = load_number r _ ∙ sym (load_number r _)

lent_same : (l : List ℕ) (m m' : Memory) → length m.main ≡ length m'.main → length m.swap ≡ length m'.swap
    → loaded_lines (load_call l m) ≡ loaded_lines (load_call l m')
unfolding load_call load_verdict
lent_same l m m' h k =
    ap₂ (λ (a b : ℕ). loaded_lines (load_by (image_verdict l (unless (room (frames_of l) (ptl_of l) a b) Room (Ok tt))) l m)) h k
    ∙ lent_by (image_verdict l (unless (room (frames_of l) (ptl_of l) (length m'.main) (length m'.swap)) Room (Ok tt))) l m m' h

-- ---- the verdict of the program, at each way out of it
module _ (l : List ℕ) where
  pub too_long : 17436 < length l → console_verdict l ≡ Err Room
  unfolding console_verdict
  too_long h = simp lt-leb

  module _ (short : length l ≤ 17436) where
    read : console_verdict l ≡ image_verdict l (unless (leb (ptl_of l) 4) Room (Ok tt))
    unfolding console_verdict
    read = simp le-leb

    pub not_image : (r : Refusal) → image_numbers (Err r) ≡ (image_call l).numbers → console_verdict l ≡ Err r
    not_image r e = read ∙ read_refused l r e _

    module _ (w : Written) (numbers : image_numbers (Ok w) ≡ (image_call l).numbers) where
      pub is_ptl : w.ptl ≡ ptl_of l
      is_ptl = (read_image l w.ptl w.start w.frames numbers).is_ptl

      by_pages : console_verdict l ≡ unless (leb w.ptl 4) Room (Ok tt)
      by_pages =
          let a = read_image l w.ptl w.start w.frames numbers in
          read ∙ image_onward l _ a.known a.formed ∙ ap (λ (n : ℕ). unless (leb n 4) Room (Ok tt)) (sym a.is_ptl)

      pub many_pages : 4 < w.ptl → console_verdict l ≡ Err Room
      many_pages h = by_pages ∙ ap (λ (b : Bool). unless b Room (Ok tt)) (lt-leb w.ptl 4 h)

      pub few_pages : w.ptl ≤ 4 → console_verdict l ≡ Ok tt
      few_pages h = by_pages ∙ ap (λ (b : Bool). unless b Room (Ok tt)) (le-leb w.ptl 4 h)

-- ---- what the program writes and leaves, by its verdict
module _ (l : List ℕ) where
  pub refused_text : (r : Refusal) → console_verdict l ≡ Err r → refused_line (refusal_number r) ≡ console_text l
  unfolding console_text
  refused_text r e = ap (λ v. image_lines v l) (sym e)

  pub refused_memory : (r : Refusal) → console_verdict l ≡ Err r → (m : Memory) → m ≡ console_memory l m
  unfolding console_memory
  refused_memory r e m = ap (λ v. image_memory v l m) (sym e)

  module _ (e : console_verdict l ≡ Ok tt) (ptl : ℕ) (is : ptl ≡ ptl_of l) (m : Memory) where
    pub granted_text : length m.main ≡ 20480 → 4096 * ptl ≤ length m.swap → loaded_lines (load_call l (lent_pages ptl m)) ≡ console_text l
    unfolding console_text
    granted_text hm hs =
        lent_same l (lent_pages ptl m) (memory (replicate 20480 0) (replicate (4096 * ptl_of l) 0))
        (hm ∙ sym (length-replicate {A = ℕ} 20480 0))
        (length-take-le (4096 * ptl) m.swap hs ∙ ap (λ n. 4096 * n) is ∙ sym (length-replicate {A = ℕ} (4096 * ptl_of l) 0))
        ∙ ap (λ v. image_lines v l) (sym e)

    pub granted_memory : with_others ptl (loaded_memory (load_call l (lent_pages ptl m))) m ≡ console_memory l m
    unfolding console_memory
    granted_memory = ap (λ n. with_others n (loaded_memory (load_call l (lent_pages n m))) m) is ∙ ap (λ v. image_memory v l m) (sym e)

-- ---- an input that is too long
module _ (l : List ℕ) where
  pub long_text : 17436 < length l → console_text l ≡ refused_line (refusal_number Room)
  long_text h = sym (refused_text l Room (too_long l h))

  pub long_memory : (m : Memory) → 17436 < length l → console_memory l m ≡ m
  long_memory m h = sym (refused_memory l Room (too_long l h) m)
