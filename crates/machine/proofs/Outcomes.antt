-- The outcome of each call, by its verdict.
use mathlib.Core.Path.{◌≡◌, refl, ap, ◌∙◌}
use mathlib.Core.Bool.{true, false}
use mathlib.Core.List.{List}
use Prim.Native.Nat.{ℕ}
use lib.ListN.{length, set}
use denote.Ref.{Bor}
use Rattle.std.specs.Prelude.{Ok, Err}
use Rattle.model.specs.State.{State, Memory, memory, state}
use Rattle.model.specs.Answers.{verdict_numbers, Verdict}
use Rattle.model.specs.Run.{Course, Counted, run, instruction, uncounted}
use Rattle.model.specs.Calls.{run_verdict, run_outcome, reported, run_call, host_verdict, bytes_from, read_call, bytes_to, marks_for, write_call, view_verdict, view_by, view_call, reply_verdict, reply_call}
use Rattle.model.specs.Parts.{PartOf, no_part, page_home, page_part}
use Rattle.model.specs.Promises.{PageViewPromise}
use Rattle.model.specs.declared.Machine.{Machine}
use Rattle.model.specs.declared.VirtualPage.{VirtualPage}
use Rattle.model.specs.declared.Refusal.{Refusal}
use Rattle.laws.specs.Demand2.{with_marks}

-- ---- run
module _ (p : State) (n : ℕ) (v : Verdict) (e : v ≡ run_verdict p n) where
  pub run_refused : (r : Refusal) → v ≡ Err r → run_outcome (Err r) p ≡ run_call p n
  unfolding run_call
  run_refused r h = simp (← e, h)

  pub run_done : v ≡ Ok tt → reported (run instruction n (uncounted p)) ≡ run_call p n
  unfolding run_call
  run_done h = simp (← e, h)

-- the course c of n instructions, which are as many as were asked for
pub ran : (p : State) (limit n : ℕ) (c : Course Counted) → c ≡ run instruction n (uncounted p) → n ≡ limit
    → reported c ≡ reported (run instruction limit (uncounted p))
ran p limit n c is all = ap reported (is ∙ ap (λ k. run instruction k (uncounted p)) all)

-- ---- host read
module _ (p : State) (va : ℕ) (buffer : List ℕ) (v : Verdict) (e : v ≡ host_verdict false p va (length buffer)) where
  pub read_refused : (r : Refusal) → v ≡ Err r
      → record { verdict = verdict_numbers (Err r); buffer = buffer } ≡ read_call p va buffer
  unfolding read_call
  read_refused r h = simp (← e, h)

  pub read_done : v ≡ Ok tt → (b : List ℕ) → b ≡ bytes_from p.machine.shape p.memory va (length buffer)
      → record { verdict = verdict_numbers (Ok tt); buffer = b } ≡ read_call p va buffer
  unfolding read_call
  read_done h b q = simp (← e, h, q)

-- ---- host write
module _ (p : State) (va : ℕ) (bytes : List ℕ) (v : Verdict) (e : v ≡ host_verdict true p va (length bytes)) where
  pub write_refused : (r : Refusal) → v ≡ Err r
      → record { verdict = verdict_numbers (Err r); state = p } ≡ write_call p va bytes
  unfolding write_call
  write_refused r h = simp (← e, h)

  pub write_done : v ≡ Ok tt → (marks : ℕ) → marks ≡ marks_for p.machine.shape p.memory.main va (length bytes) p.machine.book.marks
      → (m : Memory) → m ≡ bytes_to p.machine.shape p.memory va bytes
      → record { verdict = verdict_numbers (Ok tt); state = record { machine = with_marks p.machine marks; memory = m } } ≡ write_call p va bytes
  unfolding write_call
  write_done h marks k m q = simp (← e, h, k, q)

-- ---- page view
module _ (p : State) (x : VirtualPage) (v : Verdict) (e : v ≡ view_verdict p x) where
  pub view_number : verdict_numbers v ≡ (view_call p x).verdict
  unfolding view_call
  view_number = simp (← e) (number v)
    where
      number : (w : Verdict) → verdict_numbers w ≡ (view_by w p x).verdict
      number (Ok tt) = refl
      number (Err r) = refl

-- the part that is handed back
module _ (m : Machine) (main swap : Bor (List ℕ)) (x : VirtualPage) (v : Verdict) (e : v ≡ view_verdict (state m main.now swap.now) x) where
  pub view_refused : (r : Refusal) → v ≡ Err r → (b : Bor (List ℕ)) → PartOf main no_part b → PageViewPromise m main swap x b
  unfolding view_call
  view_refused r h b q = rw (← e, h) q

  pub view_done : v ≡ Ok tt → (b : Bor (List ℕ))
      → PartOf (page_home m.shape main swap x) (page_part m.shape (memory main.now swap.now) x) b → PageViewPromise m main swap x b
  unfolding view_call
  view_done h b q = rw (← e, h) q

-- ---- reply
module _ (m : Machine) (i x : ℕ) (v : Verdict) (e : v ≡ reply_verdict i) where
  pub reply_refused : (r : Refusal) → v ≡ Err r
      → record { verdict = verdict_numbers (Err r); machine = m } ≡ reply_call m i x
  unfolding reply_call
  reply_refused r h = simp (← e, h)

  -- the code sets register k
  pub reply_done : v ≡ Ok tt → (k : ℕ) → k ≡ i
      → record { verdict = verdict_numbers (Ok tt); machine = record { shape = m.shape; book = m.book; gpr = set m.gpr k x; pcs = m.pcs } } ≡ reply_call m i x
  unfolding reply_call
  reply_done h k is = simp (← e, h, is)
