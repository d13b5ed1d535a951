-- The ways out of each exported call, over plain variables: a slice of another length than said, or the model's own outcome.
use mathlib.Core.Path.{◌≡◌, sym, ap, ◌∙◌}
use mathlib.Core.List.{List}
use Prim.Native.Nat.{ℕ}
use lib.ListN.{length}
use borrow.Author.Tests.{eq-eqb, ne_eqb}
use Rattle.std.specs.Prelude.{Ok, Err}
use Rattle.model.specs.State.{memory, state}
use Rattle.model.specs.Answers.{refusal_number, verdict_numbers, run_numbers, Verdict, RunAnswer}
use Rattle.model.specs.Calls.{StateOutcome, RunOutcome, run_verdict, run_outcome, run_call, read_call, write_call, reply_verdict, reply_call}
use Rattle.model.specs.Image.{load_call}
use Rattle.model.specs.declared.Machine.{Machine}
use Rattle.model.specs.declared.Refusal.{Refusal}
use Rattle.model.specs.declared.Refusal.TheVariants.{Bound}
use Rattle.record.specs.Words.{record_length, machine_of, words_of, with_register}
use Rattle.notation.specs.Calls.{assemble_numbers, assemble_outcome, assemble_call, list_numbers, list_outcome, list_call}
use Rattle.notation.specs.Answers.{AssembleAnswer, ListAnswer}
use Rattle.capi.specs.Calls as calls
use Rattle.capi.proofs.Refused.{run_refused, reply_refused}

-- what the model's outcome leaves of the record and both memories
module _ (m : Machine) (v : Verdict) (main swap : List ℕ) (r : ℕ) (er : r ≡ (verdict_numbers v).refused) (w : List ℕ) (ew : w ≡ words_of m) where
  pub handed : (o : StateOutcome) → record { verdict = verdict_numbers v; state = state m main swap } ≡ o
      → record { returned = r; words = w; main = main; swap = swap } ≡ calls.machined o
  handed o e = rw (er, ew) (ap calls.machined e)

-- ---- load
module _ (file main swap words : List ℕ) where
  pub load_short : (length words ≡ record_length → ⊥) → record { returned = refusal_number Bound; words = words; main = main; swap = swap } ≡ calls.load file main swap words
  unfolding calls.load
  load_short n = simp (ne_eqb _ _ n)

  pub load_whole : length words ≡ record_length → calls.machined (load_call file (memory main swap)) ≡ calls.load file main swap words
  unfolding calls.load
  load_whole e = simp (eq-eqb _ _ e)

-- ---- run
module _ (words main swap : List ℕ) (limit : ℕ) (answer : List ℕ) where
  pub run_short : (length words ≡ record_length → ⊥)
      → record { returned = refusal_number Bound; words = words; main = main; swap = swap; answer = answer } ≡ calls.run words main swap limit answer
  unfolding calls.run
  run_short n = simp (ne_eqb _ _ n)

  module _ (e : length words ≡ record_length) where
    pub run_narrow : (length answer ≡ 5 → ⊥)
        → record { returned = refusal_number Bound; words = words; main = main; swap = swap; answer = answer } ≡ calls.run words main swap limit answer
    unfolding calls.run
    run_narrow n = simp (eq-eqb _ _ e, ne_eqb _ _ n)

    pub run_not : length answer ≡ 5 → (m : Machine) → m ≡ machine_of words → (v : Verdict) → v ≡ run_verdict (state m main swap) limit
        → (r : Refusal) → v ≡ Err r → (n : ℕ) (w : List ℕ) → (n ≡ (run_numbers (Err r)).verdict.refused) × (w ≡ calls.run_words (run_numbers (Err r)))
        → record { returned = n; words = words; main = main; swap = swap; answer = w } ≡ calls.run words main swap limit answer
    run_not f m em v ev r h n w ew =
        rw (ew.0, ew.1) (sym (run_refused words e r main swap limit answer f (ap (λ k. run_verdict (state k main swap) limit) (sym em) ∙ sym ev ∙ h)))

    pub run_whole : length answer ≡ 5 → (m : Machine) → m ≡ machine_of words
        → calls.ran (run_call (state m main swap) limit) ≡ calls.run words main swap limit answer
    unfolding calls.run
    run_whole f m em = rw em (simp (eq-eqb _ _ e, eq-eqb _ _ f))

module _ (a : RunAnswer) (m : Machine) (main swap : List ℕ) (r : ℕ) (w answer : List ℕ)
    (er : (r ≡ (run_numbers a).verdict.refused) × (answer ≡ calls.run_words (run_numbers a))) (ew : w ≡ words_of m) where
  pub run_handed : (o : RunOutcome) → run_outcome a (state m main swap) ≡ o
      → record { returned = r; words = w; main = main; swap = swap; answer = answer } ≡ calls.ran o
  run_handed o e = rw (er.0, er.1, ew) (ap calls.ran e)

-- ---- read
module _ (words main swap : List ℕ) (va : ℕ) (into : List ℕ) where
  pub read_short : (length words ≡ record_length → ⊥) → record { returned = refusal_number Bound; buffer = into } ≡ calls.read words main swap va into
  unfolding calls.read
  read_short n = simp (ne_eqb _ _ n)

  pub read_whole : length words ≡ record_length → (m : Machine) → m ≡ machine_of words → (v : Verdict) (b : List ℕ)
      → record { verdict = verdict_numbers v; buffer = b } ≡ read_call (state m main swap) va into
      → (r : ℕ) → r ≡ (verdict_numbers v).refused → record { returned = r; buffer = b } ≡ calls.read words main swap va into
  unfolding calls.read
  read_whole e m em v b o r er = rw er (ap calls.filled o ∙ rw em (simp (eq-eqb _ _ e)))

-- ---- write
module _ (words main swap : List ℕ) (va : ℕ) (bytes : List ℕ) where
  pub write_short : (length words ≡ record_length → ⊥) → record { returned = refusal_number Bound; words = words; main = main; swap = swap } ≡ calls.write words main swap va bytes
  unfolding calls.write
  write_short n = simp (ne_eqb _ _ n)

  pub write_whole : length words ≡ record_length → (m : Machine) → m ≡ machine_of words
      → calls.machined (write_call (state m main swap) va bytes) ≡ calls.write words main swap va bytes
  unfolding calls.write
  write_whole e m em = rw em (simp (eq-eqb _ _ e))

-- ---- reply
module _ (words : List ℕ) (i v : ℕ) where
  pub reply_short : (length words ≡ record_length → ⊥) → record { returned = refusal_number Bound; words = words } ≡ calls.reply words i v
  unfolding calls.reply
  reply_short n = simp (ne_eqb _ _ n)

  module _ (e : length words ≡ record_length) (u : Verdict) (eu : u ≡ reply_verdict i) where
    -- the code sets register k
    pub reply_set : u ≡ Ok tt → (k : ℕ) → k ≡ i → (w : List ℕ) → w ≡ words_of (with_register (machine_of words) k v)
        → record { returned = 0; words = w } ≡ calls.reply words i v
    unfolding calls.reply reply_call
    reply_set h k is w ew = simp (eq-eqb _ _ e, ← eu, h, ew, is)

    pub reply_not : (r : Refusal) → u ≡ Err r → (n : ℕ) → n ≡ refusal_number r → record { returned = n; words = words } ≡ calls.reply words i v
    reply_not r h n en = rw en (sym (reply_refused words e r i v (sym eu ∙ h)))

-- ---- assemble and list
module _ (given out answer : List ℕ) where
  pub assemble_short : (length answer ≡ 3 → ⊥)
      → record { returned = refusal_number Bound; out = out; answer = answer } ≡ calls.assemble given out answer
  unfolding calls.assemble
  assemble_short n = simp (ne_eqb _ _ n)

  pub assemble_whole : length answer ≡ 3 → (a : AssembleAnswer) (after : List ℕ) → assemble_outcome a after ≡ assemble_call given out
      → (r : ℕ) (w : List ℕ) → (r ≡ (assemble_numbers a).verdict.refused) × (w ≡ calls.assemble_sizes (assemble_numbers a))
      → record { returned = r; out = after; answer = w } ≡ calls.assemble given out answer
  unfolding calls.assemble
  assemble_whole e a after ea r w ew = rw (ew.0, ew.1) (ap calls.assembled ea ∙ simp (eq-eqb _ _ e))

  pub list_short : (length answer ≡ 1 → ⊥) → record { returned = refusal_number Bound; out = out; answer = answer } ≡ calls.list given out answer
  unfolding calls.list
  list_short n = simp (ne_eqb _ _ n)

  pub list_whole : length answer ≡ 1 → (a : ListAnswer) (after : List ℕ) → list_outcome a after ≡ list_call given out
      → (r : ℕ) (w : List ℕ) → (r ≡ (list_numbers a).verdict.refused) × (w ≡ calls.list_sizes (list_numbers a))
      → record { returned = r; out = after; answer = w } ≡ calls.list given out answer
  unfolding calls.list
  list_whole e a after ea r w ew = rw (ew.0, ew.1) (ap calls.listed ea ∙ simp (eq-eqb _ _ e))
