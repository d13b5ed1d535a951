-- The ways out of each exported call, over plain variables: a slice of another length than said, or plainmodel's own outcome.
use mathlib.Core.Path.{◌≡◌, sym, ap, ◌∙◌}
use mathlib.Core.List.{List}
use Prim.Native.Nat.{ℕ}
use lib.ListN.{length}
use borrow.Author.Tests.{eq-eqb, ne_eqb}
use Rattle.std.specs.Prelude.{Ok, Err}
use Rattle.model.specs.Answers.{refusal_number, verdict_numbers, Verdict}
use Rattle.model.specs.Calls.{reply_verdict}
use Rattle.model.specs.declared.Refusal.{Refusal}
use Rattle.model.specs.declared.Refusal.TheVariants.{Bound}
use Rattle.plainmodel.specs.State.{plain_state}
use Rattle.plainmodel.specs.Calls.{plain_numbers, RunOutcome, run_verdict, run_outcome, run_call, read_call, write_call, reply_call, with_register, PlainAnswer}
use Rattle.plainmodel.specs.Load.{load_call}
use Rattle.plainmodel.specs.declared.Plain.{Plain}
use Rattle.plainrecord.specs.Words.{record_length, plain_of, words_of}
use Rattle.plainrecord.proofs.Words.{words_plain}
use Rattle.plaincapi.specs.Calls as calls

-- ---- load
module _ (file memory rights words : List ℕ) where
  pub load_short : (length words ≡ record_length → ⊥)
      → record { returned = refusal_number Bound; words = words; memory = memory; rights = rights } ≡ calls.load file memory rights words
  unfolding calls.load
  load_short n = simp (ne_eqb _ _ n)

  pub load_whole : length words ≡ record_length → (m : Plain) (v : Verdict) (memory' rights' : List ℕ)
      → record { verdict = verdict_numbers v; state = plain_state m memory' rights' } ≡ load_call file memory rights
      → (r : ℕ) → r ≡ (verdict_numbers v).refused → (w : List ℕ) → w ≡ words_of m
      → record { returned = r; words = w; memory = memory'; rights = rights' } ≡ calls.load file memory rights words
  unfolding calls.load
  load_whole e m v memory' rights' o r er w ew = rw (er, ew) (ap calls.loaded o ∙ simp (eq-eqb _ _ e))

-- ---- run
module _ (words memory rights : List ℕ) (limit : ℕ) (answer : List ℕ) where
  pub run_short : (length words ≡ record_length → ⊥)
      → record { returned = refusal_number Bound; words = words; memory = memory; answer = answer } ≡ calls.run words memory rights limit answer
  unfolding calls.run
  run_short n = simp (ne_eqb _ _ n)

  module _ (e : length words ≡ record_length) where
    pub run_narrow : (length answer ≡ 3 → ⊥)
        → record { returned = refusal_number Bound; words = words; memory = memory; answer = answer } ≡ calls.run words memory rights limit answer
    unfolding calls.run
    run_narrow n = simp (eq-eqb _ _ e, ne_eqb _ _ n)

    module _ (f : length answer ≡ 3) (m : Plain) (em : m ≡ plain_of words) where
      -- where it is refused the words stay as they are
      pub run_not : (v : Verdict) → v ≡ run_verdict (plain_state m memory rights) limit → (r : Refusal) → v ≡ Err r
          → (n : ℕ) (w : List ℕ) → (n ≡ (plain_numbers (Err r)).verdict.refused) × (w ≡ calls.run_words (plain_numbers (Err r)))
          → record { returned = n; words = words; memory = memory; answer = w } ≡ calls.run words memory rights limit answer
      unfolding calls.run run_call
      run_not v ev r h n w ew =
          let q : run_verdict (plain_state (plain_of words) memory rights) limit ≡ Err r
          = ap (λ k. run_verdict (plain_state k memory rights) limit) (sym em) ∙ sym ev ∙ h in
          simp (ew.0, ew.1, eq-eqb _ _ e, eq-eqb _ _ f, q, words_plain words e)

      pub run_whole : calls.ran (run_call (plain_state m memory rights) limit) ≡ calls.run words memory rights limit answer
      unfolding calls.run
      run_whole = rw em (simp (eq-eqb _ _ e, eq-eqb _ _ f))

module _ (a : PlainAnswer) (m : Plain) (memory rights : List ℕ) (r : ℕ) (w answer : List ℕ)
    (er : (r ≡ (plain_numbers a).verdict.refused) × (answer ≡ calls.run_words (plain_numbers a))) (ew : w ≡ words_of m) where
  pub run_handed : (o : RunOutcome) → run_outcome a (plain_state m memory rights) ≡ o
      → record { returned = r; words = w; memory = memory; answer = answer } ≡ calls.ran o
  run_handed o e = rw (er.0, er.1, ew) (ap calls.ran e)

-- ---- read
module _ (words memory rights : List ℕ) (va : ℕ) (into : List ℕ) where
  pub read_short : (length words ≡ record_length → ⊥) → record { returned = refusal_number Bound; buffer = into } ≡ calls.read words memory rights va into
  unfolding calls.read
  read_short n = simp (ne_eqb _ _ n)

  pub read_whole : length words ≡ record_length → (m : Plain) → m ≡ plain_of words → (v : Verdict) (b : List ℕ)
      → record { verdict = verdict_numbers v; buffer = b } ≡ read_call (plain_state m memory rights) va into
      → (r : ℕ) → r ≡ (verdict_numbers v).refused → record { returned = r; buffer = b } ≡ calls.read words memory rights va into
  unfolding calls.read
  read_whole e m em v b o r er = rw er (ap calls.filled o ∙ rw em (simp (eq-eqb _ _ e)))

-- ---- write
module _ (words memory rights : List ℕ) (va : ℕ) (from : List ℕ) where
  pub write_short : (length words ≡ record_length → ⊥) → record { returned = refusal_number Bound; memory = memory } ≡ calls.write words memory rights va from
  unfolding calls.write
  write_short n = simp (ne_eqb _ _ n)

  pub write_whole : length words ≡ record_length → (m : Plain) → m ≡ plain_of words → (v : Verdict) (b : List ℕ)
      → record { verdict = verdict_numbers v; bytes = b } ≡ write_call (plain_state m memory rights) va from
      → (r : ℕ) → r ≡ (verdict_numbers v).refused → record { returned = r; memory = b } ≡ calls.write words memory rights va from
  unfolding calls.write
  write_whole e m em v b o r er = rw er (ap calls.written o ∙ rw em (simp (eq-eqb _ _ e)))

-- ---- reply
module _ (words : List ℕ) (i v : ℕ) where
  pub reply_short : (length words ≡ record_length → ⊥) → record { returned = refusal_number Bound; words = words } ≡ calls.reply words i v
  unfolding calls.reply
  reply_short n = simp (ne_eqb _ _ n)

  module _ (e : length words ≡ record_length) (u : Verdict) (eu : u ≡ reply_verdict i) where
    -- the code sets register k
    pub reply_set : u ≡ Ok tt → (k : ℕ) → k ≡ i → (w : List ℕ) → w ≡ words_of (with_register (plain_of words) k v)
        → record { returned = 0; words = w } ≡ calls.reply words i v
    unfolding calls.reply reply_call
    reply_set h k is w ew = simp (eq-eqb _ _ e, ← eu, h, ew, is)

    pub reply_not : (r : Refusal) → u ≡ Err r → (n : ℕ) → n ≡ refusal_number r → record { returned = n; words = words } ≡ calls.reply words i v
    unfolding calls.reply reply_call
    reply_not r h n en = simp (eq-eqb _ _ e, ← eu, h, en, words_plain words e)
