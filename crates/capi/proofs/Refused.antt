-- "A refusal returns its number, zero for every other number, .. the record as handed in (from loading, a record of zeros), and no
-- lent byte differs": of the exported calls, in words.
use mathlib.Core.Path.{◌≡◌}
use mathlib.Core.Bool.{true}
use mathlib.Core.List.{List, [], ◌∷◌}
use Prim.Native.Nat.{ℕ}
use lib.ListN.{length, replicate}
use borrow.Author.Tests.{eq-eqb}
use Rattle.std.specs.Prelude.{Err}
use Rattle.model.specs.State.{memory}
use Rattle.model.specs.Answers.{refusal_number}
use Rattle.model.specs.Calls.{run_verdict, run_call, host_verdict, write_call, reply_verdict, reply_call}
use Rattle.model.specs.Image.{load_verdict, load_call}
use Rattle.model.specs.declared.Refusal.{Refusal}
use Rattle.record.specs.Words.{record_length, words_of}
use Rattle.record.proofs.Words.{words_machine}
use Rattle.capi.specs.Calls.{lent, load, run, write, reply}

module _ (words : List ℕ) (e : length words ≡ record_length) (r : Refusal) where
  pub reply_refused : (register value : ℕ) → reply_verdict register ≡ Err r
      → reply words register value ≡ record { returned = refusal_number r; words = words }
  unfolding reply reply_call
  reply_refused register value h = simp (eq-eqb _ _ e, h, words_machine words e)

  module _ (main swap : List ℕ) where
    pub load_refused : (file : List ℕ) → load_verdict file (memory main swap) ≡ Err r
        → load file main swap words ≡ record { returned = refusal_number r; words = replicate record_length 0; main = main; swap = swap }
    unfolding load load_call words_of
    load_refused file h = simp (eq-eqb _ _ e, h)

    pub run_refused : (limit : ℕ) (answer : List ℕ) → length answer ≡ 5 → run_verdict (lent words main swap) limit ≡ Err r
        → run words main swap limit answer
        ≡ record { returned = refusal_number r; words = words; main = main; swap = swap; answer = 0 ∷ 0 ∷ 0 ∷ 0 ∷ 0 ∷ [] }
    unfolding run run_call
    run_refused limit answer f h = simp (eq-eqb _ _ e, eq-eqb _ _ f, h, words_machine words e)

    pub write_refused : (va : ℕ) (bytes : List ℕ) → host_verdict true (lent words main swap) va (length bytes) ≡ Err r
        → write words main swap va bytes ≡ record { returned = refusal_number r; words = words; main = main; swap = swap }
    unfolding write write_call
    write_refused va bytes h = simp (eq-eqb _ _ e, h, words_machine words e)
