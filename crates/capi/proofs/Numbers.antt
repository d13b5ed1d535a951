-- The words of an answer, by its case.
use mathlib.Core.Path.{◌≡◌}
use mathlib.Core.List.{List, [], ◌∷◌}
use Prim.Native.Nat.{ℕ}
use Rattle.std.specs.Prelude.{Err, Ok}
use Rattle.model.specs.Answers.{stop_number, stop_detail, refusal_number, run_numbers, RunAnswer}
use Rattle.model.specs.declared.Ran.{Ran}
use Rattle.model.specs.declared.Refusal.{Refusal}
use Rattle.notation.specs.Calls.{assemble_numbers, list_numbers}
use Rattle.notation.specs.Answers.{AssembleAnswer, ListAnswer}
use Rattle.notation.specs.declared.NotAssembled.{NotAssembled}
use Rattle.capi.specs.Calls.{run_words, assemble_sizes, list_sizes}

pub ran : (a : RunAnswer) (r : Ran) → a ≡ Ok r → (n : ℕ) → n ≡ stop_number r.stop → (d : ℕ) → d ≡ stop_detail r.stop
    → (w : List ℕ) → w ≡ n ∷ d ∷ r.finished ∷ r.loads ∷ r.copied ∷ [] → (0 ≡ (run_numbers a).verdict.refused) × (w ≡ run_words (run_numbers a))
ran a r e n en d ed w ew = (simp e, simp (e, ew, en, ed))

pub not_run : (a : RunAnswer) (r : Refusal) → a ≡ Err r → (n : ℕ) → n ≡ refusal_number r
    → (w : List ℕ) → w ≡ 0 ∷ 0 ∷ 0 ∷ 0 ∷ 0 ∷ [] → (n ≡ (run_numbers a).verdict.refused) × (w ≡ run_words (run_numbers a))
not_run a r e n en w ew = (simp (e, en), simp (e, ew))

pub assembled : (a : AssembleAnswer) (n : ℕ) → a ≡ Ok n → (w : List ℕ) → w ≡ n ∷ 0 ∷ 0 ∷ []
    → (0 ≡ (assemble_numbers a).verdict.refused) × (w ≡ assemble_sizes (assemble_numbers a))
assembled a n e w ew = (simp e, simp (e, ew))

pub not_assembled : (a : AssembleAnswer) (b : NotAssembled) → a ≡ Err b → (n : ℕ) → n ≡ refusal_number b.refusal
    → (w : List ℕ) → w ≡ 0 ∷ b.line ∷ b.column ∷ [] → (n ≡ (assemble_numbers a).verdict.refused) × (w ≡ assemble_sizes (assemble_numbers a))
not_assembled a b e n en w ew = (simp (e, en), simp (e, ew))

pub listed : (a : ListAnswer) (n : ℕ) → a ≡ Ok n → (w : List ℕ) → w ≡ n ∷ []
    → (0 ≡ (list_numbers a).verdict.refused) × (w ≡ list_sizes (list_numbers a))
listed a n e w ew = (simp e, simp (e, ew))

pub not_listed : (a : ListAnswer) (r : Refusal) → a ≡ Err r → (n : ℕ) → n ≡ refusal_number r → (w : List ℕ) → w ≡ 0 ∷ []
    → (n ≡ (list_numbers a).verdict.refused) × (w ≡ list_sizes (list_numbers a))
not_listed a r e n en w ew = (simp (e, en), simp (e, ew))
