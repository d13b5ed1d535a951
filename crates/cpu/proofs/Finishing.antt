-- Which outcomes finish their instruction: by the variants that they are not, by the way that the attempt went, and none whose fetch goes to no place.
use mathlib.Core.Path.{◌≡◌, refl, sym, ap, subst}
use mathlib.Core.Bool.{Bool, false}
use mathlib.Core.List.{List}
use Prim.Native.Nat.{ℕ}
use Rattle.model.specs.Attempt.{attempt}
use Rattle.model.specs.declared.Pcs.{Pcs}
use Rattle.model.specs.declared.Access.{Access}
use Rattle.model.specs.declared.Stop.{Stop}
use Rattle.model.specs.declared.Outcome.{Outcome}
use Rattle.model.specs.declared.Outcome.TheVariants.{Done, Wrote, Trapped, Missing, Stopped}
use Rattle.laws.proofs.Agree.{Finishes, done, wrote}
use Rattle.cpu.specs.Finished.{Finished}
use Rattle.cpu.specs.declared.access.Reached.{Reached}
use Rattle.cpu.specs.declared.access.Reached.TheVariants.{Misaligned, Illegal, Fault, At}
use Rattle.cpu.specs.Reach.{reach, loaded}
use Rattle.cpu.proofs.Ways.{attempt_ended}

-- ---- by the variants that it is not
pub unfinished_not : (o : Outcome) → ((q : Pcs) → o ≡ Done q → ⊥) → ((q : Pcs) (i : ℕ) → o ≡ Wrote q i → ⊥) → ¬ Finished o
unfinished_not (Done q) d w = λ f. d q refl
unfinished_not (Wrote q i) d w = λ f. w q i refl
unfinished_not (Trapped q n) d w = λ f. f
unfinished_not (Missing va) d w = λ f. f
unfinished_not (Stopped s) d w = λ f. f

pub finished_not : (o : Outcome) → ((q : Pcs) (n : ℕ) → o ≡ Trapped q n → ⊥) → ((va : ℕ) → o ≡ Missing va → ⊥)
    → ((s : Stop) → o ≡ Stopped s → ⊥) → Finished o
finished_not (Done q) t m s = tt
finished_not (Wrote q i) t m s = tt
finished_not (Trapped q n) t m s = absurd (t q n refl)
finished_not (Missing va) t m s = absurd (m va refl)
finished_not (Stopped k) t m s = absurd (s k refl)

-- ---- by the way
pub finishes_finished : {o : Outcome} → Finishes o → Finished o
finishes_finished done = tt
finishes_finished wrote = tt

-- ---- an attempt whose fetch goes to no place does not
pub no_fetch : (access : Bool → ℕ → Access) (gpr bytes : List ℕ) (p : Pcs)
    → ((i : ℕ) → reach 4 p.dpc (access false p.dpc) ≡ At i → ⊥) → ¬ Finished (attempt access gpr bytes p).outcome
unfolding loaded
no_fetch access gpr bytes p none f =
    pick (reach 4 p.dpc (access false p.dpc)) none
    (subst Finished (ap (λ z. z.outcome) (sym (attempt_ended access gpr bytes p _ refl none _ refl))) f)
  where
    pick : (r : Reached) → ((i : ℕ) → r ≡ At i → ⊥) → ¬ Finished (loaded p p.dpc r)
    pick Misaligned n = λ f. f
    pick Illegal n = λ f. f
    pick Fault n = λ f. f
    pick (At i) n = absurd (n i refl)
