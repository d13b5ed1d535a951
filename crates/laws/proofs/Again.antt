-- "Stops 2 to 4 leave registers as before that instruction .. Run again at once with a limit above 0, they come again", of the flat
-- machine: a run that stops so leaves what its finished instructions leave (`run_halts`), and there the stop comes again (`run_again`).
use mathlib.Core.Path.{◌≡◌, refl, ap, ◌∙◌}
use mathlib.Core.List.{List}
use Prim.Native.Nat.{ℕ, zero, suc, ◌+◌, ◌<◌, ◌≤◌}
use native.Mathlib.Omega.{arith}
use native.Mathlib.Numerals.{one-add}
use native.Mathlib.Nat.{not-suc-le-zero}
use Rattle.model.specs.Answers.{stop_number}
use Rattle.model.specs.Attempt.{tried}
use Rattle.model.specs.Run.{goes, stops, Course, answered, ended, more, follow, run}
use Rattle.model.specs.Flat.{Flat, flat_try, flat_put, flat_instruction}
use Rattle.model.specs.declared.Outcome.{Outcome}
use Rattle.model.specs.declared.Outcome.TheVariants.{Done, Wrote, Trapped, Missing, Stopped}
use Rattle.model.specs.declared.Stop.{Stop}
use Rattle.model.specs.declared.Stop.TheVariants.{Limit, Trap, IllegalMemory}
use Rattle.laws.proofs.Choice.{clash}
use Rattle.laws.proofs.Simulate.{run_all}

-- an instruction that stops so has finished nothing and changed nothing
flat_halts : (f : Flat) (s : Stop) (k : ℕ) (left : Flat) → flat_instruction f ≡ stops s k left → 2 ≤ stop_number s → (k ≡ 0) × (left ≡ f)
unfolding flat_instruction
flat_halts f s k left e h = by (flat_try f).outcome (flat_try f).gpr (flat_try f).bytes e
  where
    by : (o : Outcome) (gpr bytes : List ℕ) → answered f (flat_put f) (λ i g. g) (λ va. stops (IllegalMemory va) 0 f) (tried o gpr bytes) ≡ stops s k left
        → (k ≡ 0) × (left ≡ f)
    by (Done pcs) gpr bytes q = clash (cc)
    by (Wrote pcs i) gpr bytes q = clash (cc)
    by (Trapped pcs n) gpr bytes q = let z : s ≡ Trap n = cc in absurd (omega (arith, h, ap stop_number z))
    by (Missing va) gpr bytes q = (cc, cc)
    by (Stopped t) gpr bytes q = (cc, cc)

-- the run of the instructions that a run has finished, and the instruction that stopped it
pub record Halted (f : Flat) (c : Course Flat) : Type 0 where
  pub before : run flat_instruction c.finished f ≡ ended Limit c.finished c.left
  pub there : flat_instruction c.left ≡ stops c.stop 0 c.left

pub run_halts : (n : ℕ) (f : Flat) → 2 ≤ stop_number (run flat_instruction n f).stop → Halted f (run flat_instruction n f)
unfolding run follow
run_halts n f =
    run_all flat_instruction (λ f. Unit {0}) (λ f u. tt) (λ n f c. 2 ≤ stop_number c.stop → Halted f c) (λ f u h. absurd (not-suc-le-zero h))
    (λ n f u s k left e v h. let z : (k ≡ 0) × (left ≡ f) = flat_halts f s k left e h in record { before = rw (z.0, z.1) refl; there = by s k left f e z })
    (λ n f u next e v q h. record { before = first f next e (q h); there = (q h).there }) n f tt
  where
    by : (s : Stop) (k : ℕ) (left f : Flat) → flat_instruction f ≡ stops s k left → (k ≡ 0) × (left ≡ f) → flat_instruction left ≡ stops s 0 left
    by s k left f e z = ap flat_instruction z.1 ∙ e ∙ ap (λ (i : ℕ). stops s i left) z.0

    first : (f next : Flat) {c : Course Flat} → flat_instruction f ≡ goes next → Halted next c
        → run flat_instruction (1 + c.finished) f ≡ ended Limit (1 + c.finished) c.left
    first f next {c} e q = rw (one-add c.finished, e) (ap (more 1) q.before ∙ ap (λ (k : ℕ). ended Limit k c.left) (one-add c.finished))

pub run_again : (f : Flat) (s : Stop) → flat_instruction f ≡ stops s 0 f → (n : ℕ) → 0 < n → run flat_instruction n f ≡ ended s 0 f
unfolding run follow
run_again f s e zero h = absurd (not-suc-le-zero h)
run_again f s e (suc n) h = rw e refl
