-- "An instruction has at most two loads", one that stops at most one (`instruction_loads`). "A run reports at most 2·finished+1
-- loads, and at most 2·finished if it ended by stop 0" (`run_loads`).
use mathlib.Core.Path.{◌≡◌, sym, ap, subst, ◌∙◌}
use mathlib.Core.Bool.{true, true≢false}
use mathlib.Core.List.{List}
use Prim.Native.Nat.{ℕ, suc}
use native.Mathlib.Omega.{arith}
use Rattle.model.specs.Pages.{page_of}
use Rattle.model.specs.Table.{entry, valid}
use Rattle.model.specs.Handler.{load}
use Rattle.model.specs.Attempt.{tried}
use Rattle.model.specs.Run.{Step, stops, answered, Counted, try, served, attempts, instruction, run}
use Rattle.model.specs.Flat.{Flat, flat_try, flat_put, flat_instruction}
use Rattle.model.specs.declared.Outcome.{Outcome}
use Rattle.model.specs.declared.Outcome.TheVariants.{Missing}
use Rattle.model.specs.declared.Stop.{Stop}
use Rattle.model.specs.declared.Stop.TheVariants.{IllegalMemory}
use Rattle.laws.specs.Good.{Good}
use Rattle.laws.specs.Mapped.{leaves, map_step}
use Rattle.laws.specs.Demand2.{flat_of, Fetched, Few, RunFew}
use Rattle.laws.proofs.Agree.{Finishes, done, wrote}
use Rattle.laws.proofs.Attempt.{clash, Misses, for_code, for_data, missed}
use Rattle.laws.proofs.Third.{Enough, enough, miss_good, miss_flat, miss_loaded}
use Rattle.laws.proofs.Simulate.{run_all}
use Rattle.laws.proofs.Instruction.{Settled, attempts_all, attempts_right}
use Rattle.laws.proofs.Run.{GoodCounted, keeps}

few_settled : (k : ℕ) (c : Counted) → Good c.state → (r : Step Counted) → Settled c r → Few k c r
few_settled k c g r t = record {
  least = omega (arith, t.loads);
  most = omega (arith, t.loads);
  stopping = λ s n d q. omega (arith, t.loads, ap (λ (x : Step Counted). (leaves x).loads) q);
  fetched = λ s n d q h. omega (arith, t.loads, ap (λ (x : Step Counted). (leaves x).loads) q);
  unlimited = t.unlimited;
}

-- an instruction whose data page is legal does not stop
no_stop : (f : Flat) → Finishes (flat_try f).outcome → (s : Stop) (n : ℕ) (d : Flat) → flat_instruction f ≡ stops s n d → ⊥
unfolding flat_instruction
no_stop f h s n d q = by (flat_try f).outcome (flat_try f).gpr (flat_try f).bytes h q
  where
    by : (o : Outcome) (gpr bytes : List ℕ) → Finishes o
        → answered f (flat_put f) (λ i g. g) (λ va. stops (IllegalMemory va) 0 f) (tried o gpr bytes) ≡ stops s n d → ⊥
    by o gpr bytes done r = clash (cc)
    by o gpr bytes wrote r = clash (cc)

module _ (k : ℕ) (c : Counted) (g : Good c.state) (va : ℕ) (e : (try c.state).outcome ≡ Missing va) (h : Enough k (load c.state (page_of va))) where
  -- after the load of its code page, and of its data page
  after_code : va ≡ c.state.machine.pcs.dpc → Fetched (load c.state (page_of va))
  unfolding load
  after_code q =
      subst (λ (v : ℕ). valid (entry c.state.machine.shape (load c.state (page_of va)).memory.main (page_of v)) ≡ true) q
      (miss_loaded c.state g va e).came.there

  after_data : Finishes (flat_try (flat_of c)).outcome → (s : Stop) (n : ℕ) (d : Counted) → attempts k (served c (page_of va)) ≡ stops s n d → ⊥
  after_data f s n d q =
      no_stop (flat_of c) f s n (flat_of d)
      (sym ((attempts_right k (served c (page_of va)) (miss_good c.state g va e) h).same ∙ ap flat_instruction (miss_flat c.state g va e)) ∙ ap (map_step flat_of) q)

  few_after : Few k (served c (page_of va)) (attempts k (served c (page_of va))) → Few (suc k) c (attempts k (served c (page_of va)))
  few_after t = by (missed c.state va e)
    where
      by : Misses c.state va → Few (suc k) c (attempts k (served c (page_of va)))
      by (for_code q a) = record {
        least = omega (arith, t.least);
        most = omega (arith, t.most);
        stopping = λ s n d r. omega (arith, t.fetched s n d r (after_code q));
        fetched = λ s n d r v.
            absurd (true≢false (sym v ∙ ap (λ (x : ℕ). valid (entry c.state.machine.shape c.state.memory.main (page_of x))) (sym q) ∙ a.away));
        unlimited = t.unlimited;
      }
      by (for_data writing q a f) = record {
        least = omega (arith, t.least);
        most = omega (arith, t.most);
        stopping = λ s n d r. absurd (after_data f s n d r);
        fetched = λ s n d r v. absurd (after_data f s n d r);
        unlimited = t.unlimited;
      }

pub instruction_loads : (c : Counted) → Good c.state → Few 2 c (instruction c)
unfolding instruction
instruction_loads c g = attempts_all Few few_settled few_after 2 c g (enough c.state g)

-- ---- a run
pub run_loads : (n : ℕ) (c : Counted) → Good c.state → RunFew c (run instruction n c)
run_loads =
    run_all instruction GoodCounted keeps (λ n c r. RunFew c r)
    (λ c g. record { most = omega arith; limit = λ e. omega arith })
    (λ n c g s k d e h. record {
      most = omega (arith, (instruction_loads c g).stopping s k d e);
      limit = λ q. absurd ((instruction_loads c g).unlimited k d (e ∙ ap (λ x. stops x k d) q));
    })
    (λ n c g next e h t. record {
      most = omega (arith, t.most, (instruction_loads c g).most, ap (λ (x : Step Counted). (leaves x).loads) e);
      limit = λ q. omega (arith, t.limit q, (instruction_loads c g).most, ap (λ (x : Step Counted). (leaves x).loads) e);
    })
