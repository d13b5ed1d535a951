-- A good machine's run does what its flat machine's does (`runs_flat`), loads few pages (`few_loads`), and its stops 2 to 4 come again
-- (`halts`).
use mathlib.Core.Path.{◌≡◌, refl, sym, ap, ◌∙◌}
use Prim.Native.Nat.{ℕ, ◌<◌, ◌≤◌}
use native.Mathlib.Omega.{arith}
use Rattle.std.specs.Prelude.{Ok, Err}
use Rattle.model.specs.State.{State}
use Rattle.model.specs.Answers.{stop_number, stop_detail, Verdict}
use Rattle.model.specs.Run.{Course, ended, run, uncounted, instruction}
use Rattle.model.specs.Flat.{Flat, flat, flat_instruction}
use Rattle.model.specs.Calls.{run_verdict, reported, run_by, run_call}
use Rattle.model.specs.Series.{runs, after}
use Rattle.model.specs.declared.Stop.{Stop}
use Rattle.model.specs.declared.Stop.TheVariants.{Limit, Trap, IllegalMemory, Misaligned, IllegalInstruction}
use Rattle.laws.specs.Good.{Good}
use Rattle.laws.specs.Mapped.{map_course}
use Rattle.laws.specs.Demand2.{flat_of}
use Rattle.laws.proofs.Run.{run_right}
use Rattle.laws.proofs.Loads.{run_loads}
use Rattle.laws.proofs.Copies.{run_copied_few}
use Rattle.laws.proofs.Again.{Halted, run_halts, run_again}
use Rattle.laws.proofs.Granted.{run_limit, run_reported}
use Rattle.laws.proofs.Calls.{call_good}
use Rattle.demands.specs.FlatRun.{RunsFlat, FewLoads, Halting, Halts}

pub runs_flat : (p : State) → Good p → (n : ℕ) → n ≤ 1000000 → RunsFlat (run_call p n) (run flat_instruction n (flat p))
runs_flat p g n h =
    let e : run_call p n ≡ reported (run instruction n (uncounted p)) = run_reported p g n h in
    let s : map_course flat_of (run instruction n (uncounted p)) ≡ run flat_instruction n (flat p) = (run_right n (uncounted p) g).same in
    record {
      taken = ap (λ o. o.numbers.verdict.refused) e;
      stop = ap (λ o. o.numbers.stop) e ∙ ap (λ c. stop_number c.stop) s;
      detail = ap (λ o. o.numbers.detail) e ∙ ap (λ c. stop_detail c.stop) s;
      finished = ap (λ o. o.numbers.finished) e ∙ ap (λ c. c.finished) s;
      left = ap (λ o. flat o.state) e ∙ ap (λ c. c.left) s;
    }

stop_zero : (s : Stop) → stop_number s ≡ 0 → s ≡ Limit
stop_zero Limit e = refl
stop_zero (Trap n) e = absurd (omega (arith, e))
stop_zero (IllegalMemory va) e = absurd (omega (arith, e))
stop_zero (Misaligned va) e = absurd (omega (arith, e))
stop_zero (IllegalInstruction w) e = absurd (omega (arith, e))

module _ (p : State) (g : Good p) (n : ℕ) where
  pub few_loads : FewLoads (run_call p n).numbers
  unfolding run_call
  few_loads = by (run_verdict p n)
    where
      by : (v : Verdict) → FewLoads (run_by v p n).numbers
      by (Ok tt) = record {
        most = omega (arith, (run_loads n (uncounted p) g).most);
        limit = λ e. omega (arith, (run_loads n (uncounted p) g).limit (stop_zero _ e));
        copied = omega (arith, run_copied_few n (uncounted p));
      }
      by (Err r) = record { most = omega arith; limit = λ e. omega arith; copied = omega arith }

  -- a run that such a stop ended was granted
  within : Halting (run_call p n) → n ≤ 1000000
  unfolding run_call
  within = by (run_verdict p n) refl
    where
      by : (v : Verdict) → run_verdict p n ≡ v → Halting (run_by v p n) → n ≤ 1000000
      by (Ok tt) q h = run_limit p n q
      by (Err r) q h = absurd (omega (arith, h))

  pub halts : Halting (run_call p n) → Halts (flat p) (run_call p n)
  unfolding after
  halts h =
      let c : Course Flat = run flat_instruction n (flat p) in
      let r : RunsFlat (run_call p n) c = runs_flat p g n (within h) in
      let t : Halted (flat p) c = run_halts n (flat p) (rw r.stop at h) in
      let next : (m : ℕ) → m ≤ 1000000 → RunsFlat (run_call (run_call p n).state m) (run flat_instruction m (flat (run_call p n).state))
      = runs_flat (run_call p n).state (call_good p g (runs n)) in
      let again : (m : ℕ) → 0 < m → run flat_instruction m (flat (run_call p n).state) ≡ ended c.stop 0 c.left
      = λ m q. ap (run flat_instruction m) r.left ∙ run_again c.left c.stop t.there m q in
      record {
        before = rw (r.finished, r.left) t.before;
        again_stop = λ m q l. (next m l).stop ∙ ap (λ k. stop_number k.stop) (again m q) ∙ sym r.stop;
        again_detail = λ m q l. (next m l).detail ∙ ap (λ k. stop_detail k.stop) (again m q) ∙ sym r.detail;
        again_finished = λ m q l. (next m l).finished ∙ ap (λ k. k.finished) (again m q);
      }
