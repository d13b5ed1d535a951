-- A run under way (`Ran`): how it begins, goes on and ends, by the instruction; and an instruction of the flat machine by its attempt.
use mathlib.Core.Path.{◌≡◌, sym, ap, subst, ◌∙◌}
use mathlib.Core.List.{List}
use Prim.Native.Nat.{ℕ, suc, ◌+◌, ◌-◌, ◌<◌}
use native.Mathlib.Nat.{zero-add, add_assoc}
use native.Mathlib.Omega.{arith}
use Rattle.model.specs.Bytes.{number}
use Rattle.model.specs.Attempt.{Tried, tried, size}
use Rattle.model.specs.Run.{Step, goes, stops, answered, ended, more, follow, run}
use Rattle.model.specs.Flat.{Flat, allow, flat_try, flat_put, flat_instruction}
use Rattle.model.specs.declared.Pcs.{Pcs}
use Rattle.model.specs.declared.Access.TheVariants.{At}
use Rattle.model.specs.declared.Stop.{Stop}
use Rattle.model.specs.declared.Stop.TheVariants.{Limit, Trap, IllegalMemory}
use Rattle.model.specs.declared.Outcome.{Outcome}
use Rattle.model.specs.declared.Outcome.TheVariants.{Done, Wrote, Trapped, Missing, Stopped}
use Rattle.laws.proofs.Agree.{Agrees, Both, halts, misses_code, misses_data, sets, stores, traps, attempt_both}
use Rattle.cpu.specs.Finished.{Finished}
use Rattle.plaincpu.proofs.Ways.{lies, never_faults}
use Rattle.plainengine.specs.Engine.{flat_of, Ran}

-- ---- a run under way
pub begun : (n : ℕ) (f : Flat) → Ran n f n f
begun n f = record {
  few = omega arith;
  same = let k : n - n ≡ 0 = omega arith in rw k (simp zero-add);
}

pub joined : {n : ℕ} {from f g : Flat} {l k : ℕ} → Ran n from l f → Ran l f k g → Ran n from k g
joined {n = n} {g = g} {l = l} {k = k} a b = record {
  few = omega (arith, a.few, b.few);
  same =
      let e : n - l + (l - k) ≡ n - k = omega (arith, a.few, b.few) in
      a.same ∙ ap (λ c. more (n - l) c) b.same ∙ sym (simp add_assoc) ∙ ap (λ j. more j (run flat_instruction k g)) e;
}

module _ (n : ℕ) (from : Flat) (left : ℕ) (f : Flat) (u : Ran n from left f) where
  -- the limit is used up
  pub run_out : left ≡ 0 → ended Limit n f ≡ run flat_instruction n from
  unfolding run
  run_out e =
      let k : n - left + 0 ≡ n = omega (arith, u.few, e) in
      sym (u.same ∙ ap (λ j. more (n - left) (run flat_instruction j f)) e ∙ ap (λ j. ended Limit j f) k)

  module _ (h : 0 < left) where
    after : {s : Step Flat} → flat_instruction f ≡ s → run flat_instruction n from ≡ more (n - left) (follow s (λ next. run flat_instruction (left - 1) next))
    unfolding run
    after e =
        let k : left ≡ suc (left - 1) = omega (arith, h) in
        u.same ∙ ap (λ j. more (n - left) (run flat_instruction j f)) k
        ∙ ap (λ z. more (n - left) (follow z (λ next. run flat_instruction (left - 1) next))) e

    pub goes_on : (g : Flat) → flat_instruction f ≡ goes g → Ran n from (left - 1) g
    unfolding follow
    goes_on g e = record {
      few = omega (arith, u.few);
      same =
          let k : n - left + 1 ≡ n - (left - 1) = omega (arith, u.few, h) in
          after e ∙ sym (simp add_assoc) ∙ ap (λ j. more j (run flat_instruction (left - 1) g)) k;
    }

    pub stops_there : (s : Stop) (k : ℕ) (g : Flat) → flat_instruction f ≡ stops s k g → ended s (n - left + k) g ≡ run flat_instruction n from
    unfolding follow
    stops_there s k g e = sym (after e)

-- ---- an instruction, by what its attempt comes to
module _ (f : Flat) (r : Outcome) (g m : List ℕ) (is : tried r g m ≡ flat_try f) where
  abbrev step : Outcome → Step Flat
  step o = answered f (flat_put f) (λ i k. k) (λ va. stops (IllegalMemory va) 0 f) (tried o g m)

  instruction_is : (o : Outcome) → r ≡ o → flat_instruction f ≡ step o
  unfolding flat_instruction
  instruction_is o e = ap (λ t. answered f (flat_put f) (λ i k. k) (λ va. stops (IllegalMemory va) 0 f) t) (sym is) ∙ ap step e

  pub goes_done : (q : Pcs) → r ≡ Done q → flat_instruction f ≡ goes (flat_of g q f.rights m)
  goes_done q e = instruction_is (Done q) e

  pub goes_wrote : (q : Pcs) (i : ℕ) → r ≡ Wrote q i → flat_instruction f ≡ goes (flat_of g q f.rights m)
  goes_wrote q i e = instruction_is (Wrote q i) e

  pub stops_trapped : (q : Pcs) (n : ℕ) → r ≡ Trapped q n → flat_instruction f ≡ stops (Trap n) 1 (flat_of g q f.rights m)
  stops_trapped q n e = instruction_is (Trapped q n) e

  pub stops_stopped : (s : Stop) → r ≡ Stopped s → flat_instruction f ≡ stops s 0 f
  stops_stopped s e = instruction_is (Stopped s) e

  pub stops_missing : (va : ℕ) → r ≡ Missing va → flat_instruction f ≡ stops (IllegalMemory va) 0 f
  stops_missing va e = instruction_is (Missing va) e

  -- one that does not finish its instruction changes nothing
  pub unchanged : ¬ Finished r → (g ≡ f.gpr) × (m ≡ f.bytes)
  unchanged not = by _ _ (attempt_both _ _ _ _ f.gpr f.pcs agrees) is
    where
      agrees : Agrees (allow f.rights) f.bytes (allow f.rights) f.bytes
      agrees = record {
        illegal = λ w va e. e;
        permits = λ w va e. absurd (never_faults f.rights w va e);
        legal = λ w va i e. e ∙ ap At (lies f.rights w va i e).same;
        reads = λ w width va i a e. ap (λ (k : ℕ). number (size width) f.bytes k) (lies f.rights w va i e).same;
      }

      by : (t t' : Tried) → Both (allow f.rights) f.bytes (allow f.rights) f.bytes f.gpr f.pcs t t' → tried r g m ≡ t
          → (g ≡ f.gpr) × (m ≡ f.bytes)
      by t t' (halts q) e = (ap (λ z. z.gpr) e, ap (λ z. z.bytes) e)
      by t t' (misses_code h) e = (ap (λ z. z.gpr) e, ap (λ z. z.bytes) e)
      by t t' (misses_data w h a d) e = (ap (λ z. z.gpr) e, ap (λ z. z.bytes) e)
      by t t' (sets rd v target) e = absurd (not (subst Finished (ap (λ z. z.outcome) (sym e)) tt))
      by t t' (stores width va i v a h) e = absurd (not (subst Finished (ap (λ z. z.outcome) (sym e)) tt))
      by t t' (traps k) e = (ap (λ z. z.gpr) e, ap (λ z. z.bytes) e)
