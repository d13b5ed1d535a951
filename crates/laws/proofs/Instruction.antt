-- Demand 2 for one instruction: what it comes to, with the state replaced by its flat machine, is what the flat machine's instruction
-- comes to, and the machine that it leaves is good (`instruction_right`). A third load that were allowed would change nothing.
use mathlib.Core.Path.{◌≡◌, refl, ap, ◌∙◌}
use Prim.Native.Nat.{ℕ, zero, suc, ◌*◌}
use lib.ListN.{get_or}
use Rattle.model.specs.Pages.{page_of}
use Rattle.model.specs.Attempt.{Tried}
use Rattle.model.specs.Handler.{load}
use Rattle.model.specs.Run.{Step, goes, stops, answered, Counted, try, put, note, served, attempts, instruction}
use Rattle.model.specs.Flat.{flat, flat_try, flat_instruction}
use Rattle.model.specs.declared.Outcome.{Outcome}
use Rattle.model.specs.declared.Outcome.TheVariants.{Done, Wrote, Trapped, Missing, Stopped}
use Rattle.model.specs.declared.Stop.{Stop}
use Rattle.model.specs.declared.Stop.TheVariants.{Limit}
use Rattle.laws.specs.Good.{Good}
use Rattle.laws.specs.Mapped.{leaves, map_step}
use Rattle.laws.specs.Demand2.{flat_of, Right}
use Rattle.laws.specs.Named.{Off}
use Rattle.laws.proofs.Seated.{safe}
use Rattle.laws.proofs.Stores.{store_off}
use Rattle.laws.proofs.Size.{same_size}
use Rattle.laws.proofs.Agree.{Halts, at_memory, at_alignment, at_word, halts, misses_code, misses_data, sets, stores, traps}
use Rattle.laws.proofs.Attempt.{clash, Came, came, set-good, trap_good, store_good, store_flat}
use Rattle.laws.proofs.Third.{Enough, enough, miss_good, miss_flat}

-- what the instruction of c comes to, where its attempt misses no page
pub record Settled (c : Counted) (r : Step Counted) : Type 0 where
  pub same : map_step flat_of r ≡ flat_instruction (flat_of c)
  pub good : Good (leaves r).state
  pub shape : (leaves r).state.machine.shape ≡ c.state.machine.shape
  pub loads : (leaves r).loads ≡ c.loads
  pub off : (j : ℕ) → Off (4096 * c.state.machine.shape.abase) (4096 * c.state.machine.shape.frames) j
      → get_or (leaves r).state.memory.main j 0 ≡ get_or c.state.memory.main j 0
  pub swap : (leaves r).state.memory.swap ≡ c.state.memory.swap
  pub unlimited : (n : ℕ) (d : Counted) → r ≡ stops Limit n d → ⊥

not_limit : {s : Stop} {n : ℕ} {c : Counted} {k : ℕ} {d : Counted} → Halts s → stops s n c ≡ stops Limit k d → ⊥
not_limit at_memory q = clash (cc)
not_limit at_alignment q = clash (cc)
not_limit at_word q = clash (cc)

settled : (c : Counted) → Good c.state → (again : ℕ → Step Counted) (t t' : Tried) → Came c.state t t' → flat_try (flat_of c) ≡ t'
    → ((va : ℕ) → t.outcome ≡ Missing va → ⊥) → Settled c (answered c (put c) note again t)
unfolding flat_instruction flat
settled c g again t t' (halts h) e n = record {
  same = rw e refl;
  good = g;
  shape = refl;
  loads = refl;
  off = λ j o. refl;
  swap = refl;
  unlimited = λ n d q. not_limit h q;
}
settled c g again t t' (misses_code f) e n = absurd (n _ refl)
settled c g again t t' (misses_data writing f a d) e n = absurd (n _ refl)
settled c g again t t' (sets rd v target) e n = record {
  same = rw e refl;
  good = set-good c.state g _ rd v;
  shape = refl;
  loads = refl;
  off = λ j o. refl;
  swap = refl;
  unlimited = λ n d q. clash (cc);
}
settled c g again t t' (stores width va i v a q) e n = record {
  same = rw e (ap goes (store_flat c.state g _ width va i v a q));
  good = store_good c.state g _ width va i v a q;
  shape = refl;
  loads = refl;
  off = store_off c.state.machine.shape c.state.memory.main (safe c.state g) width va i v a q;
  swap = refl;
  unlimited = λ n d q. clash (cc);
}
settled c g again t t' (traps n) e m = record {
  same = rw e refl;
  good = trap_good c.state g _;
  shape = refl;
  loads = refl;
  off = λ j o. refl;
  swap = refl;
  unlimited = λ n d q. clash (cc);
}

-- ---- every instruction with enough loads: its attempt misses no page, or a load comes first
module _ (Q : ℕ → Counted → Step Counted → Type 0)
    (settle : (k : ℕ) (c : Counted) → Good c.state → (r : Step Counted) → Settled c r → Q k c r)
    (follow : (k : ℕ) (c : Counted) → Good c.state → (va : ℕ) → (try c.state).outcome ≡ Missing va → Enough k (load c.state (page_of va))
    → Q k (served c (page_of va)) (attempts k (served c (page_of va))) → Q (suc k) c (attempts k (served c (page_of va))))
  where
    split : (k : ℕ) (c : Counted) → Good c.state → (again : ℕ → Step Counted)
        → ((va : ℕ) → (try c.state).outcome ≡ Missing va → Q k c (again va)) → Q k c (answered c (put c) note again (try c.state))
    split k c g again f = by (try c.state).outcome refl
      where
        quiet : ((va : ℕ) → (try c.state).outcome ≡ Missing va → ⊥) → Q k c (answered c (put c) note again (try c.state))
        quiet n = settle k c g _ (settled c g again (try c.state) (flat_try (flat_of c)) (came c.state) refl n)

        by : (o : Outcome) → (try c.state).outcome ≡ o → Q k c (answered c (put c) note again (try c.state))
        by (Done pcs) e = quiet (λ va q. clash (cc))
        by (Wrote pcs i) e = quiet (λ va q. clash (cc))
        by (Trapped pcs n) e = quiet (λ va q. clash (cc))
        by (Missing va) e = rw e (f va e)
        by (Stopped s) e = quiet (λ va q. clash (cc))

    pub attempts_all : (k : ℕ) (c : Counted) → Good c.state → Enough k c.state → Q k c (attempts k c)
    unfolding attempts Enough
    attempts_all zero c g h = split zero c g _ (λ va e. absurd (h va e))
    attempts_all (suc k) c g h =
        split (suc k) c g _ (λ va e. follow k c g va e (h va e) (attempts_all k (served c (page_of va)) (miss_good c.state g va e) (h va e)))

-- ---- a third load
answered_same : (c : Counted) (again again' : ℕ → Step Counted) → ((va : ℕ) → (try c.state).outcome ≡ Missing va → again va ≡ again' va)
    → answered c (put c) note again (try c.state) ≡ answered c (put c) note again' (try c.state)
answered_same c again again' h = by (try c.state).outcome refl
  where
    by : (o : Outcome) → (try c.state).outcome ≡ o → answered c (put c) note again (try c.state) ≡ answered c (put c) note again' (try c.state)
    by (Done pcs) e = rw e refl
    by (Wrote pcs i) e = rw e refl
    by (Trapped pcs n) e = rw e refl
    by (Missing va) e = rw e (h va e)
    by (Stopped s) e = rw e refl

attempts_idle : (k : ℕ) (c : Counted) → Enough k c.state → attempts (suc k) c ≡ attempts k c
unfolding attempts Enough
attempts_idle zero c h = answered_same c _ _ (λ va e. absurd (h va e))
attempts_idle (suc k) c h = answered_same c _ _ (λ va e. attempts_idle k (served c (page_of va)) (h va e))

pub third_idle : (c : Counted) → Good c.state → attempts 3 c ≡ instruction c
unfolding instruction
third_idle c g = attempts_idle 2 c (enough c.state g)

-- ---- demand 2
pub attempts_right : (k : ℕ) (c : Counted) → Good c.state → Enough k c.state → Right c (attempts k c)
unfolding load
attempts_right =
    attempts_all (λ k c r. Right c r)
    (λ k c g r t. record { same = t.same; good = t.good; size = same_size c.state (leaves r).state g t.good t.shape })
    (λ k c g va e h t. record {
      same = t.same ∙ ap flat_instruction (miss_flat c.state g va e);
      good = t.good;
      size = same_size c.state (leaves (attempts k (served c (page_of va)))).state g t.good t.size.shape;
    })

pub instruction_right : (c : Counted) → Good c.state → Right c (instruction c)
unfolding instruction
instruction_right c g = attempts_right 2 c g (enough c.state g)
