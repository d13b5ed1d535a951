-- Any machine: what holds of every run, by its instructions (`run_all`); and where an instruction of M stands for one of N by a map f
-- on every good m and leaves a good one, so does a run of any length (`run_right`).
use mathlib.Core.Path.{◌≡◌, refl, sym, ap, ◌∙◌}
use Prim.Native.Nat.{ℕ, zero, suc}
use Rattle.model.specs.Run.{Step, goes, stops, Course, ended, more, follow, run}
use Rattle.model.specs.declared.Stop.{Stop}
use Rattle.model.specs.declared.Stop.TheVariants.{Limit}
use Rattle.laws.specs.Mapped.{leaves, map_step, map_course}

module _ {M : Type 0} (instruction : M → Step M) (Good : M → Type 0) (keeps : (m : M) → Good m → Good (leaves (instruction m))) where
  -- Q of a run of at most n from m on, by where the first instruction leads
  pub run_all : (Q : ℕ → M → Course M → Type 0)
      → ((m : M) → Good m → Q 0 m (ended Limit 0 m))
      → ((n : ℕ) (m : M) → Good m → (s : Stop) (k : ℕ) (left : M) → instruction m ≡ stops s k left → Good left → Q (suc n) m (ended s k left))
      → ((n : ℕ) (m : M) → Good m → (next : M) → instruction m ≡ goes next → Good next → Q n next (run instruction n next) → Q (suc n) m (more 1 (run instruction n next)))
      → (n : ℕ) (m : M) → Good m → Q n m (run instruction n m)
  unfolding run follow
  run_all Q limit stop go zero m g = limit m g
  run_all Q limit stop go (suc n) m g = by (instruction m) refl (keeps m g) (λ next h. run_all Q limit stop go n next h)
    where
      by : (r : Step M) → instruction m ≡ r → Good (leaves r) → ((next : M) → Good next → Q n next (run instruction n next))
          → Q (suc n) m (follow r (λ next. run instruction n next))
      by (goes next) e h rest = go n m g next e h (rest next h)
      by (stops s k left) e h rest = stop n m g s k left e h

  pub run_good : (n : ℕ) (m : M) → Good m → Good (run instruction n m).left
  run_good = run_all (λ n m c. Good c.left) (λ m g. g) (λ n m g s k left e h. h) (λ n m g next e h q. q)

  module _ {N : Type 0} (f : M → N) (instruction' : N → Step N) (right : (m : M) → Good m → map_step f (instruction m) ≡ instruction' (f m)) where
    -- a run of N, by the first instruction of M
    first : (n : ℕ) (m : M) → Good m → (r : Step M) → instruction m ≡ r → follow (map_step f r) (λ next. run instruction' n next) ≡ run instruction' (suc n) (f m)
    unfolding run
    first n m g r e = ap (λ z. follow z (λ next. run instruction' n next)) (ap (map_step f) (sym e) ∙ right m g)

    pub run_right : (n : ℕ) (m : M) → Good m → map_course f (run instruction n m) ≡ run instruction' n (f m)
    unfolding run follow
    run_right =
        run_all (λ n m c. map_course f c ≡ run instruction' n (f m)) (λ m g. refl) (λ n m g s k left e h. first n m g (stops s k left) e)
        (λ n m g next e h q. ap (more 1) q ∙ first n m g (goes next) e)
