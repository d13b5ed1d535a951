-- The worked value "code on page 0, .. lw from page 1, then lw from page 2" with two frames: first-come loads 4 (`first_come_lem`), and
-- "The best schedule pays 3": one pays 3 (`best_pays`), and none pays less (`best`).
use mathlib.Core.Path.{◌≡◌, refl}
use mathlib.Core.List.{List, [], ◌∷◌, cons-subset, Nodup-cons, Nodup-nil, not-mem-nil, mem-cons_self, mem-cons_of_mem}
use mathlib.Core.Bool.{decide, decide_iff}
use mathlib.Core.Logic.Dec
use Prim.Native.Nat.{ℕ, ◌≤◌}
use native.Mathlib.Decide.{ℕ_discrete}
use native.Mathlib.Omega.{arith}
use Rattle.model.specs.Order.{Demand, both}
use Rattle.model.specs.Pages.{virtual}
use Rattle.bound.specs.Pages.{same_page, dec_in, hold, without}
use Rattle.bound.specs.Schedule.{Schedule, bring, leave, serve, end, brings}
use Rattle.bound.specs.Orders.{first_come}
use Rattle.bound.specs.Handler.{handle, carry, look}
use Rattle.bound.proofs.Distinct.{pays_each}

abbrev pub example : List Demand
example = both (virtual 0) (virtual 1) ∷ both (virtual 0) (virtual 2) ∷ []

-- "loads 4, B = 2, 0": page 0 came last
pub first_come_lem : handle first_come 2 example [] ≡ record { loads = 4; left = virtual 0 ∷ virtual 2 ∷ [] }
unfolding handle carry look dec_in same_page ℕ_discrete
first_come_lem = refl

-- page 0 stays, and page 2 takes the place of page 1
best_rival : Schedule 2 [] example
unfolding hold without same_page ℕ_discrete Dec.not
best_rival =
    bring {held = []} (virtual 0) (omega arith) (bring {held = virtual 0 ∷ []} (virtual 1) (omega arith)
    (serve {held = virtual 1 ∷ virtual 0 ∷ []} {d = both (virtual 0) (virtual 1)} (mem-cons_of_mem (virtual 1) mem-cons_self, mem-cons_self)
    (leave {held = virtual 1 ∷ virtual 0 ∷ []} (virtual 1) (bring {held = virtual 0 ∷ []} (virtual 2) (omega arith)
    (serve {held = virtual 2 ∷ virtual 0 ∷ []} {d = both (virtual 0) (virtual 2)} (mem-cons_of_mem (virtual 2) mem-cons_self, mem-cons_self) end)))))

pub best_pays : (rival : Schedule 2 [] example) × (brings rival ≡ 3)
unfolding brings best_rival
best_pays = (best_rival, refl)

pub best : (h : ℕ) (rival : Schedule h [] example) → 3 ≤ brings rival
unfolding decide dec_in same_page ℕ_discrete Dec.not
best h rival =
    pays_each rival (virtual 0 ∷ virtual 1 ∷ virtual 2 ∷ [])
    (Nodup-cons.1 (
      (decide_iff (Dec.not (dec_in (virtual 0) (virtual 1 ∷ virtual 2 ∷ [])))).0 refl,
      Nodup-cons.1 ((decide_iff (Dec.not (dec_in (virtual 1) (virtual 2 ∷ [])))).0 refl, Nodup-cons.1 (not-mem-nil, Nodup-nil)),
    ))
    (cons-subset.1 (
      mem-cons_self,
      cons-subset.1 (
        mem-cons_of_mem (virtual 0) mem-cons_self,
        λ p i.
            mem-cons_of_mem (virtual 0) (mem-cons_of_mem (virtual 1) (mem-cons_of_mem (virtual 0) i)),
      ),
    ))
