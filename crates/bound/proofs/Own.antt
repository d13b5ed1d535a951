-- The handler is itself one of the schedules that it is held against: with two frames or more, in any order of leaving, there is a schedule
-- on a frames that pays just what the handler loads (`own`). So the bound speaks of no empty class, and what the best schedule pays
-- lies between the handler's loads and an a-th of them (`own_bound`).
use mathlib.Core.Path.{◌≡◌, refl, sym, ap, subst}
use mathlib.Core.Logic.Or
use mathlib.Core.Logic.Dec
use mathlib.Core.Logic.{◌↔◌}
use mathlib.Core.HLevel.{⊥_prop}
use mathlib.Core.List.Pairwise
use mathlib.Core.List.{List, [], ◌∷◌, ◌++◌, Mem-prop, Subset-refl, Subset-trans, cons-subset, mem-cons_self, mem-cons_of_mem, mem-cast, mem-append, mem-append_left, not-mem-nil, eq-or-mem_of_mem-cons, Nodup-nil, Nodup-cons, Nodup-append, insert_of_not-mem}
use Prim.Native.Nat.{ℕ, zero, suc, ◌+◌, ◌*◌, ◌≤◌}
use native.Mathlib.Nat.{zero-add, suc-add, not-suc-le-zero, le_of_suc-le-suc}
use native.Mathlib.Omega.{arith}
use lib.ListN.{length, take, drop, length-take, take-append-drop}
use Rattle.model.specs.Order.{Demand}
use Rattle.model.specs.declared.VirtualPage.{VirtualPage}
use Rattle.bound.specs.Pages.{◌∈◌, ◌⊆◌, NoTwice, same_page, hold, without}
use Rattle.bound.specs.Schedule.{Schedule, bring, leave, serve, end, brings}
use Rattle.bound.specs.Orders.{Order}
use Rattle.bound.specs.Story.{Turn, turn_end, turn_had, turn_load}
use Rattle.bound.specs.Handler.{carry, handle}
use Rattle.bound.proofs.Pages.{without_iff, no_more}
use Rattle.bound.proofs.Schedule.{holds_iff}
use Rattle.bound.proofs.Story.{story_equal}
use Rattle.bound.proofs.Handler.{carry_turn, carried, handle_story}

-- a schedule with what it pays
record Ran (a : ℕ) (held : List VirtualPage) (ds : List Demand) (n : ℕ) : Type 0 where
  rival : Schedule a held ds
  cost : brings rival ≡ n

-- the schedule holds what is resident
record Same (a : ℕ) (held q : List VirtualPage) : Type 0 where
  in_q : held ⊆ q
  in_held : q ⊆ held
  single : NoTwice held
  single_q : NoTwice q
  fits : length q ≤ a

-- ---- several pages leave
abbrev without_all : List VirtualPage → List VirtualPage → List VirtualPage
without_all [] l = l
without_all (x ∷ xs) l = without_all xs (without x l)

all_leave : {a : ℕ} {ds : List Demand} {n : ℕ} (xs held : List VirtualPage) → Ran a (without_all xs held) ds n → Ran a held ds n
unfolding brings
all_leave [] held r = r
all_leave (x ∷ xs) held r =
    let s : Ran _ (without x held) _ _ = all_leave xs (without x held) r in
    record { rival = leave x s.rival; cost = s.cost }

all_iff : (xs l : List VirtualPage) (p : VirtualPage) → (p ∈ without_all xs l) ↔ ((p ∈ l) × (¬ (p ∈ xs)))
all_iff [] l p = (λ i. (i, not-mem-nil), λ k. k.0)
all_iff (x ∷ xs) l p =
    let below : (p ∈ without_all xs (without x l)) ↔ ((p ∈ without x l) × (¬ (p ∈ xs))) = all_iff xs (without x l) p in (
      λ i. (((without_iff x l p).0 (below.0 i).0).0, λ j. Or.elim ⊥_prop (eq-or-mem_of_mem-cons j) ((without_iff x l p).0 (below.0 i).0).1 (below.0 i).1),
      λ k. below.1 ((without_iff x l p).1 (k.0, λ e. k.1 (mem-cast e mem-cons_self)), λ j. k.1 (mem-cons_of_mem x j)),
    )

all_twice : (xs l : List VirtualPage) → NoTwice l → NoTwice (without_all xs l)
unfolding without
all_twice [] l n = n
all_twice (x ∷ xs) l n = all_twice xs (without x l) (Pairwise.filter (λ y. Dec.not (same_page y x)) n)

-- ---- an access to a resident page, and a load: what leaves is dropped, and the page is brought in
touch_same : (o : Order) (a : ℕ) (p : VirtualPage) (held q : List VirtualPage) → p ∈ q → Same a held q → Same a held (o.touch p q)
touch_same o a p held q i s =
    let back : o.touch p q ⊆ q = Subset-trans (o.only p q) (cons-subset.1 (i, Subset-refl q)) in
    record {
      in_q = Subset-trans s.in_q (o.stay p q);
      in_held = Subset-trans back s.in_held;
      single = s.single;
      single_q = o.single p q s.single_q;
      fits = omega (arith, no_more (o.touch p q) q (o.single p q s.single_q) back, s.fits);
    }

module _ (m : ℕ) (p : VirtualPage) (held q : List VirtualPage) (new : ¬ (p ∈ q)) (s : Same (suc m) held q) where
  abbrev gone : List VirtualPage
  gone = drop m q

  abbrev rest : List VirtualPage
  rest = take m q

  abbrev less : List VirtualPage
  less = without_all gone held

  cut : NoTwice (rest ++ gone)
  cut = rw take-append-drop s.single_q

  rest_q : rest ⊆ q
  rest_q x i = rw take-append-drop at (mem-append_left gone i)

  less_rest : less ⊆ rest
  less_rest x i =
      let k : (x ∈ held) × (¬ (x ∈ gone)) = (all_iff gone held x).0 i in
      let j : x ∈ rest ++ gone = rw take-append-drop (s.in_q x k.0) in
      Or.elim Mem-prop (mem-append.0 j) (λ y. y) (λ y. absurd (k.1 y))

  rest_less : rest ⊆ less
  rest_less x i = (all_iff gone held x).1 (s.in_held x (rest_q x i), ((Nodup-append {l₁ = rest} {l₂ = gone}).0 cut).2 x i)

  less_new : ¬ (p ∈ less)
  less_new i = new (s.in_q p ((all_iff gone held p).0 i).0)

  load_same : Same (suc m) (p ∷ less) (p ∷ rest)
  load_same =
      record {
        in_q = cons-subset.1 (mem-cons_self, λ x i. mem-cons_of_mem p (less_rest x i));
        in_held = cons-subset.1 (mem-cons_self, λ x i. mem-cons_of_mem p (rest_less x i));
        single = Nodup-cons.1 (less_new, all_twice gone held s.single);
        single_q = Nodup-cons.1 (λ i. new (rest_q p i), ((Nodup-append {l₁ = rest} {l₂ = gone}).0 cut).0);
        fits = simp length-take (omega arith);
      }

  load_ran : {ds : List Demand} {n : ℕ} → Ran (suc m) (p ∷ less) ds n → Ran (suc m) held ds (suc n)
  unfolding brings hold
  load_ran {ds} {n} r =
      let f : length (p ∷ less) ≤ length (p ∷ rest) = no_more (p ∷ less) (p ∷ rest) load_same.single load_same.in_q in
      let e : hold p less ≡ p ∷ less = insert_of_not-mem same_page less_new in
      let t : Ran (suc m) (hold p less) ds n = subst (λ (l : List VirtualPage). Ran (suc m) l ds n) (sym e) r in
      let few : length (hold p less) ≤ suc m = rw e (omega (arith, load_same.fits)) in
      all_leave gone held (record { rival = bring p (omega (arith, few)) t.rival; cost = ap suc t.cost })

-- ---- an instruction, and all of them
turn_ran : (o : Order) (m : ℕ) {d : Demand} {ds : List Demand} {q r : List VirtualPage} {n k : ℕ} (held : List VirtualPage)
    → Turn o (suc m) d q k r → Same (suc m) held q → ((h : List VirtualPage) → Same (suc m) h r → Ran (suc m) h ds n) → Ran (suc m) held ds (k + n)
turn_ran o m held turn_end s go = rw zero-add (go held s)
turn_ran o m held (turn_had {q = q} p w i t) s go = turn_ran o m held t (touch_same o (suc m) p held q i s) go
turn_ran o m held (turn_load {q = q} p w i t) s go =
    rw suc-add (load_ran m p held q i s (turn_ran o m (p ∷ without_all (drop m q) held) t (load_same m p held q i s) go))

handled : (o : Order) (m : ℕ) → 1 ≤ m → (ds : List Demand) (held q : List VirtualPage) → Same (suc m) held q
    → Ran (suc m) held ds (handle o (suc m) ds q).loads
unfolding handle brings
handled o m h [] held q s = record { rival = end; cost = refl }
handled o m h (d ∷ ds) held q s =
    turn_ran o m held (carry_turn o (suc m) d q) s (λ k z.
    let l : Ran (suc m) k ds _ = handled o m h ds k (carry o (suc m) 3 d q).left z in
    record { rival = serve ((holds_iff d).1 (Subset-trans (carried o (suc m) (omega arith) d q).1 z.in_held)) l.rival; cost = l.cost })

pub own : (o : Order) (a : ℕ) → 2 ≤ a → (ds : List Demand) → (rival : Schedule a [] ds) × (brings rival ≡ (handle o a ds []).loads)
own o zero h ds = absurd (not-suc-le-zero h)
own o (suc m) h ds =
    let s : Same (suc m) [] [] = record { in_q = Subset-refl []; in_held = Subset-refl []; single = Nodup-nil; single_q = Nodup-nil; fits = omega arith } in
    let r : Ran (suc m) [] ds (handle o (suc m) ds []).loads = handled o m (le_of_suc-le-suc h) ds [] [] s in
    (r.rival, r.cost)

pub own_bound : (o : Order) (a : ℕ) (ds : List Demand) (rival : Schedule a [] ds) → (handle o a ds []).loads ≤ a * brings rival
own_bound o a ds rival = story_equal (handle_story o a ds []) rival
