-- `pays_each`: a schedule pays at least one for each different page that its instructions need.
use mathlib.Core.Logic.Or
use mathlib.Core.List.{List, [], ◌∷◌, ◌++◌, Mem-prop, Subset-refl, Subset-trans, cons-subset, mem-cons_self, mem-cons_of_mem, mem-append, mem-append_left, mem-append_right, append-nil}
use Prim.Native.Nat.{ℕ, suc, ◌+◌, ◌≤◌}
use native.Mathlib.Omega.{arith}
use lib.ListN.{length}
use Rattle.model.specs.Order.{Demand}
use Rattle.model.specs.declared.VirtualPage.{VirtualPage}
use Rattle.bound.specs.Pages.{◌⊆◌, NoTwice, hold}
use Rattle.bound.specs.Schedule.{Schedule, bring, leave, serve, end, brings}
use Rattle.bound.specs.Rule.{pages_of, pages_in}
use Rattle.bound.proofs.Pages.{hold_sub, without_sub, no_more}
use Rattle.bound.proofs.Schedule.{holds_iff}

-- `known` has all that was held so far
pays_new : {h : ℕ} {held : List VirtualPage} {ds : List Demand} (rival : Schedule h held ds) (known k : List VirtualPage)
    → held ⊆ known → NoTwice k → k ⊆ known ++ pages_in ds → length k ≤ length known + brings rival
unfolding brings
pays_new (bring {held = held} p fits on) known k s n c =
    let more : held ⊆ p ∷ known = λ q i. mem-cons_of_mem p (s q i) in
    let now : hold p held ⊆ p ∷ known = Subset-trans (hold_sub p held) (cons-subset.1 (mem-cons_self, more)) in
    let r : length k ≤ suc (length known) + brings on = pays_new on (p ∷ known) k now n (λ q i. mem-cons_of_mem p (c q i)) in
    omega arith
pays_new (leave {held = held} p on) known k s n c = pays_new on known k (Subset-trans (without_sub p held) s) n c
pays_new (serve {held = held} {d = d} {ds = ds} all on) known k s n c =
    pays_new on known k s n (λ q i.
    Or.elim Mem-prop ((mem-append {s = known}).0 (c q i)) (λ j. mem-append_left (pages_in ds) j)
    (λ j. Or.elim Mem-prop ((mem-append {s = pages_of d}).0 j)
    (λ y. mem-append_left (pages_in ds) (s q ((holds_iff d).0 all q y))) (λ y. mem-append_right known y)))
pays_new end known k s n c = omega (arith, no_more k known n (rw append-nil at c))

pub pays_each : {h : ℕ} {ds : List Demand} (rival : Schedule h [] ds) (k : List VirtualPage) → NoTwice k → k ⊆ pages_in ds → length k ≤ brings rival
pays_each rival k n s = omega (arith, pays_new rival [] k (Subset-refl []) n s)
