-- The bound for every machine with a story: `story_fewer` against a schedule on h ≤ a frames, `story_equal` against one on a frames.
use mathlib.Core.Path.{◌≡◌, refl, sym, ap, subst}
use mathlib.Core.List.{List, [], ◌∷◌, ◌++◌, append-nil, nil-subset, cons-subset, Subset-trans}
use Prim.Native.Nat.{ℕ, suc, ◌+◌, ◌*◌, ◌-◌, ◌≤◌}
use native.Mathlib.Nat.{zero-add, suc-add, add_assoc}
use native.Mathlib.Omega.{arith}
use lib.ListN.{length}
use Rattle.model.specs.Order.{Demand}
use Rattle.model.specs.declared.VirtualPage.{VirtualPage}
use Rattle.bound.specs.Pages.{◌∈◌, ◌⊆◌}
use Rattle.bound.specs.Schedule.{Schedule, brings}
use Rattle.bound.specs.Rule.{Ask, had, load, page_asked, asked, loaded, loads, pages_of, Serving, idle, turn, Sparing}
use Rattle.bound.specs.Orders.{Order, Follows}
use Rattle.bound.specs.Story.{Turn, turn_end, turn_had, turn_load, Story, story_end, story_turn}
use Rattle.bound.proofs.Pages.{no_more}
use Rattle.bound.proofs.Rule.{loaded_asked}
use Rattle.bound.proofs.Orders.{sparing}
use Rattle.bound.proofs.Competitive.{against_fewer, against_equal}

-- a story with the accesses in a list
record Told (o : Order) (a : ℕ) (q : List VirtualPage) (ds : List Demand) (n : ℕ) : Type 0 where
  accesses : List Ask
  told : Follows o a q accesses
  own : Serving ds accesses
  count : loads accesses ≡ n

-- an access more for the first instruction
asks : {d : Demand} {ds : List Demand} {t : List Ask} (x : Ask) → page_asked x ∈ pages_of d → Serving (d ∷ ds) t → Serving (d ∷ ds) (x ∷ t)
asks x i (turn s own on) = turn (x ∷ s) (cons-subset.1 (i, own)) on

-- the accesses of one instruction are to its own pages
own_asked : {d : Demand} {t : List Ask} → Serving (d ∷ []) t → asked t ⊆ pages_of d
own_asked (turn s own idle) = rw append-nil own

module _ {o : Order} {a : ℕ} where
  -- one story after another
  pub story_join : {q r z : List VirtualPage} {ds es : List Demand} {n k : ℕ}
      → Story o a q ds n r → Story o a r es k z → Story o a q (ds ++ es) (n + k) z
  story_join story_end s = rw zero-add s
  story_join (story_turn t s) z = rw add_assoc (story_turn t (story_join s z))

  tell_turn : {d : Demand} {q r : List VirtualPage} {ds : List Demand} {n k : ℕ}
      → Turn o a d q n r → Told o a r (d ∷ ds) k → Told o a q (d ∷ ds) (n + k)
  tell_turn turn_end t = rw zero-add t
  tell_turn (turn_had p w i s) t =
      let c = tell_turn s t in
      record { accesses = had p ∷ c.accesses; told = (i, c.told); own = asks (had p) w c.own; count = c.count }
  tell_turn (turn_load p w i s) t =
      let c = tell_turn s t in
      record { accesses = load p ∷ c.accesses; told = (i, c.told); own = asks (load p) w c.own; count = rw suc-add (ap suc c.count) }

  tell : {q r : List VirtualPage} {ds : List Demand} {n : ℕ} → Story o a q ds n r → Told o a q ds n
  tell story_end = record { accesses = []; told = tt; own = idle; count = refl }
  tell (story_turn t s) =
      let c = tell s in
      tell_turn t (record { accesses = c.accesses; told = c.told; own = turn [] (nil-subset _) c.own; count = c.count })

  -- an instruction whose pages have room together loads none of them twice
  pub turn_few : {q r : List VirtualPage} (d : Demand) {n : ℕ} → length (pages_of d) ≤ a → Turn o a d q n r → n ≤ length (pages_of d)
  unfolding Sparing
  turn_few {q} d fits s =
      let t = tell (story_turn s story_end) in
      let inside : asked t.accesses ⊆ pages_of d = own_asked t.own in
      let single = sparing o a q t.accesses t.told [] t.accesses [] (sym (append-nil t.accesses)) (pages_of d) fits inside in
      omega (arith, t.count, no_more (loaded t.accesses) (pages_of d) single (Subset-trans (loaded_asked t.accesses) inside))

  pub story_fewer : {q r : List VirtualPage} {ds : List Demand} {n : ℕ} → Story o a q ds n r → (h : ℕ) → h ≤ a → (rival : Schedule h [] ds)
      → n * (a - h + 1) ≤ a * brings rival + a * (a - h)
  story_fewer {q} {r} {ds} s h fewer rival =
      let t = tell s in
      subst (λ (x : ℕ). x * (a - h + 1) ≤ a * brings rival + a * (a - h)) t.count
      (against_fewer a h fewer ds t.accesses t.own (sparing o a q t.accesses t.told) rival)

  pub story_equal : {q r : List VirtualPage} {ds : List Demand} {n : ℕ} → Story o a q ds n r → (rival : Schedule a [] ds) → n ≤ a * brings rival
  story_equal {q} {r} {ds} s rival =
      let t = tell s in
      subst (λ (x : ℕ). x ≤ a * brings rival) t.count (against_equal a ds t.accesses t.own (sparing o a q t.accesses t.told) rival)
