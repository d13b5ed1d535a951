-- What holds of the handler in the large with two frames or more, in any order of leaving: three attempts carry out every instruction,
-- with its pages resident together, and "An instruction has at most two loads" (`carried`).
use mathlib.Core.Path.{◌≡◌, refl, sym, ◌∙◌, ap, subst}
use mathlib.Core.Logic.{◌⊎◌, inl, inr, ⊎_elim, ite}
use mathlib.Core.List.{List, [], ◌∷◌, ◌++◌, nil-subset, cons-subset, mem-cons_self, Subset-refl, Subset-trans}
use Prim.Native.Nat.{ℕ, zero, suc, ◌+◌, ◌≤◌}
use native.Mathlib.Nat.{zero-add, add_assoc}
use native.Mathlib.Omega.{arith}
use lib.ListN.{length}
use Rattle.model.specs.Order.{Demand, alone, both}
use Rattle.model.specs.declared.VirtualPage.{VirtualPage}
use Rattle.bound.specs.Pages.{◌∈◌, ◌⊆◌, dec_in}
use Rattle.bound.specs.Rule.{pages_of}
use Rattle.bound.specs.Orders.{Order, fetch}
use Rattle.bound.specs.Story.{Turn, turn_end, turn_had, turn_load, Story, story_end, story_turn}
use Rattle.bound.specs.Handler.{Looked, present, absent, look, Handling, resume, carry, handle}
use Rattle.bound.proofs.Story.{turn_few}

-- ---- one attempt: a page that is there, and one that is not
module _ (o : Order) (p : VirtualPage) (ps q : List VirtualPage) where
  pub look_here : p ∈ q → look o (p ∷ ps) q ≡ look o ps (o.touch p q)
  unfolding look
  look_here i = by (dec_in p q)
    where
      by : (d : Dec (p ∈ q)) → ite {C = Looked} d (look o ps (o.touch p q)) (absent p q) ≡ look o ps (o.touch p q)
      by (yes j) = refl
      by (no n) = absurd (n i)

  pub look_away : ¬ (p ∈ q) → look o (p ∷ ps) q ≡ absent p q
  unfolding look
  look_away n = by (dec_in p q)
    where
      by : (d : Dec (p ∈ q)) → ite {C = Looked} d (look o ps (o.touch p q)) (absent p q) ≡ absent p q
      by (yes j) = absurd (n j)
      by (no m) = refl

-- the list of resident pages by then
abbrev list_of : Looked → List VirtualPage
list_of (present q) = q
list_of (absent p q) = q

-- the pages are all there, or one that the demand has is missing
abbrev Found : Demand → List VirtualPage → Looked → Type 0
Found d ps (present q) = ps ⊆ q
Found d ps (absent p q) = (p ∈ pages_of d) × (¬ (p ∈ q))

found_more : (d : Demand) (p : VirtualPage) (ps : List VirtualPage) (z : Looked) → p ∈ list_of z → Found d ps z → Found d (p ∷ ps) z
found_more d p ps (present q) i f = cons-subset.1 (i, f)
found_more d p ps (absent x q) i f = f

record Looking (o : Order) (a : ℕ) (d : Demand) (ps q : List VirtualPage) (z : Looked) : Type 0 where
  back : (n : ℕ) (r : List VirtualPage) → Turn o a d (list_of z) n r → Turn o a d q n r
  stays : q ⊆ list_of z
  found : Found d ps z

looking : (o : Order) (a : ℕ) (d : Demand) (ps q : List VirtualPage) → ps ⊆ pages_of d → Looking o a d ps q (look o ps q)
unfolding look
looking o a d [] q s = record { back = λ n r t. t; stays = Subset-refl q; found = nil-subset q }
looking o a d (p ∷ ps) q s = go (dec_in p q) (looking o a d ps (o.touch p q) (cons-subset.0 s).1)
  where
    own : p ∈ pages_of d
    own = s p mem-cons_self

    go : (i : Dec (p ∈ q)) → Looking o a d ps (o.touch p q) (look o ps (o.touch p q))
        → Looking o a d (p ∷ ps) q (ite {C = Looked} i (look o ps (o.touch p q)) (absent p q))
    go (yes i) l =
        let stays : q ⊆ list_of (look o ps (o.touch p q)) = Subset-trans (o.stay p q) l.stays in
        let found : Found d (p ∷ ps) (look o ps (o.touch p q)) = found_more d p ps (look o ps (o.touch p q)) (stays p i) l.found in
        record { back = λ n r t. turn_had p own i (l.back n r t); stays = stays; found = found }
    go (no i) l = record { back = λ n r t. t; stays = Subset-refl q; found = (own, i) }

-- the page that is missing is one of the demand's
pub look_absent : (o : Order) (d : Demand) (q : List VirtualPage) (p : VirtualPage) (r : List VirtualPage)
    → look o (pages_of d) q ≡ absent p r → p ∈ pages_of d
look_absent o d q p r e = (subst (Found d (pages_of d)) e (looking o 0 d (pages_of d) q (Subset-refl (pages_of d))).found).0

-- ---- the attempts
-- they are a turn, and at their end the pages are resident, or each attempt has loaded
record Carried (o : Order) (a n : ℕ) (d : Demand) (q : List VirtualPage) (r : Handling) : Type 0 where
  turn : Turn o a d q r.loads r.left
  ends : (pages_of d ⊆ r.left) ⊎ (r.loads ≡ n)

carrying : (o : Order) (a n : ℕ) (d : Demand) (q : List VirtualPage) → Carried o a n d q (carry o a n d q)
unfolding carry
carrying o a zero d q = record { turn = turn_end; ends = inr refl }
carrying o a (suc n) d q = go (look o (pages_of d) q) (looking o a d (pages_of d) q (Subset-refl (pages_of d))) (λ p r. carrying o a n d (fetch a p r))
  where
    go : (z : Looked) → Looking o a d (pages_of d) q z
        → ((p : VirtualPage) (r : List VirtualPage) → Carried o a n d (fetch a p r) (carry o a n d (fetch a p r)))
        → Carried o a (suc n) d q (resume z (λ p r. carry o a n d (fetch a p r)))
    go (present r) l on = record { turn = l.back 0 r turn_end; ends = inl l.found }
    go (absent p r) l on =
        record {
          turn = l.back _ _ (turn_load p l.found.0 l.found.1 (on p r).turn);
          ends = ⊎_elim (λ (i : pages_of d ⊆ (carry o a n d (fetch a p r)).left). inl i)
              (λ (e : (carry o a n d (fetch a p r)).loads ≡ n). inr (ap suc e)) (on p r).ends;
        }

-- some instructions after others
pub handle_append : (o : Order) (a : ℕ) (ds es : List Demand) (q : List VirtualPage)
    → ((handle o a (ds ++ es) q).loads ≡ (handle o a ds q).loads + (handle o a es (handle o a ds q).left).loads)
    × ((handle o a (ds ++ es) q).left ≡ (handle o a es (handle o a ds q).left).left)
unfolding handle
handle_append o a [] es q = (sym (zero-add _), refl)
handle_append o a (d ∷ ds) es q =
    let t = handle_append o a ds es (carry o a 3 d q).left in
    (ap (λ (n : ℕ). (carry o a 3 d q).loads + n) t.0 ∙ sym (add_assoc _ _ _), t.1)

pub handle_story : (o : Order) (a : ℕ) (ds : List Demand) (q : List VirtualPage) → Story o a q ds (handle o a ds q).loads (handle o a ds q).left
unfolding handle
handle_story o a [] q = story_end
handle_story o a (d ∷ ds) q = story_turn (carrying o a 3 d q).turn (handle_story o a ds (carry o a 3 d q).left)

pub carry_turn : (o : Order) (a : ℕ) (d : Demand) (q : List VirtualPage) → Turn o a d q (carry o a 3 d q).loads (carry o a 3 d q).left
carry_turn o a d q = (carrying o a 3 d q).turn

at_most_two : (d : Demand) → length (pages_of d) ≤ 2
at_most_two (alone c) = omega arith
at_most_two (both c d) = omega arith

pub carried : (o : Order) (a : ℕ) → 2 ≤ a → (d : Demand) (q : List VirtualPage) → ((carry o a 3 d q).loads ≤ 2) × (pages_of d ⊆ (carry o a 3 d q).left)
carried o a enough d q =
    let few : (carry o a 3 d q).loads ≤ length (pages_of d) = turn_few d (omega (arith, at_most_two d)) (carry_turn o a d q) in
    let two : (carry o a 3 d q).loads ≤ 2 = omega (arith, at_most_two d) in
    (two, ⊎_elim (λ (i : pages_of d ⊆ (carry o a 3 d q).left). i) (λ (e : (carry o a 3 d q).loads ≡ 3). absurd (omega arith)) (carrying o a 3 d q).ends)
