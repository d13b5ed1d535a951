-- Whatever the order of leaving, the rule is kept (`sparing`).
use mathlib.Core.Path.{◌≡◌, refl, sym, ◌∙◌, ap, subst}
use mathlib.Core.Logic.Or
use mathlib.Core.HLevel.{⊥_prop}
use mathlib.Core.List.{List, [], ◌∷◌, ◌++◌, nil-subset, cons-subset, mem-cons_self, mem-cons_of_mem, mem-append_left, mem-cast, not-mem-nil, eq-or-mem_of_mem-cons, Nodup-nil, Nodup-cons, Subset-trans}
use Prim.Native.Nat.{ℕ, suc, ◌+◌, ◌-◌, ◌≤◌}
use native.Mathlib.Omega.{arith}
use lib.ListN.{length, take}
use lib.Seq.{take-append-add}
use Rattle.model.specs.declared.VirtualPage.{VirtualPage}
use Rattle.bound.specs.Pages.{◌∈◌, ◌⊆◌, NoTwice}
use Rattle.bound.specs.Rule.{Ask, had, load, asked, loaded, Sparing}
use Rattle.bound.specs.Orders.{Order, fetch, Follows}
use Rattle.bound.proofs.Pages.{no_more}

module _ (o : Order) (a : ℕ) where
  follows_later : (q : List VirtualPage) (s t : List Ask) → Follows o a q (s ++ t) → (r : List VirtualPage) × Follows o a r t
  follows_later q [] t f = (q, f)
  follows_later q (had p ∷ s) t f = follows_later (o.touch p q) s t f.1
  follows_later q (load p ∷ s) t f = follows_later (fetch a p q) s t f.1

  follows_first : (q : List VirtualPage) (s t : List Ask) → Follows o a q (s ++ t) → Follows o a q s
  follows_first q [] t f = tt
  follows_first q (had p ∷ s) t f = (f.0, follows_first (o.touch p q) s t f.1)
  follows_first q (load p ∷ s) t f = (f.0, follows_first (fetch a p q) s t f.1)

  -- a front of the list that has room with the new page is kept by a load
  fetch_front : (p : VirtualPage) (l r : List VirtualPage) → suc (length l) ≤ a → (s : List VirtualPage) × (fetch a p (l ++ r) ≡ p ∷ (l ++ s))
  fetch_front p l r fits =
      let n : a ≡ length (p ∷ l) + (a - length (p ∷ l)) = omega arith in
      (take (a - length (p ∷ l)) r, ap (λ (k : ℕ). take k (p ∷ (l ++ r))) n ∙ take-append-add (p ∷ l) r (a - length (p ∷ l)))

  module _ (k : List VirtualPage) (few : length k ≤ a) where
    -- no page is loaded twice, and none of the front l is loaded
    record Once (l : List VirtualPage) (t : List Ask) : Type 0 where
      single : NoTwice (loaded t)
      apart : (p : VirtualPage) → p ∈ l → ¬ (p ∈ loaded t)

    -- While only pages of k are asked for, the list has a front l of pages of k, none twice, with all that was loaded: a page that is
    -- loaded was not in l, and as l with it has at most a pages, it stays whole.
    once : (t : List Ask) (q l r : List VirtualPage) → q ≡ l ++ r → NoTwice l → l ⊆ k → asked t ⊆ k → Follows o a q t → Once l t
    once [] q l r e n s w f = record { single = Nodup-nil; apart = λ p i. not-mem-nil }
    once (had p ∷ t) q l r e n s w f =
        let g : (z : List VirtualPage) × (o.touch p (l ++ r) ≡ o.touch p l ++ z) = o.front p l r in
        let inside : o.touch p l ⊆ k = Subset-trans (o.only p l) (cons-subset.1 (w p mem-cons_self, s)) in
        let c : Once (o.touch p l) t =
        once t (o.touch p q) (o.touch p l) g.0 (ap (o.touch p) e ∙ g.1) (o.single p l n) inside (cons-subset.0 w).1 f.1 in
        record { single = c.single; apart = λ x i. c.apart x (o.stay p l x i) }
    once (load p ∷ t) q l r e n s w f =
        let new : ¬ (p ∈ l) = λ i. f.0 (subst (λ (z : List VirtualPage). p ∈ z) (sym e) (mem-append_left r i)) in
        let inside : p ∷ l ⊆ k = cons-subset.1 (w p mem-cons_self, s) in
        let single : NoTwice (p ∷ l) = Nodup-cons.1 (new, n) in
        let g : (z : List VirtualPage) × (fetch a p (l ++ r) ≡ p ∷ (l ++ z)) = fetch_front p l r (omega (arith, no_more (p ∷ l) k single inside)) in
        let c : Once (p ∷ l) t = once t (fetch a p q) (p ∷ l) g.0 (ap (fetch a p) e ∙ g.1) single inside (cons-subset.0 w).1 f.1 in
        record {
          single = Nodup-cons.1 (c.apart p mem-cons_self, c.single);
          apart = λ x i j. Or.elim ⊥_prop (eq-or-mem_of_mem-cons j) (λ y. new (mem-cast (sym y) i)) (c.apart x (mem-cons_of_mem p i));
        }

  -- a part of the accesses begins with an empty front
  pub sparing : (q : List VirtualPage) (t : List Ask) → Follows o a q t → Sparing a t
  unfolding Sparing
  sparing q t f u v w e k few c =
      let g : (r : List VirtualPage) × Follows o a r (v ++ w) = follows_later q u (v ++ w) (subst (Follows o a q) e f) in
      (once k few v g.0 [] g.0 refl Nodup-nil (nil-subset k) c (follows_first g.0 v w g.1)).single
