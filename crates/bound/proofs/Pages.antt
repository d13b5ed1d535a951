-- Laws of sets of pages: inclusion and length. The file ends in the one law of counting, `no_more`: a list with no page twice is no longer
-- than a list that has all its pages.
use mathlib.Core.Path.{sym}
use mathlib.Core.Logic.Or
use mathlib.Core.Logic.Dec
use mathlib.Core.Logic.{◌≢◌, ◌↔◌, ite}
use mathlib.Core.List.{List, [], ◌∷◌, Mem-prop, dec_mem, mem-cons_self, mem-cons_of_mem, mem-cast, not-mem-nil, eq-or-mem_of_mem-cons, mem-insert_iff, mem-filter, Nodup-cons}
use Prim.Native.Nat.{suc, ◌≤◌, zero-le, suc-le-suc}
use native.Mathlib.Bridge.{le_prop}
use native.Mathlib.Omega.{arith}
use lib.ListN.{length}
use Rattle.model.specs.declared.VirtualPage.{VirtualPage}
use Rattle.bound.specs.Pages.{same_page, ◌∈◌, ◌⊆◌, NoTwice, hold, without}

-- ---- inclusion
pub hold_sub : (p : VirtualPage) (l : List VirtualPage) → hold p l ⊆ p ∷ l
unfolding hold
hold_sub p l q i = Or.elim Mem-prop ((mem-insert_iff same_page).0 i) (λ e. mem-cast e mem-cons_self) (mem-cons_of_mem p)

pub without_iff : (p : VirtualPage) (l : List VirtualPage) (q : VirtualPage) → (q ∈ without p l) ↔ ((q ∈ l) × (q ≢ p))
unfolding without
without_iff p l q = mem-filter (λ x. Dec.not (same_page x p))

pub without_sub : (p : VirtualPage) (l : List VirtualPage) → without p l ⊆ l
without_sub p l q i = ((without_iff p l q).0 i).0

-- ---- length
pub some_in : {p : VirtualPage} {l : List VirtualPage} → p ∈ l → 1 ≤ length l
some_in {l = []} i = absurd (not-mem-nil i)
some_in {l = x ∷ l} i = omega arith

pub hold_length : (p : VirtualPage) (l : List VirtualPage) → length (hold p l) ≤ suc (length l)
unfolding hold
hold_length p l = go (dec_mem same_page p l)
  where
    go : (d : Dec (p ∈ l)) → length (ite {C = List VirtualPage} d l (p ∷ l)) ≤ suc (length l)
    go (yes i) = omega arith
    go (no n) = omega arith

pub without_length : (p : VirtualPage) (l : List VirtualPage) → length (without p l) ≤ length l
unfolding without
without_length p [] = omega arith
without_length p (x ∷ l) = go (Dec.not (same_page x p)) (without_length p l)
  where
    go : (d : Dec (x ≢ p)) → length (without p l) ≤ length l
        → length (ite {C = List VirtualPage} d (x ∷ without p l) (without p l)) ≤ suc (length l)
    go (yes n) r = omega arith
    go (no e) r = omega arith

without_less : (p : VirtualPage) (l : List VirtualPage) → p ∈ l → suc (length (without p l)) ≤ length l
unfolding without
without_less p [] i = absurd (not-mem-nil i)
without_less p (x ∷ l) i = go (Dec.not (same_page x p)) (without_length p l) (without_less p l)
  where
    go : (d : Dec (x ≢ p)) → length (without p l) ≤ length l → (p ∈ l → suc (length (without p l)) ≤ length l)
        → suc (length (ite {C = List VirtualPage} d (x ∷ without p l) (without p l))) ≤ suc (length l)
    go (yes n) r less = Or.elim le_prop (eq-or-mem_of_mem-cons i) (λ e. absurd (n (sym e))) (λ j. suc-le-suc (less j))
    go (no e) r less = suc-le-suc r

-- "no page twice" and "all its pages" bound the number: the proof takes the pages of l out of k one after another
pub no_more : (l k : List VirtualPage) → NoTwice l → l ⊆ k → length l ≤ length k
no_more [] k n s = zero-le
no_more (x ∷ l) k n s =
    let c : (¬ (x ∈ l)) × NoTwice l = Nodup-cons.0 n in
    let inside : l ⊆ without x k = λ q i. (without_iff x k q).1 (s q (mem-cons_of_mem x i), λ e. c.0 (mem-cast (sym e) i)) in
    omega (arith, without_less x k (s x mem-cons_self), no_more l (without x k) c.1 inside)
