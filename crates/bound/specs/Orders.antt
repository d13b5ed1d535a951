-- The order of leaving is a choice. The resident pages stand in a list, the one that is to leave last at the front; a load puts its page
-- at the front, and the last one leaves if there are more than a. An order says what an access to a resident page does to the list.
use Rattle.std.specs.Prelude.{◌≡◌, refl, ℕ, take}
use mathlib.Core.List.{List, [], ◌∷◌, ◌++◌, mem-cons_of_mem}
use Rattle.model.specs.declared.VirtualPage.{VirtualPage}
use Rattle.bound.specs.Pages.{◌∈◌, ◌⊆◌, NoTwice}
use Rattle.bound.specs.Rule.{Ask, had, load}

-- An order of leaving: what an access to the resident page p does to the list, and the laws that the rule needs. What stood in front
-- stands in front, as if it were alone; no page goes; none comes but p; and none stands twice if none did.
pub record Order : Type 0 where
  pub touch : VirtualPage → List VirtualPage → List VirtualPage
  pub front : (p : VirtualPage) (l r : List VirtualPage) → (s : List VirtualPage) × (touch p (l ++ r) ≡ touch p l ++ s)
  pub stay : (p : VirtualPage) (q : List VirtualPage) → q ⊆ touch p q
  pub only : (p : VirtualPage) (q : List VirtualPage) → touch p q ⊆ p ∷ q
  pub single : (p : VirtualPage) (q : List VirtualPage) → NoTwice q → NoTwice (touch p q)

-- "So pages leave in the order of arrival": an access changes nothing.
abbrev pub first_come : Order
first_come = record {
  touch = λ p q. q;
  front = λ p l r. (r, refl);
  stay = λ p q x i. i;
  only = λ p q x i. mem-cons_of_mem p i;
  single = λ p q n. n;
}

-- the load of a missing page with a frames
abbrev pub fetch : ℕ → VirtualPage → List VirtualPage → List VirtualPage
fetch a p q = take a (p ∷ q)

-- the accesses t from the list q on are told truly: what is called resident is so, and only what is missing is loaded
abbrev pub Follows : Order → ℕ → List VirtualPage → List Ask → Type 0
Follows o a q [] = Unit {0}
Follows o a q (had p ∷ t) = (p ∈ q) × Follows o a (o.touch p q) t
Follows o a q (load p ∷ t) = (¬ (p ∈ q)) × Follows o a (fetch a p q) t
