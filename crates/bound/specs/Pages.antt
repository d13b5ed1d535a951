-- Sets of virtual pages: the library's lists, with its membership, inclusion and lists in which nothing stands twice.
use Rattle.std.specs.Prelude.{◌≡◌}
use Rattle.std.proofs.Common.{ap}
use Rattle.std.proofs.Math.Logic.Dec
use mathlib.Core.List.{List, Mem, Subset, Nodup, dec_mem, insert, filter}
use Rattle.std.proofs.Math.Decide.{ℕ_discrete}
use Rattle.model.specs.Pages.{virtual}
use Rattle.model.specs.declared.VirtualPage.{VirtualPage}

-- two virtual pages are one exactly when their numbers are
unfoldable pub same_page : (x y : VirtualPage) → Dec (x ≡ y)
same_page x y = at (ℕ_discrete x.0 y.0)
  where
    at : Dec (x.0 ≡ y.0) → Dec (x ≡ y)
    at (yes e) = yes (ap virtual e)
    at (no n) = no (λ e. n (ap (λ (p : VirtualPage). p.0) e))

infix 40 ◌∈◌ ◌⊆◌
-- page p stands in the list
abbrev pub ◌∈◌ : VirtualPage → List VirtualPage → Type 0
p ∈ l = Mem p l

-- each page of the first list stands in the second
abbrev pub ◌⊆◌ : List VirtualPage → List VirtualPage → Type 0
l ⊆ k = Subset l k

-- no page stands twice in the list
abbrev pub NoTwice : List VirtualPage → Type 0
NoTwice l = Nodup l

-- does page p stand in the list?
unfoldable pub dec_in : (p : VirtualPage) (l : List VirtualPage) → Dec (p ∈ l)
dec_in p l = dec_mem same_page p l

-- the list with page p put in, if it is not there yet
unfoldable pub hold : VirtualPage → List VirtualPage → List VirtualPage
hold p l = insert same_page p l

-- the list with page p taken out
unfoldable pub without : VirtualPage → List VirtualPage → List VirtualPage
without p l = filter (λ x. Dec.not (same_page x p)) l
