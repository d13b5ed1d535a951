-- The rule from which the bound follows, with no word of frames or of an order of leaving: while at most a different pages are asked for,
-- none is loaded twice. proofs/Orders shows who keeps it, proofs/Competitive what it is worth.
use Rattle.std.specs.Prelude.{◌≡◌, List, [], ◌∷◌, ◌++◌, map, ℕ, ◌≤◌, length}
use Rattle.model.specs.Order.{Demand, alone, both}
use Rattle.model.specs.declared.VirtualPage.{VirtualPage}
use Rattle.bound.specs.Pages.{◌⊆◌, NoTwice}

-- One access of the machine to a page: it was resident, or it was missing and is loaded.
pub data Ask : Type 0 where
  had : VirtualPage → Ask
  load : VirtualPage → Ask

abbrev pub page_asked : Ask → VirtualPage
page_asked (had p) = p
page_asked (load p) = p

-- the pages asked for, in order
abbrev pub asked : List Ask → List VirtualPage
asked t = map page_asked t

-- the pages loaded, in order
abbrev pub loaded : List Ask → List VirtualPage
loaded [] = []
loaded (had p ∷ t) = loaded t
loaded (load p ∷ t) = p ∷ loaded t

-- how many pages are loaded
abbrev pub loads : List Ask → ℕ
loads t = length (loaded t)

-- The rule: in every part v of the accesses t in which at most a different pages are asked for (some k of at most a pages has them all),
-- no page is loaded twice.
unfoldable pub Sparing : ℕ → List Ask → Type 0
Sparing a t = (u v w : List Ask) → t ≡ u ++ (v ++ w) → (k : List VirtualPage) → length k ≤ a → asked v ⊆ k → NoTwice (loaded v)

-- the pages of a demand
abbrev pub pages_of : Demand → List VirtualPage
pages_of (alone c) = c ∷ []
pages_of (both c d) = c ∷ d ∷ []

-- all the pages that the instructions need
abbrev pub pages_in : List Demand → List VirtualPage
pages_in [] = []
pages_in (d ∷ ds) = pages_of d ++ pages_in ds

-- The accesses t are those of the instructions ds, in order: each instruction asks for its own pages only, as often as it likes.
pub data Serving : List Demand → List Ask → Type 0 where
  idle : Serving [] []
  turn : {d : Demand} {ds : List Demand} {t : List Ask} (s : List Ask) → asked s ⊆ pages_of d → Serving ds t → Serving (d ∷ ds) (s ++ t)
