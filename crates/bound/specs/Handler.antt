-- The handler in the large, on the list of resident pages alone: "load the page, begin the attempt anew".
use Rattle.std.proofs.Math.Logic.{ite}
use Rattle.std.specs.Prelude.{List, [], ◌∷◌, ℕ, zero, suc, ◌+◌}
use Rattle.model.specs.Order.{Demand}
use Rattle.model.specs.declared.VirtualPage.{VirtualPage}
use Rattle.bound.specs.Pages.{dec_in}
use Rattle.bound.specs.Rule.{pages_of}
use Rattle.bound.specs.Orders.{Order, fetch}

-- What an attempt comes to: every page was there, or one is missing; with the list of resident pages by then.
pub data Looked : Type 0 where
  present : List VirtualPage → Looked
  absent : VirtualPage → List VirtualPage → Looked

-- an attempt asks for the pages one after another
unfoldable pub look : Order → List VirtualPage → List VirtualPage → Looked
look o [] q = present q
look o (p ∷ ps) q = ite {C = Looked} (dec_in p q) (look o ps (o.touch p q)) (absent p q)

-- how many pages were loaded, and the list of resident pages afterwards
pub record Handling : Type 0 where
  pub loads : ℕ
  pub left : List VirtualPage

-- a missing page is loaded, and another attempt follows
abbrev pub resume : Looked → (VirtualPage → List VirtualPage → Handling) → Handling
resume (present q) again = record { loads = 0; left = q }
resume (absent p q) again = record { loads = suc (again p q).loads; left = (again p q).left }

-- an instruction, in at most n attempts
unfoldable pub carry : Order → ℕ → ℕ → Demand → List VirtualPage → Handling
carry o a zero d q = record { loads = 0; left = q }
carry o a (suc n) d q = resume (look o (pages_of d) q) (λ p r. carry o a n d (fetch a p r))

-- some instructions in their order: three attempts at each are enough
unfoldable pub handle : Order → ℕ → List Demand → List VirtualPage → Handling
handle o a [] q = record { loads = 0; left = q }
handle o a (d ∷ ds) q =
    let r : Handling = carry o a 3 d q in
    record { loads = r.loads + (handle o a ds r.left).loads; left = (handle o a ds r.left).left }
