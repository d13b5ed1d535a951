-- What a machine shows so that the bound holds of it: a story of its accesses, instruction by instruction.
use Rattle.std.specs.Prelude.{List, [], ◌∷◌, ℕ, suc, ◌+◌}
use Rattle.model.specs.Order.{Demand}
use Rattle.model.specs.declared.VirtualPage.{VirtualPage}
use Rattle.bound.specs.Pages.{◌∈◌}
use Rattle.bound.specs.Rule.{pages_of}
use Rattle.bound.specs.Orders.{Order, fetch}

-- One instruction with the demand d, or a part of one: from the list q of resident pages to the list r, with n loads. It asks only for
-- pages of d; one that is resident it has, one that is missing is loaded.
pub data Turn (o : Order) (a : ℕ) (d : Demand) : List VirtualPage → ℕ → List VirtualPage → Type 0 where
  turn_end : {q : List VirtualPage} → Turn o a d q 0 q
  turn_had : {q r : List VirtualPage} {n : ℕ} (p : VirtualPage) → p ∈ pages_of d → p ∈ q → Turn o a d (o.touch p q) n r → Turn o a d q n r
  turn_load : {q r : List VirtualPage} {n : ℕ} (p : VirtualPage) → p ∈ pages_of d → ¬ (p ∈ q)
      → Turn o a d (fetch a p q) n r → Turn o a d q (suc n) r

-- The instructions ds in their order, with n loads.
pub data Story (o : Order) (a : ℕ) : List VirtualPage → List Demand → ℕ → List VirtualPage → Type 0 where
  story_end : {q : List VirtualPage} → Story o a q [] 0 q
  story_turn : {q r z : List VirtualPage} {d : Demand} {ds : List Demand} {n k : ℕ}
      → Turn o a d q n r → Story o a r ds k z → Story o a q (d ∷ ds) (n + k) z
