-- The pages of an instruction are held together exactly where all of them are held.
use mathlib.Core.Logic.{◌↔◌}
use mathlib.Core.List.{List, nil-subset, cons-subset, mem-cons_self, mem-cons_of_mem}
use Rattle.model.specs.Order.{Demand, alone, both}
use Rattle.model.specs.declared.VirtualPage.{VirtualPage}
use Rattle.bound.specs.Pages.{◌⊆◌}
use Rattle.bound.specs.Schedule.{Holds}
use Rattle.bound.specs.Rule.{pages_of}

pub holds_iff : (d : Demand) {held : List VirtualPage} → Holds held d ↔ (pages_of d ⊆ held)
holds_iff (alone c) {held} = (λ i. cons-subset.1 (i, nil-subset held), λ s. s c mem-cons_self)
holds_iff (both c d) {held} = (
  λ i. cons-subset.1 (i.0, cons-subset.1 (i.1, nil-subset held)),
  λ s. (s c mem-cons_self, s d (mem-cons_of_mem c mem-cons_self)),
)
