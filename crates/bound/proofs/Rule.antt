-- Laws of accesses: the pages loaded are among those asked for, and two parts one after another.
use mathlib.Core.Path.{◌≡◌, refl, ap}
use mathlib.Core.List.{List, [], ◌∷◌, ◌++◌, mem-cons_self, mem-cons_of_mem, cons-subset, nil-subset}
use Prim.Native.Nat.{◌+◌}
use lib.ListN.{length-append}
use Rattle.model.specs.declared.VirtualPage.{VirtualPage}
use Rattle.bound.specs.Pages.{◌⊆◌}
use Rattle.bound.specs.Rule.{Ask, had, load, page_asked, asked, loaded, loads}

pub loaded_asked : (t : List Ask) → loaded t ⊆ asked t
loaded_asked [] = nil-subset []
loaded_asked (had q ∷ t) = λ p m. mem-cons_of_mem q (loaded_asked t p m)
loaded_asked (load q ∷ t) = cons-subset.1 (mem-cons_self, λ p m. mem-cons_of_mem q (loaded_asked t p m))

loaded_append : (s t : List Ask) → loaded (s ++ t) ≡ loaded s ++ loaded t
loaded_append [] t = refl
loaded_append (had q ∷ s) t = loaded_append s t
loaded_append (load q ∷ s) t = ap (λ (l : List VirtualPage). q ∷ l) (loaded_append s t)

pub loads_append : (s t : List Ask) → loads (s ++ t) ≡ loads s + loads t
loads_append s t = rw loaded_append (length-append (loaded s) (loaded t))

pub asked_append : (s t : List Ask) {k : List VirtualPage} → asked s ⊆ k → asked t ⊆ k → asked (s ++ t) ⊆ k
asked_append [] t f g = g
asked_append (x ∷ s) t f g = cons-subset.1 (f (page_asked x) mem-cons_self, asked_append s t (cons-subset.0 f).1 g)
