-- Two good machines of one shape have memories of one length; a load keeps all three.
use mathlib.Core.Path.{◌≡◌, refl, sym, ap, ◌∙◌}
use mathlib.Core.Bool.{false}
use Prim.Native.Nat.{◌+◌, ◌*◌, ◌<◌}
use Rattle.model.specs.Table.{entry, valid}
use Rattle.model.specs.State.{State}
use Rattle.model.specs.Handler.{load}
use Rattle.model.specs.declared.Shape.{Shape}
use Rattle.model.specs.declared.VirtualPage.{VirtualPage}
use Rattle.laws.specs.Good.{Good}
use Rattle.laws.specs.Mapped.{SameSize}
use Rattle.laws.proofs.Load.{load_good}

pub same_size : (p q : State) → Good p → Good q → q.machine.shape ≡ p.machine.shape → SameSize p q
same_size p q g h e = record {
  shape = e;
  main_long = h.fit.main_long ∙ ap (λ (s : Shape). 4096 * s.pages) e ∙ sym g.fit.main_long;
  swap_long = h.whole ∙ ap (λ (s : Shape). 4096 * (s.sbase + s.ptl)) e ∙ sym g.whole;
}

pub load_size : (p : State) → Good p → (y : VirtualPage) → y.0 < p.machine.shape.ptl
    → valid (entry p.machine.shape p.memory.main y) ≡ false → SameSize p (load p y)
unfolding load
load_size p g y hy hv = same_size p (load p y) g (load_good p g y hy hv) refl
