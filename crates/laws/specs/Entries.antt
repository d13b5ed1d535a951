-- Where an entry says that its page is (`Place`, `SamePlace`); and what a page load keeps of every entry (`SameKept`).
use Rattle.std.specs.Prelude.{◌≡◌, Bool, ℕ, ◌<◌}
use Rattle.model.specs.Table.{entry, ppx, valid, kept}
use Rattle.model.specs.State.{State}
use Rattle.model.specs.declared.VirtualPage.{VirtualPage}

-- the entry e has ppx n and v b
pub record Place (n : ℕ) (b : Bool) (e : ℕ) : Type 0 where
  pub names : (ppx e).0 ≡ n
  pub there : valid e ≡ b

-- two entries have the same ppx and v
pub record SamePlace (e e' : ℕ) : Type 0 where
  pub names : ppx e' ≡ ppx e
  pub there : valid e' ≡ valid e

-- from p to q, bits 11–1 of every entry of the table stay
abbrev pub SameKept : State → State → Type 0
SameKept p q =
    (x : VirtualPage) → x.0 < p.machine.shape.ptl
    → kept (entry p.machine.shape q.memory.main x) ≡ kept (entry p.machine.shape p.memory.main x)
