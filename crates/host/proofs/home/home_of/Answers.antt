-- `home::home_of`: the entry is valid, or it is not.
use mathlib.Core.Path.{ap}
use native.Mathlib.Omega.{arith}
use Rattle.model.specs.declared.VirtualPage.{VirtualPage}
use Rattle.host.proofs.Where.{home_swap}
use Rattle.host.proofs.home.home_of.Goals as goal

pub entry-e-requires : goal.entry-e-requires
entry-e-requires c = (c.requires.0, omega (arith, ap (λ (v : VirtualPage). v.0) c.page_of-x.ensures))

pub swap_of-requires : goal.swap_of-requires
swap_of-requires c =
    omega (arith, ap (λ (v : VirtualPage). v.0) c.page_of-x.ensures)

pub returns : goal.returns
returns c =
    home_swap _ _ _ _ c.page_of-x.ensures _ c.entry-e.ensures _ (λ v. omega (arith, v)) _ c.swap_of.ensures c.swap_at.ensures
