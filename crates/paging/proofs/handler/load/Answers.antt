-- `handler::load`: the book advanced, the frame vacated, the page brought in.
use native.Mathlib.Omega.{arith}
use Rattle.paging.proofs.Ways.{loaded_steps}
use borrow.Author.Rules.{rules}
use Rattle.paging.proofs.handler.load.Goals as goal

pub bring_in-requires : goal.bring_in-requires
bring_in-requires c =
    (search rules, search rules, omega (arith, c.frame.ensures, c.requires.taken), search rules)

pub returns : goal.returns
returns c =
    loaded_steps _ _ _ _ _ _ _ _ c.vacate.ensures c.frame.ensures c.bring_in.ensures c.advanced-next.ensures
