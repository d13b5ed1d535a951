-- `handler::bring_in`: the page is copied, then its entry is written.
use mathlib.Core.Path.{ap}
use native.Mathlib.Omega.{arith}
use Rattle.paging.proofs.Ways.{into_steps}
use borrow.Author.Rules.{rules}
use Rattle.paging.proofs.handler.bring_in.Goals as goal

pub copy_in-requires : goal.copy_in-requires
copy_in-requires c = (
  omega (arith, ap (λ p. p.0) c.swap_of-from.ensures),
  omega (arith, ap (λ p. p.0) c.frame_at-to.ensures),
)

pub bring_entry-requires : goal.bring_entry-requires
bring_entry-requires c = (
  search rules,
  search rules,
  omega (arith, ap (λ p. p.0) c.frame_at-to.ensures),
)

pub returns : goal.returns
returns c =
    let a = c.args in
    into_steps a.s a.main.now a.swap.now a.f a.y _ c.frame_at-to.ensures _ c.swap_of-from.ensures _ _
    c.copy_in.ensures c.bring_entry.ensures
