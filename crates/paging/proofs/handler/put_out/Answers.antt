-- `handler::put_out`: the page is copied or not, then its entry is written.
use mathlib.Core.Path.{ap, ◌∙◌}
use Rattle.paging.proofs.handler.put_out.Goals.{then-copied, else-copied}
use native.Mathlib.Omega.{arith}
use Rattle.paging.proofs.Ways.{out_copied, out_left}
use Rattle.paging.proofs.handler.put_out.Goals as goal

pub copy_out-requires : goal.copy_out-requires
copy_out-requires c = (
  omega (arith, ap (λ p. p.0) c.frame_at-from.ensures),
  omega (arith, ap (λ p. p.0) c.swap_of-to.ensures),
)

pub returns : goal.returns
returns c =
    let a = c.args in
    elim c.if-copied.branch [
      | then-copied w ↦ out_copied a.s a.main.now a.swap.now a.f a.x _ w.frame_at-from.ensures _ w.swap_of-to.ensures a.copied w.if-copied.true _ _
          (w.swap-is ∙ w.copy_out.ensures) c.put_out_entry.ensures
      | else-copied w ↦ out_left a.s a.main.now a.swap.now a.copied a.f a.x w.if-copied.false _ _ w.swap-is c.put_out_entry.ensures
    ]
