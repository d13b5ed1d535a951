-- `handler::vacate`: a frame is free, or a page leaves.
use mathlib.Core.Path.{sym, subst}
use Prim.Native.Nat.{ℕ, ◌<◌}
use native.Mathlib.Omega.{arith}
use Rattle.model.specs.Frames.{page_in}
use Rattle.paging.proofs.Ways.{vacated_free, vacated_full}
use borrow.Author.Rules.{rules}
use Rattle.paging.proofs.handler.vacate.Goals as goal

pub returns-then-b-s : goal.returns-then-b-s
returns-then-b-s c = vacated_free _ _ _ (search rules)

pub bounds-b-i : goal.bounds-b-i
bounds-b-i c =
    omega (arith, c.frame-f.ensures, c.requires.taken, c.requires.fit.frames_most)

pub marked-requires : goal.marked-requires
marked-requires c =
    omega (arith, c.frame-f.ensures, c.requires.taken, c.requires.fit.frames_most)

pub put_out-requires : goal.put_out-requires
put_out-requires c =
    let f = c.frame-f.ensures in (
      search rules,
      search rules,
      omega (arith, f, c.requires.taken),
      subst (λ (k : ℕ). (page_in c.args.b k).0 < c.args.s.ptl) (sym f) (c.requires.leaves (search rules)),
    )

pub returns : goal.returns
returns c =
    vacated_full _ _ _ _ c.frame-f.ensures (search rules) _ (omega arith) _ c.marked.ensures _ c.put_out.ensures
