-- `marks::mark_for`: the entry is valid, or it is not.
use mathlib.Core.Path.{ap}
use native.Mathlib.Omega.{arith}
use Rattle.model.specs.declared.VirtualPage.{VirtualPage}
use Rattle.host.proofs.Where.{in_frames, mark_main, mark_swap}
use borrow.Author.Rules.{rules}
use Rattle.host.proofs.marks.mark_for.Goals as goal

pub entry-e-requires : goal.entry-e-requires
entry-e-requires c = (c.requires.0.fit, omega (arith, ap (λ (v : VirtualPage). v.0) c.page_of.ensures))

pub returns-then-e-ne1 : goal.returns-then-e-ne1
returns-then-e-ne1 c =
    mark_swap _ _ _ _ c.page_of.ensures _ c.entry-e.ensures _ (search rules)

pub frame_in-requires : goal.frame_in-requires
frame_in-requires c =
    (in_frames _ _ _ _ c.page_of.ensures _ c.entry-e.ensures c.requires.0 c.requires.1 (search rules) _ c.ppx.ensures).0

pub with_mark-requires : goal.with_mark-requires
with_mark-requires c =
    omega (
      arith,
      c.frame_in.ensures,
      c.requires.0.fit.frames_most,
      in_frames _ _ _ _ c.page_of.ensures _ c.entry-e.ensures c.requires.0 c.requires.1 (search rules) _ c.ppx.ensures,
    )

pub returns : goal.returns
returns c =
    mark_main _ _ _ _ c.page_of.ensures _ c.entry-e.ensures _ _ (search rules) _ c.ppx.ensures _ c.frame_in.ensures
    c.with_mark.ensures
