-- `seats::frames_seated`: the first f pages are in the table, and seated.
use mathlib.Core.Path.{◌≡◌, sym, ap}
use borrow.Author.Tests.{eqb-true, not-false}
use Rattle.model.specs.Pages.{frame_at}
use Rattle.model.specs.Table.{ppx}
use native.Mathlib.Omega.{arith}
use Rattle.sound.proofs.Loops.{none_yet, one_more, all_passed}
use Rattle.sound.proofs.Frame.{both_pass, page_within, seat_there}
use borrow.Author.Rules.{rules}
use Rattle.sound.proofs.seats.frames_seated.Goals as goal

pub loop-f-init : goal.loop-f-init
loop-f-init c = (none_yet _, none_yet _)

pub entry-e-requires : goal.entry-e-requires
entry-e-requires c = (search rules, omega (arith, ap (λ p. p.0) c.virtual_page.ensures))

pub loop-f-preserved : goal.loop-f-preserved
loop-f-preserved c =
    let a = c.args in
    let i = c.loop-f.f in
    let e : (ppx c.entry-e.result).0 ≡ (frame_at a.s i).0 =
    omega (arith, ap (λ p. p.0) c.ppx.ensures, eqb-true _ _ (not-false _ (sym c.if-ne.ensures)), ap (λ p. p.0) c.frame_at.ensures) in (
      one_more _ _ c.loop-f.invariant.0 (page_within a.s a.used a.held.now a.main.now i (search rules)),
      one_more _ _ c.loop-f.invariant.1 (seat_there a.s a.used a.held.now a.main.now i _ c.virtual_page.ensures _ c.entry-e.ensures (omega arith) e),
    )

pub returns : goal.returns
returns c =
    let a = c.args in
    λ hand marks. both_pass a.s a.used a.held.now a.main.now (all_passed _ _ _ c.loop-f.invariant.0 (search rules) (search rules)) (all_passed _ _ _ c.loop-f.invariant.1 (search rules) (search rules))
