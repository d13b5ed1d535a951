-- `clean::clean`: by the mark, or by the pages.
use mathlib.Core.Path.{ap}
use native.Mathlib.Omega.{arith}
use Rattle.sound.proofs.Pages.{by_mark, by_pages}
use Rattle.sound.proofs.clean.clean.Goals as goal

pub returns-then-marked : goal.returns-then-marked
returns-then-marked c =
    let a = c.args in
    by_mark a.s a.main.now a.swap.now a.marks a.f a.x _ c.marked.ensures c.if-marked.true

pub swap_of-requires : goal.swap_of-requires
swap_of-requires c = omega (arith, ap (λ x. x.0) c.virtual_page.ensures)

pub same_pages-requires : goal.same_pages-requires
same_pages-requires c =
    let x = ap (λ p. p.0) c.virtual_page.ensures in
    let q = ap (λ p. p.0) c.swap_of.ensures in
    let p = ap (λ p. p.0) c.frame_at.ensures in
    (omega (arith, p), omega (arith, x, q))

pub returns : goal.returns
returns c =
    let a = c.args in
    by_pages a.s a.main.now a.swap.now a.marks a.f a.x _ c.marked.ensures c.if-marked.false _ c.frame_at.ensures _
    c.virtual_page.ensures _ c.swap_of.ensures _ c.same_pages.ensures
