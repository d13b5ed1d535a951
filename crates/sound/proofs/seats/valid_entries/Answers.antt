-- `seats::valid_entries`: n of the first x entries are valid.
use mathlib.Core.Path.{sym, ap}
use native.Mathlib.Omega.{arith}
use Rattle.sound.proofs.Count.{count_none, valid_next, valid_all}
use borrow.Author.Rules.{rules}
use Rattle.sound.proofs.seats.valid_entries.Goals as goal

pub loop-x-init : goal.loop-x-init
loop-x-init c = (search rules, sym (count_none _))

pub entry-requires : goal.entry-requires
entry-requires c = (search rules, omega (arith, ap (λ p. p.0) c.virtual_page.ensures))

pub overflow_add-n : goal.overflow_add-n
overflow_add-n c = omega arith

pub loop-x-preserved : goal.loop-x-preserved
loop-x-preserved c =
    let a = c.args in
    (omega arith, valid_next a.s a.main.now _ _ c.loop-x.invariant.1 _ c.virtual_page.ensures _ c.entry.ensures)

pub returns : goal.returns
returns c =
    let a = c.args in
    valid_all a.s a.main.now _ _ c.loop-x.invariant.1 (search rules) (search rules)
