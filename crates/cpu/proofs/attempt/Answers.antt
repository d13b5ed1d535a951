-- `attempt`: DPC misaligned, or the word at its place is obeyed.
use mathlib.Core.Path.{refl}
use mathlib.Core.Bool.{false}
use Rattle.model.specs.Attempt.{word, attempt}
use Rattle.cpu.specs.Reach.{after}
use Rattle.cpu.proofs.Ways.{inside, reach_odd, reach_even, transfers}
use Rattle.cpu.proofs.CodePages.{covered}
use borrow.Author.Rules.{rules}
use Rattle.cpu.proofs.attempt.Goals as goal

pub returns-then-dpc-ne0 : goal.returns-then-dpc-ne0
unfolding attempt after
returns-then-dpc-ne0 c = transfers _ _ _ _ false word _ _ _ (reach_odd 4 _ _ (search rules))

pub attempt_at-requires : goal.attempt_at-requires
attempt_at-requires c =
    let at = reach_even 4 _ _ (search rules) _ (covered _ _ _ c.requires.1 _ (search rules) c.requires.2 _ c.main_at.ensures) _ refl in
    (c.requires.0, at, inside _ _ c.requires.0 false word _ _ at _ refl)
