-- `fetched`: at a place, or not.
use mathlib.Core.Path.{refl}
use mathlib.Core.Bool.{true}
use Rattle.plaincpu.proofs.Ways.{fetches_by, fetches_not}
use Rattle.plaincpu.proofs.fetched.Goals as goal

pub returns-in-At : goal.returns-in-At
returns-in-At c = fetches_by _ _ _ c.in-At.ensures true refl

pub returns-in_default : goal.returns-in_default
returns-in_default c = fetches_not _ _ _ c.reach.ensures c.in_default.not-At
