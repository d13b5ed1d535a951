-- `find`: the place of the first in the part, or the part's length.
use Prim.Native.Nat.{◌-◌}
use native.Mathlib.Omega.{arith}
use Rattle.std.proofs.Common.{eqb, ◌∙◌, rules, tests}
use Rattle.std.proofs.lemmas.Iterator.{YieldsList-from_slice}
use Rattle.std.proofs.lemmas.Iterator.Search.{position_from_yields_List}
use Rattle.std.proofs.lemmas.Slice.{between_is}
use Rattle.text.specs.Scan.{slice}
use Rattle.text.proofs.Finding.{found_or, position_found, length-slice, position_inside}
use Rattle.text.proofs.scan.find.Goals as goal

pub returns-clause-place : goal.returns-clause-place
unfolding slice
returns-clause-place c =
    let a = c.args in
    let part = slice a.from a.to a.s.now in
    let p =
    position_from_yields_List (λ x. eqb x a.b) _ _ c.position.result c.position.ensures.ran (YieldsList-from_slice part (c.iter.ensures.rest ∙ between_is a.s.now a.from a.to)) (λ x b q k. search (rules, tests))
    in let u = found_or _ _ (a.to - a.from) p (position_inside a.b part) (length-slice a.s.now a.from a.to (omega arith) (omega arith)) in
    omega (arith, c.unwrap_or.ensures ∙ u ∙ position_found a.b part)
