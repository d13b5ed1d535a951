-- `name_end`: the name goes up to the first blank, or to the end.
use Rattle.std.proofs.Common.{rules, ◌-◌, length, drop}
use native.Mathlib.Omega.{arith}
use lib.ListN.{length-drop}
use lib.Seq.{take_all}
use Rattle.std.proofs.lemmas.Iterator.{YieldsList-from_slice}
use Rattle.std.proofs.lemmas.Iterator.Search.{position_from_yields_List}
use Rattle.notation.specs.Sums.{is_blank}
use Rattle.line.proofs.Names.{name_stops, name_ends}
use Rattle.line.proofs.name_end.Goals as goal

pub returns-in-Some : goal.returns-in-Some
returns-in-Some c =
    let a = c.args in
    let e = position_from_yields_List is_blank _ _ _ c.position.ensures.ran (YieldsList-from_slice (drop a.at a.s.now) (cc (take_all (length a.s.now - a.at) (drop a.at a.s.now) (omega (arith, length-drop a.at a.s.now))))) (λ x b q k. search rules) in
    name_stops a.s.now a.at c.requires c.position.result e c.in-Some.n c.in-Some.is

pub returns-in-None : goal.returns-in-None
returns-in-None c =
    let a = c.args in
    let e = position_from_yields_List is_blank _ _ _ c.position.ensures.ran (YieldsList-from_slice (drop a.at a.s.now) (cc (take_all (length a.s.now - a.at) (drop a.at a.s.now) (omega (arith, length-drop a.at a.s.now))))) (λ x b q k. search rules) in
    name_ends a.s.now a.at c.requires c.position.result e c.in-None.is
