-- `first_line`: it goes up to the first newline, or is the whole text.
use Rattle.std.proofs.Common.{rules, tests, eqb}
use Rattle.std.proofs.lemmas.Iterator.{YieldsList-from_slice}
use Rattle.std.proofs.lemmas.Iterator.Search.{position_from_yields_List}
use native.Mathlib.Omega.{arith}
use Rattle.assembler.proofs.Lines.{no_text, first_stops, first_ends}
use Rattle.assembler.proofs.first_line.Goals as goal

pub returns-then-is_empty : goal.returns-then-is_empty
returns-then-is_empty c = no_text c.args.text.now (search rules)

pub returns-in-Some : goal.returns-in-Some
returns-in-Some c =
    let l = c.args.text.now in
    let e = position_from_yields_List (λ b. eqb b 10) _ _ _ c.position.ensures.ran (YieldsList-from_slice l cc) (λ x b q k. search (rules, tests)) in
    first_stops l (search (rules, arith)) c.position.result e c.in-Some.n c.in-Some.is

pub returns-in-None : goal.returns-in-None
returns-in-None c =
    let l = c.args.text.now in
    let e = position_from_yields_List (λ b. eqb b 10) _ _ _ c.position.ensures.ran (YieldsList-from_slice l cc) (λ x b q k. search (rules, tests)) in
    first_ends l (search (rules, arith)) c.position.result e c.in-None.is
