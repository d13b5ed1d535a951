-- `named`: the row at the name's place, where it is of that name.
use mathlib.Core.Path.{◌≡◌, sym, ap, ◌∙◌}
use native.Mathlib.Omega.{arith}
use Rattle.std.proofs.Common.{rules, tests}
use Rattle.notation.specs.Line.{is_named}
use borrow.Author.Tests.{eqb-true}
use lib.ListN.{length}
use Rattle.laws.proofs.Choice.{and_right}
use Rattle.mnemonics.specs.Rows.{row_at, padded, place_of}
use Rattle.mnemonics.proofs.Places.{Fits, rows_long, there, not_there}
use Rattle.mnemonics.proofs.Formed.{is_formed}
use Rattle.mnemonics.proofs.named.Goals as goal

pub bounds-all_rows-place : goal.bounds-all_rows-place
bounds-all_rows-place c = omega (arith, rows_long c.all_rows.result.now c.all_rows.ensures.rows, c.place.ensures.1)

pub returns-then-eq-name : goal.returns-then-eq-name
returns-then-eq-name c =
    let name = c.args.name.now in
    let rs = c.all_rows.result.now in
    let k = c.place.result in
    let l : (row_at rs k).letters ≡ c.padded-letters.result = search (rules, tests) in
    let n : length c.name.result.now ≡ length name = eqb-true _ _ (and_right _ _ c.if-eq-name.true) in
    let e = there name rs c.all_rows.ensures.rows k c.place.ensures.1 (l ∙ c.padded-letters.ensures, ap length (sym c.name.ensures) ∙ n) in
    record { same = e; formed = is_formed (is_named name) (row_at rs k) e }

pub returns : goal.returns
returns c =
    let name = c.args.name.now in
    let rs = c.all_rows.result.now in
    let k = c.place.result in
    let e : place_of (padded name) ≡ k = sym (c.place.ensures.0 ∙ ap place_of c.padded-letters.ensures) in
    let not : Fits name (row_at rs k) → ⊥ = λ f.
    let l : (row_at rs k).letters ≡ c.padded-letters.result = f.0 ∙ sym c.padded-letters.ensures in
    let n : length c.name.result.now ≡ length name = ap length c.name.ensures ∙ f.1 in
    search (rules, tests) in
    record { same = not_there name rs c.all_rows.ensures.placed (rw e not); formed = tt }
