-- `list`: its three answers.
use mathlib.Core.Path.{sym, ◌∙◌}
use borrow.Author.Tests.{leb-true}
use Rattle.lister.proofs.Calls.{not_whole, no_room, done}
use Rattle.std.proofs.Common.{rules, tests}
use Rattle.lister.proofs.list.Goals as goal

pub returns-then-not-is_empty : goal.returns-then-not-is_empty
returns-then-not-is_empty c = let a = c.args in not_whole a.bytes.now a.out.now (λ e. search (rules, tests))

pub write-requires : goal.write-requires
write-requires c = leb-true _ _ (sym c.fits.ensures ∙ c.if-not-fits.false)

pub returns-then-not-fits : goal.returns-then-not-fits
returns-then-not-fits c =
    let a = c.args in
    no_room a.bytes.now a.out.now _ c.as_chunks.ensures.front (search (rules, tests)) (sym c.fits.ensures ∙ c.if-not-fits.true)

pub returns : goal.returns
returns c =
    let a = c.args in
    done a.bytes.now a.out.now _ c.as_chunks.ensures.front (search (rules, tests)) (sym c.fits.ensures ∙ c.if-not-fits.false) c.write.ensures
