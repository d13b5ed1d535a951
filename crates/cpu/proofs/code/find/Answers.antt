-- `code::find`: the page is read, or no page is found.
use mathlib.Core.Path.{refl}
use Rattle.cpu.proofs.CodePages.{nowhere, in_table, stands}
use borrow.Author.Rules.{rules}
use Rattle.cpu.proofs.code.find.Goals as goal

pub entry-requires : goal.entry-requires
entry-requires c =
    (search rules, in_table _ _ _ _ c.page_of-x.ensures _ c.in-At.ensures _ refl)

pub returns-in-At : goal.returns-in-At
returns-in-At c =
    stands _ _ _ _ c.page_of-x.ensures _ c.in-At.ensures _ refl _
    c.entry.ensures _ c.ppx.ensures

pub returns-in_default : goal.returns-in_default
returns-in_default c =
    nowhere _ _ _ _ c.locate-a.ensures c.in_default.not-At (record { 0 = 1048576 }) refl (record { 0 = 0 })
