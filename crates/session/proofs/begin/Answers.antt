-- `begin`: its four ways.
use native.Mathlib.Omega.{arith}
use Rattle.model.specs.declared.Refusal.TheVariants.{Room}
use Rattle.session.proofs.Begun.{away, begins, too_long, not_image, many_pages, few_pages, read_is, ptl_few}
use Rattle.session.proofs.begin.Goals as goal

pub returns-then-file-gt263256 : goal.returns-then-file-gt263256
returns-then-file-gt263256 c =
    let a = c.args in
    let told = away a.file.now a.pages a.main.now a.swap.now Room (too_long a.file.now a.pages (omega arith)) c.turned_away.ensures in
    record { begin_promise = told.0; lent = told.1 }

pub returns-then-pages-gt64 : goal.returns-then-pages-gt64
returns-then-pages-gt64 c =
    let a = c.args in
    let told = away a.file.now a.pages a.main.now a.swap.now Room
    (many_pages a.file.now a.pages (omega arith) _ c.in-Ok.ensures (omega arith))
    c.turned_away-then-pages-gt64.ensures in
    record { begin_promise = told.0; lent = told.1 }

pub load-requires : goal.load-requires
load-requires c =
    let a = c.args in
    let e = c.in-Ok.ensures in
    let few = ptl_few a.file.now a.pages (omega arith) _ e in
    (read_is a.file.now a.pages (omega arith) _ e, c.requires, omega arith, omega arith)

pub returns-in-Err : goal.returns-in-Err
returns-in-Err c =
    let a = c.args in
    let r = c.in-Err.refusal in
    let told = away a.file.now a.pages a.main.now a.swap.now r
    (not_image a.file.now a.pages (omega arith) r c.in-Err.ensures)
    c.turned_away-in-Err.ensures in
    record { begin_promise = told.0; lent = told.1 }

pub returns-else-pages-gt64 : goal.returns-else-pages-gt64
returns-else-pages-gt64 c =
    let a = c.args in
    let e = c.in-Ok.ensures in
    let few = ptl_few a.file.now a.pages (omega arith) _ e in
    let is = read_is a.file.now a.pages (omega arith) _ e in
    let told = begins a.file.now a.pages a.main.now a.swap.now
    (few_pages a.file.now a.pages (omega arith) _ e (omega arith)) (omega arith) (omega (arith, few, is.ptl_is)) c.load.ensures in
    record { begin_promise = told.0; lent = told.1 }
