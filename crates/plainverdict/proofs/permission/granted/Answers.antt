-- `permission::granted`: the page has no rights byte, or that decides.
use Rattle.plainverdict.proofs.Rights.{no_byte, by_byte}
use borrow.Author.Rules.{rules}
use Rattle.plainverdict.proofs.permission.granted.Goals as goal

pub returns-then-x-rights : goal.returns-then-x-rights
returns-then-x-rights c =
    let a = c.args in
    no_byte a.rights.now a.writing a.page (search rules)

pub returns : goal.returns
returns c =
    let a = c.args in
    by_byte a.rights.now a.writing a.page (search rules) _ c.grants.ensures
