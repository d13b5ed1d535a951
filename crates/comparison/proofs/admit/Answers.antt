-- `admit`: its four ways.
use native.Mathlib.Omega.{arith}
use Rattle.std.proofs.lemmas.Result.{err_from_is_err_and}
use Rattle.model.specs.declared.Refusal.TheVariants.{Room}
use Rattle.session.proofs.Begun.{too_long, not_image, many_pages, few_pages, read_is}
use Rattle.comparison.proofs.Begun.{away, admits_read}
use Rattle.comparison.proofs.admit.Goals as goal

pub returns-then-file-gt263256 : goal.returns-then-file-gt263256
returns-then-file-gt263256 c =
    let a = c.args in
    away a.file.now a.pages Room (too_long a.file.now a.pages (omega arith))

pub returns-in_err-written : goal.returns-in_err-written
returns-in_err-written c =
    let a = c.args in
    let p = err_from_is_err_and c.from_residual.result c.from_residual.ensures.1 in
    rw (p.1, p.2) (away a.file.now a.pages _ (not_image a.file.now a.pages (omega arith) _ c.in_err-written.ensures))

pub returns-then-pages-gt64 : goal.returns-then-pages-gt64
returns-then-pages-gt64 c =
    let a = c.args in
    away a.file.now a.pages Room (many_pages a.file.now a.pages (omega arith) _ c.in_ok-written.ensures (omega arith))

pub returns : goal.returns
returns c =
    let a = c.args in
    let e = c.in_ok-written.ensures in
    admits_read a.file.now a.pages (few_pages a.file.now a.pages (omega arith) _ e (omega arith)) (read_is a.file.now a.pages (omega arith) _ e)
