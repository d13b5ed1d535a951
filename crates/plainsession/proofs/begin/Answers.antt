-- `begin`: its three ways.
use mathlib.Core.Path.{sym, ap, ◌∙◌}
use native.Mathlib.Omega.{arith}
use Rattle.model.specs.Answers.{image_numbers}
use Rattle.plainsession.proofs.Begun.{too_long, not_image, is_image, read_is, ptl_few}
use Rattle.plainsession.proofs.begin.Goals as goal

pub returns-then-file-gt263256 : goal.returns-then-file-gt263256
returns-then-file-gt263256 c =
    let a = c.args in
    let b = too_long a.file.now a.memory.now a.rights.now (omega arith) c.turned_away.ensures in
    record { begin_promise = b.0; lent = b.1 }

pub load-requires : goal.load-requires
load-requires c =
    let a = c.args in
    let e = ap image_numbers (sym c.in-Ok.is) ∙ c.read.ensures in
    let few = ptl_few a.file.now _ e (omega arith) in
    (read_is a.file.now _ e, c.requires, omega arith)

pub returns-in-Err : goal.returns-in-Err
returns-in-Err c =
    let a = c.args in
    let b = not_image a.file.now a.memory.now a.rights.now (omega arith) c.in-Err.refusal
    (ap image_numbers (sym c.in-Err.is) ∙ c.read.ensures) c.turned_away-in-Err.ensures in
    record { begin_promise = b.0; lent = b.1 }

pub returns-in-Ok : goal.returns-in-Ok
returns-in-Ok c =
    let a = c.args in
    let b = is_image a.file.now a.memory.now a.rights.now (omega arith) c.in-Ok.written
    (ap image_numbers (sym c.in-Ok.is) ∙ c.read.ensures) c.load.ensures in
    record { begin_promise = b.0; lent = b.1 }
