-- `instruction`: the row of the mnemonic, and its pieces.
use mathlib.Core.Path.{◌∙◌}
use Rattle.line.proofs.Names.{unnamed, named}
use Rattle.line.proofs.instruction.Goals as goal

pub returns-in_default : goal.returns-in_default
returns-in_default c =
    let a = c.args in
    unnamed a.s.now a.at _ c.name_end-end.ensures.0 _ c.named.ensures.same c.in_default.is

pub returns : goal.returns
returns c =
    let a = c.args in
    c.read_pieces.ensures ∙ named a.s.now a.at _ c.name_end-end.ensures.0 _ c.named.ensures.same c.in-Some.row c.in-Some.is
