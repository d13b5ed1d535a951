-- `calls::read`: into some of a buffer of zeros.
use mathlib.Core.Path.{sym, ap, ◌∙◌}
use mathlib.Core.List.{List, [], ◌∷◌, ◌++◌}
use Prim.Native.Nat.{ℕ}
use native.Mathlib.Omega.{arith}
use Rattle.plainmodel.specs.State.{plain_state}
use Rattle.model.specs.Answers.{verdict_numbers}
use Rattle.plainmodel.specs.Calls.{ReadOutcome, read_call}
use Rattle.model.specs.Console.{or_refused}
use Rattle.script.specs.Vocabulary.{read_word}
use Rattle.text.proofs.Appending.{same}
use Rattle.answerlines.specs.Lines.{hex_line}
use Rattle.plainsession.specs.Answers.{read_text}
use Rattle.script.proofs.Asked.{take-zeros, length-zeros, part_filled, length_part, length-filled}
use Rattle.plainsession.proofs.calls.read.Goals as goal

pub slice_bounds-host_read-end : goal.slice_bounds-host_read-end
slice_bounds-host_read-end c =
    sym (length-zeros c.args.n.second 512 c.requires.1)

pub slice_bounds-space-end-2 : goal.slice_bounds-space-end-2
slice_bounds-space-end-2 c =
    let r = c.host_read-verdict in
    omega (arith, c.requires.1, length-filled c.args.n.second 512 c.requires.1 r.new.into r.auto.into)

pub verdict_line-requires : goal.verdict_line-requires
verdict_line-requires c =
    let r = c.host_read-verdict in
    let long = length_part c.args.n.second 512 c.requires.1 r.new.into r.auto.into in
    (omega (arith, c.requires.0, c.requires.1, long), omega arith)

pub returns : goal.returns
returns c =
    let a = c.args in
    let k = a.n.second in
    let r = c.host_read-verdict in
    let part = part_filled k 512 c.requires.1 r.new.into r.auto.into in (
      c.left.ensures.0,
      rw c.left.ensures.1 (same c.verdict_line.ensures
          (ap (λ (l : List ℕ). or_refused (verdict_numbers r.result) (hex_line (read_word ++ (32 ∷ [])) l)) part
          ∙ ap (λ (o : ReadOutcome). read_text o) r.ensures
          ∙ ap (λ (l : List ℕ). read_text (read_call (plain_state a.m a.memory.now a.rights.now) a.n.first l)) (take-zeros k 512 c.requires.1))),
    )
