-- `calls::view`: the page, or a refusal and an empty part.
use mathlib.Core.Path.{ap, ◌∙◌}
use mathlib.Core.List.{List, [], ◌∷◌, ◌++◌}
use Prim.Native.Nat.{ℕ}
use native.Mathlib.Omega.{arith}
use lib.ListN.{length}
use Rattle.plainmodel.specs.State.{plain_state}
use Rattle.model.specs.Pages.{virtual}
use Rattle.model.specs.Answers.{VerdictNumbers, verdict_numbers}
use Rattle.plainmodel.specs.Calls.{view_call}
use Rattle.model.specs.Console.{or_refused}
use Rattle.script.specs.Vocabulary.{view_word}
use Rattle.text.proofs.Appending.{same}
use Rattle.answerlines.specs.Lines.{hex_line}
use Rattle.plainsession.proofs.Viewed.{view_short}
use Rattle.plainsession.proofs.calls.view.Goals as goal

pub verdict_line-requires : goal.verdict_line-requires
verdict_line-requires c =
    let a = c.args in
    let short = view_short (plain_state a.m a.memory.now a.rights.now) (virtual a.p) in
    (omega (arith, c.requires, ap length c.page_view-part.ensures.bytes, short), omega arith)

pub returns : goal.returns
returns c =
    let a = c.args in
    let part = (view_call (plain_state a.m a.memory.now a.rights.now) (virtual a.p)).part in (
      c.left.ensures.0,
      rw c.left.ensures.1 (same c.verdict_line.ensures
          (ap (λ (l : List ℕ). or_refused (verdict_numbers c.view_answer-verdict.result) (hex_line (view_word ++ (32 ∷ [])) l)) c.page_view-part.ensures.bytes
          ∙ ap (λ (k : VerdictNumbers). or_refused k (hex_line (view_word ++ (32 ∷ [])) part)) c.view_answer-verdict.ensures)),
    )
