-- `calls::reply`: the register is set, or it is refused.
use mathlib.Core.Path.{ap, ◌∙◌}
use Rattle.text.specs.Text.{hex_of}
use Rattle.text.proofs.Appending.{same}
use Rattle.plainmodel.specs.Calls.{ReplyOutcome}
use Rattle.plainsession.specs.Answers.{reply_text}
use Rattle.plainsession.proofs.calls.reply.Goals as goal

pub returns : goal.returns
unfolding hex_of
returns c =
    let e = c.reply-handed.ensures in (
      c.left.ensures.0 ∙ ap (λ (o : ReplyOutcome). o.plain) e,
      rw c.left.ensures.1 (same c.verdict_line.ensures (ap (λ (o : ReplyOutcome). reply_text o) e)),
    )
