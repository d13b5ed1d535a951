-- `four_lines`: one thing after another; only the grouping differs from the definition's.
use Rattle.text.proofs.Appending.{joined, same}
use Rattle.text.proofs.Grouped.{grouped}
use borrow.Author.Rules.{rules}
use Rattle.text.proofs.lines.four_lines.Goals as goal

pub returns : goal.returns
returns c =
    let a = c.args in (
      same
          (joined c.put-first.ensures
          (joined c.put_spaced-second.ensures.0
          (joined c.put_line-third.ensures.0
          (joined c.put_line-fourth.ensures.0
          (joined c.put_line-fifth.ensures.0 c.put_line.ensures.0)))))
          (grouped a.stop a.detail a.finished a.loads a.dpc),
      search rules,
    )
