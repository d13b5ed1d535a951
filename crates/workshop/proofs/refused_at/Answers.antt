-- `refused_at`: the word, the three numbers, the end of the line.
use mathlib.Core.Path.{refl}
use Rattle.workshop.proofs.Works.{said_at}
use borrow.Author.Rules.{rules}
use Rattle.workshop.proofs.refused_at.Goals as goal

pub returns : goal.returns
returns c =
    let a = c.args in (
      refl,
      said_at a.bad.refusal _ a.bad.line a.bad.column c.refusal_number.ensures c.put-word.ensures
          c.put_spaced-number.ensures.0 (search rules) c.put_spaced-end.ensures.0 c.put.ensures,
    )
