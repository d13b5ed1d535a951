-- `fnv::fnv1a`: each byte is mixed into the sum of those before it.
use mathlib.Core.Path.{refl, ap, ◌∙◌}
use Rattle.std.proofs.Common.{rules}
use Rattle.std.proofs.lemmas.Fn.{fold_over, slice_gives, fronts}
use Rattle.answerlines.specs.Fnv.{mixed, fnv1a}
use Rattle.answerlines.proofs.Mixing.{SumOf, sum_more, sum_all}
use Rattle.answerlines.proofs.fnv.fnv1a.Goals as goal

pub returns : goal.returns
unfolding mixed
returns c =
    sum_all _ c.fold.result
    (fold_over fronts (λ y. y.now) _ SumOf _ (λ ys a x b f' j k. (sum_more ys a x.now b j (search rules), search rules))
    _ _ _ _ (slice_gives c.iter.result) (λ l. refl) c.fold.ensures.ran)
    ∙ ap (fnv1a 2166136261) c.iter.ensures.rest
