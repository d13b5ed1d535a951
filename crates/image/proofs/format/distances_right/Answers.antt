-- `format::distances_right`: ptl below 1, above 1024, or the other tests.
use Rattle.image.proofs.Tests.{ptl_low, ptl_high, ptl_right}
use borrow.Author.Rules.{rules}
use Rattle.image.proofs.format.distances_right.Goals as goal

pub returns-then-t-lt1 : goal.returns-then-t-lt1
returns-then-t-lt1 c = ptl_low _ _ (search rules)

pub returns-then-t-gt1024 : goal.returns-then-t-gt1024
returns-then-t-gt1024 c = ptl_high _ _ (search rules) (search rules)

pub returns : goal.returns
returns c = ptl_right _ _ (search rules) (search rules)
