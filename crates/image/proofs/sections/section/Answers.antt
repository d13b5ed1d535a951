-- `sections::section`: no such part, or the part.
use Rattle.image.proofs.Parts.{no_such, too_far, the_part}
use mathlib.Core.Path.{refl}
use Rattle.laws.proofs.Parts.{cut, cut_none}
use borrow.Author.Rules.{rules}
use Rattle.image.proofs.sections.section.Goals as goal

pub returns-then-back-n : goal.returns-then-back-n
returns-then-back-n c = cut_none _ _ _ refl (no_such _ _ _ (search rules)) (search rules) refl

pub returns-then-file-back : goal.returns-then-file-back
returns-then-file-back c = cut_none _ _ _ refl (too_far _ _ _ (search rules) (search rules)) (search rules) refl

pub returns : goal.returns
returns c = cut _ _ _ refl _ c.args.n (the_part _ _ _ (search rules) (search rules)) (search rules) refl
