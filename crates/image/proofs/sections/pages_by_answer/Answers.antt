-- `sections::pages_by_answer`: the section of an accepted image, or an empty part.
use mathlib.Core.Path.{refl, sym, ap}
use Rattle.laws.proofs.Parts.{cut_none}
use Rattle.image.specs.Sections.{pages_by_answer}
use borrow.Author.Rules.{rules}
use Rattle.image.proofs.sections.pages_by_answer.Goals as goal

pub returns-in-Ok : goal.returns-in-Ok
returns-in-Ok c = rw c.in-Ok.is c.pages_of.ensures

pub returns-in-Err : goal.returns-in-Err
returns-in-Err c = cut_none _ _ _ refl (sym (ap (pages_by_answer _) c.in-Err.is)) (search rules) refl
