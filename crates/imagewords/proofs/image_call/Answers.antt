-- `image_call`: an answer of another length, or the numbers of the image.
use Rattle.imagewords.proofs.Numbers.{image_short, image_whole}
use borrow.Author.Rules.{rules}
use Rattle.imagewords.proofs.image_call.Goals as goal

pub returns-then-answer-ne3 : goal.returns-then-answer-ne3
returns-then-answer-ne3 c = image_short _ _ (search rules)

pub returns : goal.returns
returns c = image_whole _ _ (search rules) c.read.result c.read.ensures _ _ c.put_image.ensures
