-- `trailer::numbers`: six words.
use Rattle.image.proofs.Parts.{six_numbers}
use Rattle.image.proofs.trailer.numbers.Goals as goal

pub returns : goal.returns
returns c =
    six_numbers _ _ _ _ _ _ _ c.number_at.ensures c.number_at-2.ensures
    c.number_at-3.ensures c.number_at-4.ensures c.number_at-5.ensures c.number_at-6.ensures
