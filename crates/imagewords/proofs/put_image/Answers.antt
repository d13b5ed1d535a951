-- `put_image`: the three words of an image, or three zeros.
use Rattle.imagewords.proofs.Numbers.{is_image, not_image}
use Rattle.imagewords.proofs.put_image.Goals as goal

pub returns-in-Ok : goal.returns-in-Ok
returns-in-Ok c = is_image _ _ c.in-Ok.is _ c.put_three.ensures

pub returns-in-Err : goal.returns-in-Err
returns-in-Err c = not_image _ _ c.in-Err.is _ c.refusal_number.ensures _ c.put_three-in-Err.ensures
