-- `at_hand::rights`: the section that the answer says, which is the reader's where the answer is the one for the file.
use Rattle.image.proofs.Accepted.{hand_rights}
use Rattle.image.proofs.at_hand.rights.Goals as goal

pub returns : goal.returns
returns c = record {
  found = c.rights_by_answer.ensures;
  read = λ e. rw (hand_rights _ _ e) at c.rights_by_answer.ensures;
}
