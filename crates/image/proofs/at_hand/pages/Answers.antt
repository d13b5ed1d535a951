-- `at_hand::pages`: the section that the answer says, which is the reader's where the answer is the one for the file.
use Rattle.image.proofs.Accepted.{hand_pages}
use Rattle.image.proofs.at_hand.pages.Goals as goal

pub returns : goal.returns
returns c = record {
  found = c.pages_by_answer.ensures;
  read = λ e. rw (hand_pages _ _ e) at c.pages_by_answer.ensures;
}
