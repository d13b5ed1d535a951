-- `read`: the answer kept with the file has the numbers of the reader's call.
use Rattle.std.proofs.Common.{ap, ◌∙◌, ℕ, List, Bor}
use Rattle.model.specs.Answers.{image_numbers}
use Rattle.image.specs.Format.{answer_of}
use Rattle.image.proofs.Accepted.{read_numbers}
use Rattle.image.proofs.read.Goals as goal

pub returns : goal.returns
returns c =
    ap image_numbers (c.answer.ensures ∙ c.keep.ensures.1 ∙ ap (λ (f : Bor (List ℕ)). answer_of f.now) c.keep.ensures.0)
    ∙ read_numbers c.args.file.now
