-- `write`: the lines of the words so far stand in the buffer.
use lib.ListN.{take}
use Rattle.text.specs.Text.{Appended}
use Rattle.notation.specs.Listing.{listing}
use Rattle.lister.specs.Words.{numbers}
use Rattle.lister.proofs.write.Given as goal

abbrev pub invariant-loop-bytes : goal.invariant-loop-bytes
invariant-loop-bytes l = Appended l.initial.out 0 l.out l.to (listing (take l.bytes-index (numbers l.words)))
