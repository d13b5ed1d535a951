-- `reading::put_bytes`: after k turns the first k bytes stand in the buffer.
use mathlib.Core.Path.{◌≡◌}
use lib.ListN.{length}
use lib.Seq.{paste}
use Rattle.text.specs.Reading.{bytes_of}
use Rattle.text.proofs.reading.put_bytes.Given as goal

abbrev pub invariant-loop-k : goal.invariant-loop-k
invariant-loop-k l =
    (length l.into ≡ length l.initial.into) × (l.into ≡ paste l.initial.into l.at (bytes_of l.pairs) l.k)
