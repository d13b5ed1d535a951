-- `read_on`: what stands in the buffer behind the first bytes was read.
use Rattle.std.proofs.Common.{◌≡◌, ◌≤◌, ◌-◌, length, take, drop}
use Rattle.std.specs.Io.KnownBytes.{Consumes}
use Rattle.files.proofs.read_on.Given as goal

abbrev pub invariant-loop-done : goal.invariant-loop-done
invariant-loop-done g l = record {
  on : l.first ≤ l.done;
  within : l.done ≤ length l.bytes;
  long : length l.bytes ≡ length l.fn.bytes;
  kept : take l.first l.bytes ≡ take l.first l.fn.bytes;
  read : Consumes (g.R.Read.remaining l.fn.reader) (g.R.Read.remaining l.reader) (drop l.first (take l.done l.bytes));
}

abbrev pub decreases-loop-done : goal.decreases-loop-done
decreases-loop-done g l = length l.bytes - l.done
