-- `put_hex`: after i turns the first i bytes stand in the buffer, two digits each.
use mathlib.Core.Path.{◌≡◌}
use Prim.Native.Nat.{◌+◌, ◌*◌}
use lib.ListN.{take}
use Rattle.text.specs.Text.{Appended, hex_of}
use Rattle.text.proofs.put_hex.Given as goal

abbrev pub invariant-loop-b : goal.invariant-loop-b
invariant-loop-b l =
    (l.to ≡ l.at + 2 * l.b-index) × Appended l.initial.out l.at l.out l.to (hex_of (take l.b-index l.bytes))
