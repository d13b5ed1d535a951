-- `read_pieces`: the pieces so far are read.
use mathlib.Core.Path.{◌≡◌}
use Prim.Native.Nat.{◌+◌, ◌*◌, ◌<◌}
use lib.ListN.{drop}
use Rattle.notation.specs.Line.{read_pieces}
use Rattle.mnemonics.specs.Rows.{pieces_of}
use Rattle.line.proofs.read_pieces.Given as goal

abbrev pub invariant-loop-piece : goal.invariant-loop-piece
invariant-loop-piece l =
    (l.w < 4294967296 * (l.piece-index + 1))
    × (read_pieces l.s (drop l.piece-index l.piece-items) l.w l.n ≡ read_pieces l.s (pieces_of l.row) l.row.base l.from)
