-- `filled`: the pieces that are left fill the same word.
use mathlib.Core.Path.{◌≡◌}
use Prim.Native.Nat.{◌+◌, ◌*◌, ◌≤◌}
use lib.ListN.{drop}
use Rattle.notation.specs.Listing.{filled}
use Rattle.mnemonics.specs.Rows.{pieces_of}
use Rattle.lister.proofs.word.filled.Given as goal

abbrev pub invariant-loop-piece : goal.invariant-loop-piece
invariant-loop-piece l =
    (l.v ≤ 4294967296 * (l.piece-index + 1))
    × (filled (drop l.piece-index l.piece-items) l.v l.w ≡ filled (pieces_of l.row) l.row.base l.w)
