-- `put_pieces`: the text of the pieces so far stands in the buffer.
use Prim.Native.Nat.{◌+◌, ◌*◌, ◌≤◌}
use lib.ListN.{take}
use Rattle.text.specs.Text.{Appended}
use Rattle.notation.specs.Listing.{pieces_text}
use Rattle.lister.proofs.word.put_pieces.Given as goal

abbrev pub invariant-loop-piece : goal.invariant-loop-piece
invariant-loop-piece l =
    (l.to ≤ l.at + 11 * l.piece-index) × Appended l.initial.out l.at l.out l.to (pieces_text (take l.piece-index l.piece-items) l.w)
