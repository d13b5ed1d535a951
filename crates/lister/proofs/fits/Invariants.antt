-- `fits`: the lines that are left fit in what is left exactly where all of them fit in the room.
use mathlib.Core.Path.{◌≡◌}
use lib.Dec.{leb}
use lib.ListN.{length, drop}
use Rattle.notation.specs.Listing.{listing}
use Rattle.lister.specs.Words.{numbers}
use Rattle.lister.proofs.fits.Given as goal

abbrev pub invariant-loop-bytes : goal.invariant-loop-bytes
invariant-loop-bytes l =
    (length l.line ≡ 80)
    × (leb (length (listing (drop l.bytes-index (numbers l.words)))) l.left ≡ leb (length (listing (numbers l.words))) l.room)
