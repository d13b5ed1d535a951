-- `place`: what stands in PLACES for the letters' hash.
use mathlib.Core.Path.{sym, ap, subst}
use Prim.Native.Nat.{◌*◌, ◌/◌, ◌%◌, ◌^◌, ◌<◌}
use lib.ListN.{get_or}
use Rattle.mnemonics.specs.declared.table.TheConstants.{PLACES}
use Rattle.mnemonics.proofs.Places.{place_small}
use Rattle.mnemonics.proofs.place.Goals as goal

pub returns : goal.returns
returns c =
    let e = ap (λ n. get_or PLACES (n * 2753667 % 2 ^ 32 / 2 ^ 25) 0) c.from_le_bytes.ensures in
    (e, subst (λ n. n < 49) (sym e) (place_small c.args.letters))
