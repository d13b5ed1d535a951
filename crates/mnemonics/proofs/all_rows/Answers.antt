use Rattle.std.proofs.Common.{refl}
use Rattle.model.specs.Bytes.{same}
use Rattle.notation.specs.Table.{rows, spelled}
use Rattle.mnemonics.proofs.all_rows.Goals as goal

pub returns : goal.returns
unfolding rows spelled same
returns c = record { rows = refl; placed = refl }
