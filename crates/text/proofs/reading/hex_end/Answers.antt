-- `reading::hex_end`: behind the longest front.
use Rattle.text.proofs.Fronts.{hex_from}
use Rattle.text.proofs.reading.hex_end.Goals as goal

pub returns : goal.returns
returns c = hex_from c.args.line.now c.args.at _ c.requires c.hex_len.ensures.value
