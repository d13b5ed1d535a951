-- A plan whose register is one of GPR 0 to 31.
use Rattle.std.specs.Prelude.{◌<◌}
use Rattle.model.specs.declared.Plan.{Plan}
use Rattle.dlx.specs.Registers.{register_of}

abbrev pub Numbered : Plan → Type 0
Numbered t = register_of t < 32
