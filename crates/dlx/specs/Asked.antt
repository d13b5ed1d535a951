-- What a word of opcode 0 asks for, by what its function makes of its registers.
use Rattle.std.specs.Prelude.{ℕ, Option, Some, None}
use Rattle.model.specs.Instruction.{value, rd0}
use Rattle.model.specs.declared.Plan.{Plan}
use Rattle.model.specs.declared.Plan.TheVariants.{Unknown}

abbrev pub asked : ℕ → ℕ → Option ℕ → Plan
asked next w (Some v) = value next (rd0 w) v
asked next w None = Unknown
