-- What the numbers of a line keep to, by the parts that the table asks for.
use Rattle.std.specs.Prelude.{ℕ, ◌+◌, ◌≤◌}
use Rattle.script.specs.declared.parts.Numbers.{Numbers}
use Rattle.script.specs.declared.table.Row.{Row}
use Rattle.script.specs.declared.table.Row.TheVariants.{Alone, One, Two, Hex, HexWithin}

-- the numbers, and how many bytes HEX has
abbrev pub Keeps : Row → Numbers → ℕ → Type 0
Keeps Alone p n = Unit {0}
Keeps (One most) p n = p.first ≤ most
Keeps (Two most bound) p n = (p.first ≤ most) × (p.second ≤ bound)
Keeps (Hex most) p n = p.first ≤ most
Keeps (HexWithin size) p n = p.first + n ≤ size
