-- Whether a fetch goes through: DPC is a multiple of 4, and its page can be read.
use Rattle.std.specs.Prelude.{Bool, true, false, List, ℕ}
use Rattle.model.specs.Flat.{allow}
use Rattle.cpu.specs.Reach.{reach}
use Rattle.cpu.specs.declared.access.Reached.{Reached}
use Rattle.cpu.specs.declared.access.Reached.TheVariants.{Misaligned, Illegal, Fault, At}

abbrev pub goes_through : Reached → Bool
goes_through Misaligned = false
goes_through Illegal = false
goes_through Fault = false
goes_through (At i) = true

unfoldable pub fetches : List ℕ → ℕ → Bool
fetches rights va = goes_through (reach 4 va (allow rights false va))
