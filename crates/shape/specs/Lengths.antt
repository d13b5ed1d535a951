-- The two lengths that the shape fixes.
use Rattle.std.specs.Prelude.{Bool, ◌&&◌, ℕ, ◌+◌, ◌*◌, eqb}
use Rattle.model.specs.declared.Shape.{Shape}

unfoldable pub lengths_fit : Shape → ℕ → ℕ → Bool
lengths_fit s main swap = eqb main (4096 * s.pages) && eqb swap (4096 * (s.sbase + s.ptl))
