-- The promise of a session's beginning; that of a stretch of its script is `Goes` (specs/Script).
use Rattle.std.specs.Prelude.{List, ℕ}
use Rattle.model.specs.State.{memory}
use Rattle.comparison.specs.Desk.{desk, Tells}
use Rattle.comparison.specs.Begun.{begun}
use Rattle.comparison.specs.declared.Told.{Told}

-- of a file, both memories of the paged machine, the plain memory, the rights and the output: what stands then, and every byte of them
abbrev pub BeginPromise : (file main swap bytes rights out : List ℕ) → Told → (main' swap' bytes' rights' after : List ℕ) → Type 0
BeginPromise file main swap bytes rights out r main' swap' bytes' rights' after =
    Tells out 0 after r (desk r.standing main' swap' bytes' rights') (begun file (memory main swap) bytes rights)
