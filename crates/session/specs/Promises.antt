-- The promise of a session's beginning; that of a stretch of its script is `Goes` (specs/Script).
use Rattle.std.specs.Prelude.{List, ℕ}
use Rattle.session.specs.Desk.{Tells}
use Rattle.session.specs.Series.{begun}
use Rattle.session.specs.declared.Told.{Told}

-- what stands then, every byte of both buffers and of the output, and whether the script is done
abbrev pub BeginPromise : List ℕ → ℕ → List ℕ → List ℕ → List ℕ → Told → List ℕ → List ℕ → List ℕ → Type 0
BeginPromise file pages main swap out r main' swap' after = Tells out 0 after r main' swap' (begun file pages main swap)
