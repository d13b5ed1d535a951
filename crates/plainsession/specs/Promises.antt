-- The promises of the reader of a line and of a session's beginning; that of a stretch of its script is `Goes` (specs/Script).
use Rattle.std.specs.Prelude.{◌≡◌, List, ℕ, Result}
use Rattle.plainsession.specs.Grammar.{line_of}
use Rattle.plainsession.specs.Desk.{Tells}
use Rattle.plainsession.specs.Series.{begun}
use Rattle.plainsession.specs.declared.table.Line.{Line}
use Rattle.plainsession.specs.declared.Told.{Told}

abbrev pub ParsePromise : List ℕ → Result Line ℕ → Type 0
ParsePromise line r = r ≡ line_of line

-- what stands then, every byte of both buffers and of the output, and whether the script is done
abbrev pub BeginPromise : List ℕ → List ℕ → List ℕ → List ℕ → Told → List ℕ → List ℕ → List ℕ → Type 0
BeginPromise file memory rights out r memory' rights' after = Tells out 0 after r memory' rights' (begun file memory rights)
