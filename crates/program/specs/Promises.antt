-- The promise of the small program, over any bytes that it is lent.
use Rattle.std.specs.Prelude.{◌≡◌, List, ℕ}
use Rattle.model.specs.State.{Memory}
use Rattle.model.specs.Console.{console_text, console_memory}
use Rattle.text.specs.Text.{Appended}

-- the output holds the program's text from its start on and is else as it was; the memories hold what loading and the run leave
abbrev pub ConsolePromise : List ℕ → Memory → List ℕ → ℕ → List ℕ → Memory → Type 0
ConsolePromise input lent out r after left = Appended out 0 after r (console_text input) × (left ≡ console_memory input lent)
