-- The promise of the reader of a line.
use Rattle.std.specs.Prelude.{◌≡◌, List, ℕ, Result}
use Rattle.script.specs.Grammar.{line_of}
use Rattle.script.specs.declared.Line.{Line}

abbrev pub ParsePromise : List ℕ → Result Line ℕ → Type 0
ParsePromise line r = r ≡ line_of line
