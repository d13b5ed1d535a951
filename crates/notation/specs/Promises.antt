-- What the two calls promise: the numbers answered and every byte of the lent output at exit are those of the call's one definition.
use Rattle.std.specs.Prelude.{◌≡◌, List, ℕ}
use Rattle.notation.specs.Calls.{assemble_outcome, assemble_call, list_outcome, list_call}
use Rattle.notation.specs.Answers.{AssembleAnswer, ListAnswer}

abbrev pub AssemblePromise : List ℕ → List ℕ → AssembleAnswer → List ℕ → Type 0
AssemblePromise text out a after = assemble_outcome a after ≡ assemble_call text out

abbrev pub ListPromise : List ℕ → List ℕ → ListAnswer → List ℕ → Type 0
ListPromise bytes out a after = list_outcome a after ≡ list_call bytes out
