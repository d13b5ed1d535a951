-- What each exported call promises: the number that it returns and every lent slice at exit, as the record o, are those of its
-- definition. Its `ensures` cites the promise by its name, and `unique` (crates/unique) shows that no two outcomes fit it. That of the reader
-- of images is in imagewords/specs/Image.
use Rattle.std.specs.Prelude.{◌≡◌, List, ℕ}
use Rattle.capi.specs.Calls.{Machined, load, write, Ran, run, Filled, read, view, Replied, reply, Put, assemble, list}

-- loading, of a file into both memories and a record
abbrev pub LoadPromise : (file main swap words : List ℕ) → Machined → Type 0
LoadPromise file main swap words o = o ≡ load file main swap words

-- run, of a machine in words and a limit
abbrev pub RunPromise : (words main swap : List ℕ) → ℕ → (answer : List ℕ) → Ran → Type 0
RunPromise words main swap limit answer o = o ≡ run words main swap limit answer

-- host read, at va into a buffer
abbrev pub ReadPromise : (words main swap : List ℕ) → ℕ → (into : List ℕ) → Filled → Type 0
ReadPromise words main swap va into o = o ≡ read words main swap va into

-- host write, of bytes at va
abbrev pub WritePromise : (words main swap : List ℕ) → ℕ → (bytes : List ℕ) → Machined → Type 0
WritePromise words main swap va bytes o = o ≡ write words main swap va bytes

-- page view, of page x into a buffer
abbrev pub ViewPromise : (words main swap : List ℕ) → ℕ → (into : List ℕ) → Filled → Type 0
ViewPromise words main swap x into o = o ≡ view words main swap x into

-- reply, of a value to a register
abbrev pub ReplyPromise : (words : List ℕ) → ℕ → ℕ → Replied → Type 0
ReplyPromise words register value o = o ≡ reply words register value

-- assemble, of a text into an output, with an answer
abbrev pub AssemblePromise : (text out answer : List ℕ) → Put → Type 0
AssemblePromise text out answer o = o ≡ assemble text out answer

-- list, of words into an output, with an answer
abbrev pub ListPromise : (bytes out answer : List ℕ) → Put → Type 0
ListPromise bytes out answer o = o ≡ list bytes out answer
