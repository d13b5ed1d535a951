-- What each exported call promises: the number that it returns and every lent slice at exit, as the record o, are those of its
-- definition. Its `ensures` cites the promise by its name, and `unique` (crates/unique) shows that no two outcomes fit it. That of the
-- reader of images is in imagewords/specs/Image.
use Rattle.std.specs.Prelude.{◌≡◌, List, ℕ}
use Rattle.plaincapi.specs.Calls.{Loaded, load, Ran, run, Filled, read, Written, write, view, Replied, reply}

-- loading, of a file into a memory, rights and a record
abbrev pub LoadPromise : (file memory rights words : List ℕ) → Loaded → Type 0
LoadPromise file memory rights words o = o ≡ load file memory rights words

-- run, of a machine in words and a limit
abbrev pub RunPromise : (words memory rights : List ℕ) → ℕ → (answer : List ℕ) → Ran → Type 0
RunPromise words memory rights limit answer o = o ≡ run words memory rights limit answer

-- host read, at va into a buffer
abbrev pub ReadPromise : (words memory rights : List ℕ) → ℕ → (into : List ℕ) → Filled → Type 0
ReadPromise words memory rights va into o = o ≡ read words memory rights va into

-- host write, of bytes at va
abbrev pub WritePromise : (words memory rights : List ℕ) → ℕ → (from : List ℕ) → Written → Type 0
WritePromise words memory rights va from o = o ≡ write words memory rights va from

-- page view, of page x into a buffer
abbrev pub ViewPromise : (words memory rights : List ℕ) → ℕ → (into : List ℕ) → Filled → Type 0
ViewPromise words memory rights x into o = o ≡ view words memory rights x into

-- reply, of a value to a register
abbrev pub ReplyPromise : (words : List ℕ) → ℕ → ℕ → Replied → Type 0
ReplyPromise words register value o = o ≡ reply words register value
