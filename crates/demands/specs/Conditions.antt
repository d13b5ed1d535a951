-- The conditions and rules of the table of refusals, as facts that quote it; those of 2 and 6 are records of the crate laws.
use Rattle.std.specs.Prelude.{◌≡◌, ◌⊎◌, Bool, true, false, List, ℕ, ◌+◌, ◌<◌, ◌≤◌, length}
use Rattle.model.specs.Words.{field}
use Rattle.model.specs.Pages.{page_of}
use Rattle.model.specs.Table.{entry}
use Rattle.model.specs.State.{Memory, State}
use Rattle.model.specs.Image.{trailer, ptl_of, frames_of}
use Rattle.model.specs.declared.VirtualPage.{VirtualPage}
use Rattle.laws.specs.Good.{Fit, SwapLong}
use Rattle.laws.specs.Formed.{Roomy}

-- ---- 1: "a shape number or memory length breaks its bound"
abbrev pub Fits : State → Type 0
Fits p = Fit p.machine.shape (length p.memory.main) × SwapLong p.machine.shape (length p.memory.swap)

-- ---- 2: "the machine is not sound": the rule is `Good` of laws

-- ---- 3: "a page is outside the table or lacks the right"
-- the right that is asked for: "bit 2 r, bit 1 w"
abbrev pub right : (writing : Bool) → ℕ → ℕ
right true e = field 1 1 e
right false e = field 2 1 e

abbrev pub Denied : (writing : Bool) → State → VirtualPage → Type 0
Denied writing p x =
    (p.machine.shape.ptl ≤ x.0) ⊎ (right writing (entry p.machine.shape p.memory.main x) ≡ 0)

-- some byte of the n from va on lies in such a page
abbrev pub SomeDenied : (writing : Bool) → State → ℕ → ℕ → Type 0
SomeDenied writing p va n = (i : ℕ) × (i < n) × Denied writing p (page_of (va + i))

-- ---- 4: "run or transfer too long; register not 1 to 31"
abbrev pub RunTooLong : ℕ → Type 0
RunTooLong n = 1000000 < n

abbrev pub TransferTooLong : ℕ → Type 0
TransferTooLong n = 256 < n

abbrev pub Register : ℕ → Type 0
Register i = (1 ≤ i) × (i ≤ 31)

-- ---- 5: "image under 24 bytes, or edition not 1"
abbrev pub UnknownImage : List ℕ → Type 0
UnknownImage l = (length l < 24) ⊎ (¬ (trailer l 5 ≡ 1))

-- ---- 6: "a trailer number (but edition), a rights byte or the label's length breaks its rule below": the rules are `Formed` of laws

-- ---- 7: "lent main or swap memory does not fit"
abbrev pub MemoryFits : List ℕ → Memory → Type 0
MemoryFits l m = Roomy (frames_of l) (ptl_of l) (length m.main) (length m.swap)
