-- THE STATEMENT of demand 3. The instructions that a machine carries out are a list of demands, and the handler is held against every
-- schedule that serves the same instructions in the same order. Such a schedule too starts empty, holds at most h pages, holds an
-- instruction's code and data page together, and pays one for each page brought in. It may know the whole order beforehand.
use Rattle.std.specs.Prelude.{List, [], ◌∷◌, ℕ, suc, ◌≤◌, length}
use Rattle.model.specs.Order.{Demand, alone, both}
use Rattle.model.specs.declared.VirtualPage.{VirtualPage}
use Rattle.bound.specs.Pages.{◌∈◌, hold, without}

-- The pages that an instruction needs are held, together: its code page alone, or its code page and its data page.
abbrev pub Holds : List VirtualPage → Demand → Type 0
Holds held (alone c) = c ∈ held
Holds held (both c d) = (c ∈ held) × (d ∈ held)

-- A schedule on h frames for the instructions ds, from the pages `held` on: any series of four moves. It brings a page in, and then it
-- holds at most h pages (`hold` puts no page in twice); it lets a page leave; it serves the next instruction, whose pages it
-- must hold; and it may end when every instruction is served.
pub data Schedule (h : ℕ) : List VirtualPage → List Demand → Type 0 where
  bring : {held : List VirtualPage} {ds : List Demand} (p : VirtualPage) → length (hold p held) ≤ h → Schedule h (hold p held) ds → Schedule h held ds
  leave : {held : List VirtualPage} {ds : List Demand} (p : VirtualPage) → Schedule h (without p held) ds → Schedule h held ds
  serve : {held : List VirtualPage} {d : Demand} {ds : List Demand} → Holds held d → Schedule h held ds → Schedule h held (d ∷ ds)
  end : {held : List VirtualPage} → Schedule h held []

-- What a schedule pays: one for each page brought in.
unfoldable pub brings : {h : ℕ} {held : List VirtualPage} {ds : List Demand} → Schedule h held ds → ℕ
brings (bring p fits rest) = suc (brings rest)
brings (leave p rest) = brings rest
brings (serve all rest) = brings rest
brings end = 0

-- For a machine with a frames, the theorem is: whatever schedule on as many frames is chosen,
--     loads ≤ a * brings rival    for every    rival : Schedule a [] ds
-- (`against_equal` of proofs/Competitive, and `series_equal` of proofs/Series for a series of steps; both stand there for a schedule on fewer
-- frames too).
