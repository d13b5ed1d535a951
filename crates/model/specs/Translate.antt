-- Sections "Table and frame book" and "One attempt": the flat memory at a virtual address, and an access to it.
use Rattle.std.specs.Prelude.{Bool, true, false, List, ℕ, ltb, get_or, if◌then◌else◌}
use Rattle.model.specs.Pages.{page_of, offset, main_at, swap_of, swap_at}
use Rattle.model.specs.Table.{entry, ppx, readable, writable, valid}
use Rattle.model.specs.State.{Memory}
use Rattle.model.specs.declared.Shape.{Shape}
use Rattle.model.specs.declared.Access.{Access}
use Rattle.model.specs.declared.Access.TheVariants.{Illegal, Fault, At}

-- "The flat memory at va is the main byte ppx·4096 + va mod 4096 if v is 1, else the swap byte."
unfoldable pub flat_byte : Shape → Memory → ℕ → ℕ
flat_byte s m va =
    if valid (entry s m.main (page_of va)) then get_or m.main (main_at (ppx (entry s m.main (page_of va))) (offset va)) 0
    else get_or m.swap (swap_at (swap_of s (page_of va)) (offset va)) 0

-- the right that an access asks for: w where it writes, r where it reads
abbrev pub has : Bool → ℕ → Bool
has true e = writable e
has false e = readable e

-- where the page of an entry is
abbrev pub place : ℕ → ℕ → Access
place e va = if valid e then At (main_at (ppx e) (offset va)) else Fault

-- "An access .. is illegal if its page is ≥ ptl, or r (reading) or w (writing) is 0. It is a page fault if it is legal and v is 0."
abbrev pub by_entry : ℕ → Bool → ℕ → Access
by_entry e writing va = if has writing e then place e va else Illegal

unfoldable pub translate : Shape → List ℕ → Bool → ℕ → Access
translate s main writing va =
    if ltb (page_of va).0 s.ptl then by_entry (entry s main (page_of va)) writing va else Illegal

abbrev pub legal : Access → Bool
legal Illegal = false
legal Fault = true
legal (At i) = true
