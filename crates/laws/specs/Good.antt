-- A machine that the checks accept, as named facts: the shape fits main memory (`Fit`) and swap, book and table say the same
-- (`Seated`), the victim is one of the frames (`Hand`), what has no mark is as in swap (`Clean`), GPR 0 is 0. Every theorem about the
-- paged machine speaks of `Good`.
use Rattle.std.specs.Prelude.{◌≡◌, true, false, List, ℕ, ◌+◌, ◌*◌, ◌%◌, ◌^◌, ◌<◌, ◌≤◌, length, get_or}
use Rattle.model.specs.Pages.{virtual, page_of, frame_at, swap_of, main_page, swap_page}
use Rattle.model.specs.Table.{entry, ppx, valid}
use Rattle.model.specs.Frames.{page_in, marked}
use Rattle.model.specs.State.{Memory, State}
use Rattle.model.specs.declared.Shape.{Shape}
use Rattle.model.specs.declared.FrameBook.{FrameBook}
use Rattle.model.specs.declared.VirtualPage.{VirtualPage}

-- every shape number within its bound, for a main memory of this length
pub record Fit (s : Shape) (main_length : ℕ) : Type 0 where
  pub pages_least : 3 ≤ s.pages
  pub pages_most : s.pages ≤ 64
  pub frames_least : 2 ≤ s.frames
  pub frames_most : s.frames ≤ 32
  pub abase_least : 1 ≤ s.abase
  pub frames_in : s.abase + s.frames ≤ s.pages
  pub ptl_least : 1 ≤ s.ptl
  pub ptl_most : s.ptl ≤ 1024
  pub pto_aligned : s.pto % 4 ≡ 0
  pub table_in : s.pto + 4 * s.ptl ≤ 4096 * s.abase
  pub sbase_most : s.sbase ≤ 16
  pub main_long : main_length ≡ 4096 * s.pages

-- swap holds sbase pages and then the ptl pages of the guest
abbrev pub SwapLong : Shape → ℕ → Type 0
SwapLong s swap_length = swap_length ≡ 4096 * (s.sbase + s.ptl)

-- the book alone
pub record Booked (a : ℕ) (b : FrameBook) : Type 0 where
  pub array : length b.held ≡ 32
  pub used_most : b.used ≤ a

-- what chooses the victim: no other fact speaks of hand
pub record Hand (a : ℕ) (b : FrameBook) : Type 0 where
  pub still : b.used < a → b.hand ≡ 0
  pub most : b.hand < a

-- what the book and the table say together
pub record Seated (s : Shape) (b : FrameBook) (main : List ℕ) : Type 0 where
  pub booked : Booked s.frames b
  pub in_table : (i : ℕ) → i < b.used → (page_in b i).0 < s.ptl
  pub differ : (i j : ℕ) → i < b.used → j < b.used → page_in b i ≡ page_in b j → i ≡ j
  pub rest : (i : ℕ) → b.used ≤ i → i < 32 → page_in b i ≡ virtual 0
  pub here : (i : ℕ) → i < b.used → valid (entry s main (page_in b i)) ≡ true
  pub frame_of : (i : ℕ) → i < b.used → (ppx (entry s main (page_in b i))).0 ≡ s.abase + i
  pub only : (x : VirtualPage) → x.0 < s.ptl → valid (entry s main x) ≡ true → (i : ℕ) × (i < b.used) × (page_in b i ≡ x)

-- "an unmarked resident page equals its swap page", "marks of unused frames are clear"
pub record Clean (s : Shape) (b : FrameBook) (m : Memory) : Type 0 where
  pub equal : (i : ℕ) → i < b.used → marked b.marks i ≡ false
      → main_page m.main (frame_at s i) ≡ swap_page m.swap (swap_of s (page_in b i))
  pub unused : b.marks < 2 ^ b.used

pub record Good (p : State) : Type 0 where
  pub fit : Fit p.machine.shape (length p.memory.main)
  pub whole : SwapLong p.machine.shape (length p.memory.swap)
  pub seated : Seated p.machine.shape p.machine.book p.memory.main
  pub hand : Hand p.machine.shape.frames p.machine.book
  pub clean : Clean p.machine.shape p.machine.book p.memory
  pub zero : get_or p.machine.gpr 0 0 ≡ 0

-- what of it an attempt's accesses need: the table lies in main memory, and a valid entry names a frame
pub record Safe (s : Shape) (main : List ℕ) : Type 0 where
  pub fit : Fit s (length main)
  pub framed : (x : VirtualPage) → x.0 < s.ptl → valid (entry s main x) ≡ true
      → (s.abase ≤ (ppx (entry s main x)).0) × ((ppx (entry s main x)).0 < s.abase + s.frames)

-- each of the n bytes from va on lies in a page of the table
abbrev pub InTable : Shape → ℕ → ℕ → Type 0
InTable s va n = (i : ℕ) → i < n → (page_of (va + i)).0 < s.ptl
