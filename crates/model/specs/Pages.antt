-- Section "Numbers that bound it": three page numbers occur, virtual, main and swap. The rules below are the only ways from one
-- to another and from a page to its bytes.
use Rattle.std.specs.Prelude.{List, ℕ, ◌+◌, ◌-◌, ◌*◌, ◌/◌, ◌%◌}
use Rattle.model.specs.Bytes.{page, with_page}
use Rattle.model.specs.declared.Shape.{Shape}
use Rattle.model.specs.declared.VirtualPage.{VirtualPage}
use Rattle.model.specs.declared.MainPage.{MainPage}
use Rattle.model.specs.declared.SwapPage.{SwapPage}

-- virtual page number x
abbrev pub virtual : ℕ → VirtualPage
virtual x = record { 0 = x }

-- the page of a virtual address, and the place in its page
abbrev pub page_of : ℕ → VirtualPage
page_of va = virtual (va / 4096)

abbrev pub offset : ℕ → ℕ
offset va = va % 4096

-- the first address of a page
abbrev pub first_va : VirtualPage → ℕ
first_va x = 4096 * x.0

-- "Frames a .. at main pages abase to abase+a−1"
abbrev pub frame_at : Shape → ℕ → MainPage
frame_at s f = record { 0 = s.abase + f }

-- the main page of a place in main memory, and the frame there
abbrev pub main_page_of : ℕ → MainPage
main_page_of i = record { 0 = i / 4096 }

abbrev pub frame_in : Shape → MainPage → ℕ
frame_in s p = p.0 - s.abase

-- "sbase counts pages: swap address = sbase·4096 + va"
abbrev pub swap_of : Shape → VirtualPage → SwapPage
swap_of s x = record { 0 = s.sbase + x.0 }

-- "The entry of page x is at pto + 4x"
abbrev pub entry_at : Shape → VirtualPage → ℕ
entry_at s x = s.pto + 4 * x.0

-- the place in main memory, and in swap, of byte k of a page
abbrev pub main_at : MainPage → ℕ → ℕ
main_at p k = 4096 * p.0 + k

abbrev pub swap_at : SwapPage → ℕ → ℕ
swap_at p k = 4096 * p.0 + k

-- the bytes of a page, and a memory with other bytes there
abbrev pub main_page : List ℕ → MainPage → List ℕ
main_page l p = page l p.0

abbrev pub with_main_page : List ℕ → MainPage → List ℕ → List ℕ
with_main_page l p bytes = with_page l p.0 bytes

abbrev pub swap_page : List ℕ → SwapPage → List ℕ
swap_page l p = page l p.0

abbrev pub with_swap_page : List ℕ → SwapPage → List ℕ → List ℕ
with_swap_page l p bytes = with_page l p.0 bytes
