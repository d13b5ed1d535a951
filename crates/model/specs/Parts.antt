-- Parts of a lent slice, each the slice's own bytes from a place of it on: "a part of the file's own bytes", "from main memory or from
-- swap as its entry says".
use Rattle.std.specs.Prelude.{◌≡◌, List, [], ℕ, ◌+◌, length, take, drop, if◌then◌else◌, Ok, Err}
use Rattle.std.specs.Borrow.{Bor}
use Rattle.model.specs.Answers.{Verdict}
use Rattle.model.specs.Pages.{main_at, swap_of, swap_at}
use Rattle.model.specs.Table.{entry, ppx, valid}
use Rattle.model.specs.State.{Memory, State, state}
use Rattle.model.specs.Calls.{page_bytes, view_verdict, view_call}
use Rattle.model.specs.Image.{rights_place, pages_place, image_verdict, image_call}
use Rattle.model.specs.declared.Shape.{Shape}
use Rattle.model.specs.declared.Machine.{Machine}
use Rattle.model.specs.declared.VirtualPage.{VirtualPage}

-- the byte of a slice where a part begins, and the part's bytes
pub record Part : Type 0 where
  pub place : ℕ
  pub bytes : List ℕ

-- the n bytes from byte i on
abbrev pub part_at : List ℕ → ℕ → ℕ → Part
part_at l i n = record { place = i; bytes = take n (drop i l) }

-- r is the part p of a lent slice: in its block, at that byte of it, with these bytes, and they are the slice's own
pub record PartOf (whole : Bor (List ℕ)) (p : Part) (r : Bor (List ℕ)) : Type 0 where
  pub block : r.ref_ptr.0 ≡ whole.ref_ptr.0
  pub begins : r.ref_ptr.1 ≡ whole.ref_ptr.1 + p.place
  pub bytes : r.now ≡ p.bytes
  pub own : r.now ≡ take (length r.now) (drop p.place whole.now)

-- "an empty part for each part" of a refusal, at the first byte
abbrev pub no_part : Part
no_part = record { place = 0; bytes = [] }

abbrev pub if_granted : {A : Type 0} → Verdict → A → A → A
if_granted (Ok tt) a b = a
if_granted (Err r) a b = b

-- ---- the sections of a file
abbrev pub pages_part : List ℕ → Part
pages_part l = record { place = if_granted (image_verdict l (Ok tt)) (pages_place l) 0; bytes = (image_call l).pages }

abbrev pub rights_part : List ℕ → Part
rights_part l = record { place = if_granted (image_verdict l (Ok tt)) (rights_place l) 0; bytes = (image_call l).rights }

-- ---- a page: in which of the two lent memories it is, "as its entry says", and where in it
abbrev pub page_home : Shape → Bor (List ℕ) → Bor (List ℕ) → VirtualPage → Bor (List ℕ)
page_home s main swap x = if valid (entry s main.now x) then main else swap

abbrev pub page_part : Shape → Memory → VirtualPage → Part
page_part s m x = record {
  place = if valid (entry s m.main x) then main_at (ppx (entry s m.main x)) 0 else swap_at (swap_of s x) 0;
  bytes = page_bytes s m x;
}

-- ---- what the page view hands back; the empty part is one of main memory
abbrev pub view_home : Machine → Bor (List ℕ) → Bor (List ℕ) → VirtualPage → Bor (List ℕ)
view_home m main swap x = if_granted (view_verdict (state m main.now swap.now) x) (page_home m.shape main swap x) main

abbrev pub view_part : State → VirtualPage → Part
view_part p x =
    record { place = if_granted (view_verdict p x) (page_part p.machine.shape p.memory x).place 0; bytes = (view_call p x).part }
