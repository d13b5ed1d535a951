-- A page view hands back one page at most.
use mathlib.Core.Bool.{Bool, true, false}
use mathlib.Core.List.{List}
use Prim.Native.Nat.{ℕ, ◌*◌, ◌≤◌}
use native.Mathlib.Omega.{arith}
use lib.ListN.{length, drop, length-take}
use Rattle.std.specs.Prelude.{if◌then◌else◌, Ok, Err}
use Rattle.model.specs.Answers.{Verdict}
use Rattle.model.specs.Bytes.{page}
use Rattle.model.specs.Pages.{swap_of}
use Rattle.model.specs.Table.{entry, ppx, valid}
use Rattle.model.specs.State.{Memory, State}
use Rattle.model.specs.Calls.{view_verdict, view_by, view_call, page_bytes}
use Rattle.model.specs.declared.Shape.{Shape}
use Rattle.model.specs.declared.VirtualPage.{VirtualPage}

page_short : (l : List ℕ) (p : ℕ) → length (page l p) ≤ 4096
unfolding page
page_short l p = omega (arith, length-take 4096 (drop (4096 * p) l))

either_short : (b : Bool) (x y : List ℕ) → length x ≤ 4096 → length y ≤ 4096 → length (if b then x else y) ≤ 4096
either_short true x y h k = h
either_short false x y h k = k

bytes_short : (s : Shape) (m : Memory) (x : VirtualPage) → length (page_bytes s m x) ≤ 4096
unfolding page_bytes
bytes_short s m x =
    either_short (valid (entry s m.main x)) _ _ (page_short m.main (ppx (entry s m.main x)).0) (page_short m.swap
    (swap_of s x).0)

by_short : (v : Verdict) (p : State) (x : VirtualPage) → length (view_by v p x).part ≤ 4096
by_short (Ok tt) p x = bytes_short p.machine.shape p.memory x
by_short (Err r) p x = omega arith

pub view_short : (p : State) (x : VirtualPage) → length (view_call p x).part ≤ 4096
unfolding view_call
view_short p x = by_short (view_verdict p x) p x
