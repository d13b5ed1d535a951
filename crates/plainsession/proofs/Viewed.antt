-- A page view hands back one page at most.
use Prim.Native.Nat.{◌*◌, ◌≤◌}
use native.Mathlib.Omega.{arith}
use lib.ListN.{length, drop, length-take}
use Rattle.std.specs.Prelude.{Ok, Err}
use Rattle.model.specs.Answers.{Verdict}
use Rattle.model.specs.Bytes.{page}
use Rattle.model.specs.declared.VirtualPage.{VirtualPage}
use Rattle.plainmodel.specs.State.{PlainState}
use Rattle.plainmodel.specs.Calls.{view_verdict, view_by, view_call}

by_short : (v : Verdict) (p : PlainState) (x : VirtualPage) → length (view_by v p x).part ≤ 4096
unfolding page
by_short (Ok tt) p x = omega (arith, length-take 4096 (drop (4096 * x.0) p.bytes))
by_short (Err r) p x = omega arith

pub view_short : (p : PlainState) (x : VirtualPage) → length (view_call p x).part ≤ 4096
unfolding view_call
view_short p x = by_short (view_verdict p x) p x
