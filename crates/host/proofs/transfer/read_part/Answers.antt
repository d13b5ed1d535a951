-- `transfer::read_part`: the page is in main memory, or in swap.
use mathlib.Core.Path.{refl}
use Prim.Native.Nat.{◌+◌, ◌≤◌}
use native.Mathlib.Omega.{arith}
use lib.ListN.{length}
use Rattle.host.proofs.Parts.{main_within, main_read, swap_within, swap_read}
use Rattle.host.proofs.transfer.read_part.Goals as goal

pub home_of-requires : goal.home_of-requires
home_of-requires c = let pre = c.requires in (pre.0.safe.fit, pre.1)

pub overflow_add-end : goal.overflow_add-end
overflow_add-end c =
    let a = c.args in
    let k : c.in-Main.start + length a.into.now ≤ length a.main.now =
    main_within a.s a.main.now a.swap.now c.requires.0 a.va (length a.into.now) c.requires.1 c.requires.2 _ c.in-Main.ensures _ refl in
    omega arith

pub slice_bounds-copy-end : goal.slice_bounds-copy-end
slice_bounds-copy-end c =
    let a = c.args in
    main_within a.s a.main.now a.swap.now c.requires.0 a.va (length a.into.now) c.requires.1 c.requires.2 _ c.in-Main.ensures _ refl

pub overflow_add-end-in-Swap : goal.overflow_add-end-in-Swap
overflow_add-end-in-Swap c =
    let a = c.args in
    let k : c.in-Swap.start + length a.into.now ≤ length a.swap.now =
    swap_within a.s a.main.now a.swap.now c.requires.0 a.va (length a.into.now) c.requires.1 c.requires.2 _ c.in-Swap.ensures _ refl in
    omega arith

pub slice_bounds-copy-end-in-Swap : goal.slice_bounds-copy-end-in-Swap
slice_bounds-copy-end-in-Swap c =
    let a = c.args in
    swap_within a.s a.main.now a.swap.now c.requires.0 a.va (length a.into.now) c.requires.1 c.requires.2 _ c.in-Swap.ensures _ refl

pub returns-in-Main : goal.returns-in-Main
returns-in-Main c =
    main_read _ _ _ c.requires.0 _ _ c.requires.1 c.requires.2 _ c.in-Main.ensures _ refl _ c.copy.ensures

pub returns-in-Swap : goal.returns-in-Swap
returns-in-Swap c =
    swap_read _ _ _ c.requires.0 _ _ c.requires.1 c.requires.2 _ c.in-Swap.ensures _ refl _ c.copy-in-Swap.ensures
