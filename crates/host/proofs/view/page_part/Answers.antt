-- `view::page_part`: the page is in main memory, or in swap.
use mathlib.Core.Path.{refl}
use Prim.Native.Nat.{◌+◌, ◌≤◌}
use native.Mathlib.Omega.{arith}
use lib.ListN.{length}
use Rattle.host.proofs.Parts.{main_within, page_main, swap_within, page_swap}
use borrow.Author.Rules.{rules}
use Rattle.host.proofs.view.page_part.Goals as goal

pub home_of-requires : goal.home_of-requires
home_of-requires c = (c.requires.0.safe.fit, omega (arith, c.first_va.ensures, c.requires.1))

pub overflow_add-end : goal.overflow_add-end
overflow_add-end c =
    let a = c.args in
    let first = c.first_va.ensures in
    let k : c.in-Main.start + 4096 ≤ length a.main.now =
    main_within a.s a.main.now a.swap.now c.requires.0 _ 4096 (omega (arith, first, c.requires.1)) (omega (arith, first)) _
    c.in-Main.ensures _ refl in
    omega arith

pub slice_bounds-result-end : goal.slice_bounds-result-end
slice_bounds-result-end c =
    let a = c.args in
    let first = c.first_va.ensures in
    main_within a.s a.main.now a.swap.now c.requires.0 _ 4096 (omega (arith, first, c.requires.1)) (omega (arith, first)) _
    c.in-Main.ensures _ refl

pub overflow_add-end-in-Swap : goal.overflow_add-end-in-Swap
overflow_add-end-in-Swap c =
    let a = c.args in
    let first = c.first_va.ensures in
    let k : c.in-Swap.start + 4096 ≤ length a.swap.now =
    swap_within a.s a.main.now a.swap.now c.requires.0 _ 4096 (omega (arith, first, c.requires.1)) (omega (arith, first)) _
    c.in-Swap.ensures _ refl in
    omega arith

pub slice_bounds-result-end-in-Swap : goal.slice_bounds-result-end-in-Swap
slice_bounds-result-end-in-Swap c =
    let a = c.args in
    let first = c.first_va.ensures in
    swap_within a.s a.main.now a.swap.now c.requires.0 _ 4096 (omega (arith, first, c.requires.1)) (omega (arith, first)) _
    c.in-Swap.ensures _ refl

pub returns-in-Main : goal.returns-in-Main
returns-in-Main c =
    page_main _ _ _ c.requires.0 _ c.requires.1 _ c.first_va.ensures _ c.in-Main.ensures _ refl
    _ refl (search rules) refl

pub returns-in-Swap : goal.returns-in-Swap
returns-in-Swap c =
    page_swap _ _ _ c.requires.0 _ c.requires.1 _ c.first_va.ensures _ c.in-Swap.ensures _ refl
    _ refl (search rules) refl
