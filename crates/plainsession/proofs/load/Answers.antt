-- `load`: the two answers of loading.
use mathlib.Core.Path.{sym}
use Prim.Native.Nat.{◌*◌}
use native.Mathlib.Omega.{arith}
use lib.Seq.{length-take-le}
use Rattle.plainsession.proofs.Begun.{load_refused, load_granted}
use Rattle.plainsession.proofs.load.Goals as goal

pub slice_bounds-load-end-2 : goal.slice_bounds-load-end-2
slice_bounds-load-end-2 c =
    sym (length-take-le (4096 * c.args.written.ptl) c.args.memory.now (omega arith))

pub slice_bounds-load-end-4 : goal.slice_bounds-load-end-4
slice_bounds-load-end-4 c =
    sym (length-take-le c.args.written.ptl c.args.rights.now (omega arith))

pub returns-in-Err : goal.returns-in-Err
returns-in-Err c =
    let a = c.args in
    load_refused c.requires.0 a.memory.now a.rights.now _ _ c.load-handed.ensures _ c.in-Err.is c.turned_away.ensures

pub returns-in-Ok : goal.returns-in-Ok
returns-in-Ok c =
    let a = c.args in
    load_granted c.requires.0 a.memory.now a.rights.now _ _ c.load-handed.ensures c.in-Ok.is c.numbers_line-filled.ensures c.told.ensures
