-- `step::change`: each change as its definition says.
use mathlib.Core.Path.{refl, ap}
use mathlib.Core.List.{List}
use Prim.Native.Nat.{ℕ}
use native.Mathlib.Omega.{arith}
use Rattle.model.specs.declared.Machine.{Machine}
use Rattle.text.specs.Reading.{bytes_of}
use Rattle.session.specs.Desk.{desk, standing, changed}
use Rattle.script.specs.Table.{change_row}
use Rattle.script.proofs.Asked.{keeps_known}
use Rattle.session.proofs.Telling.{changed_as}
use Rattle.session.proofs.step.change.Goals as goal

pub put_bytes-requires : goal.put_bytes-requires
put_bytes-requires c =
    omega (arith, c.requires.1, keeps_known change_row c.in-Main.is c.args.n _ c.requires.3)

pub put_bytes-requires-in-Swap : goal.put_bytes-requires-in-Swap
put_bytes-requires-in-Swap c =
    omega (arith, c.requires.2, keeps_known change_row c.in-Swap.is c.args.n _ c.requires.3)

pub returns-in-Main : goal.returns-in-Main
unfolding changed
returns-in-Main c =
    let a = c.args in
    let d = desk a.at a.main.now a.swap.now in (
      changed_as c.in-Main.is a.n (bytes_of a.digits.now) d
          (ap (λ (l : List ℕ). desk a.at l a.swap.now) c.put_bytes.ensures),
      c.requires.0,
    )

pub returns-in-Swap : goal.returns-in-Swap
unfolding changed
returns-in-Swap c =
    let a = c.args in
    let d = desk a.at a.main.now a.swap.now in (
      changed_as c.in-Swap.is a.n (bytes_of a.digits.now) d
          (ap (λ (l : List ℕ). desk a.at a.main.now l) c.put_bytes-in-Swap.ensures),
      c.requires.0,
    )

pub returns-in-Record : goal.returns-in-Record
unfolding changed
returns-in-Record c =
    let a = c.args in
    let d = desk a.at a.main.now a.swap.now in (
      changed_as c.in-Record.is a.n (bytes_of a.digits.now) d
          (ap (λ (m : Machine). desk (standing m a.at.main a.at.swap) a.main.now a.swap.now) c.set_word-next.ensures),
      record { main_fits = c.requires.0.main_fits; swap_fits = c.requires.0.swap_fits },
    )

pub returns-in-Lend : goal.returns-in-Lend
unfolding changed
returns-in-Lend c =
    let a = c.args in
    let d = desk a.at a.main.now a.swap.now in (
      changed_as c.in-Lend.is a.n (bytes_of a.digits.now) d refl,
      let k = keeps_known change_row c.in-Lend.is a.n _ c.requires.3 in record { main_fits = k.0; swap_fits = k.1 },
    )

pub set_spare-requires : goal.set_spare-requires
set_spare-requires c =
    let k = keeps_known change_row c.in-Spare.is c.args.n _ c.requires.3 in
    (omega (arith, c.requires.0.main_fits, c.requires.1), k.1)

pub returns-in-Spare : goal.returns-in-Spare
unfolding changed
returns-in-Spare c =
    let a = c.args in
    let d = desk a.at a.main.now a.swap.now in (
      changed_as c.in-Spare.is a.n (bytes_of a.digits.now) d
          (ap (λ (l : List ℕ). desk a.at l a.swap.now) c.set_spare.ensures),
      c.requires.0,
    )
