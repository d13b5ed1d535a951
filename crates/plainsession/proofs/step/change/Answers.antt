-- `step::change`: each change as its definition says.
use mathlib.Core.Path.{refl, ap}
use mathlib.Core.List.{List}
use Prim.Native.Nat.{ℕ}
use native.Mathlib.Omega.{arith}
use Rattle.text.specs.Reading.{bytes_of}
use Rattle.script.proofs.Asked.{keeps_known}
use Rattle.plainmodel.specs.declared.Plain.{Plain}
use Rattle.plainsession.specs.Table.{change_row}
use Rattle.plainsession.specs.Desk.{desk, standing, changed}
use Rattle.plainsession.proofs.Telling.{changed_as}
use Rattle.plainsession.proofs.step.change.Goals as goal

pub put_bytes-requires : goal.put_bytes-requires
put_bytes-requires c =
    omega (arith, c.requires.1, keeps_known change_row c.in-Memory.is c.args.n _ c.requires.3)

pub put_bytes-requires-in-Rights : goal.put_bytes-requires-in-Rights
put_bytes-requires-in-Rights c =
    omega (arith, c.requires.2, keeps_known change_row c.in-Rights.is c.args.n _ c.requires.3)

pub returns-in-Memory : goal.returns-in-Memory
unfolding changed
returns-in-Memory c =
    let a = c.args in
    let d = desk a.at a.memory.now a.rights.now in (
      changed_as c.in-Memory.is a.n (bytes_of a.digits.now) d (ap (λ (l : List ℕ). desk a.at l a.rights.now) c.put_bytes.ensures),
      c.requires.0,
    )

pub returns-in-Rights : goal.returns-in-Rights
unfolding changed
returns-in-Rights c =
    let a = c.args in
    let d = desk a.at a.memory.now a.rights.now in (
      changed_as c.in-Rights.is a.n (bytes_of a.digits.now) d (ap (λ (l : List ℕ). desk a.at a.memory.now l) c.put_bytes-in-Rights.ensures),
      c.requires.0,
    )

pub returns-in-Record : goal.returns-in-Record
unfolding changed
returns-in-Record c =
    let a = c.args in
    let d = desk a.at a.memory.now a.rights.now in (
      changed_as c.in-Record.is a.n (bytes_of a.digits.now) d (ap (λ (m : Plain). desk (standing m a.at.memory a.at.rights) a.memory.now a.rights.now) c.set_word-next.ensures),
      record { memory_fits = c.requires.0.memory_fits; rights_fits = c.requires.0.rights_fits },
    )

pub returns-in-Lend : goal.returns-in-Lend
unfolding changed
returns-in-Lend c =
    let a = c.args in
    let d = desk a.at a.memory.now a.rights.now in (
      changed_as c.in-Lend.is a.n (bytes_of a.digits.now) d refl,
      let k = keeps_known change_row c.in-Lend.is a.n _ c.requires.3 in record { memory_fits = k.0; rights_fits = k.1 },
    )
