-- `compare`: what begins stands; the beginning, the lines' answers and the end are written one after another.
use Rattle.text.proofs.Appending.{written}
use Rattle.model.specs.State.{memory}
use Rattle.comparison.specs.Desk.{desk}
use Rattle.comparison.specs.Begun.{begun}
use Rattle.compare.proofs.Closed.{went_on}
use Rattle.compare.proofs.compare.Goals as goal

pub returns-in_ok-write_all-2 : goal.returns-in_ok-write_all-2
returns-in_ok-write_all-2 g c =
    let a = c.args in
    let b = c.begin-begun.ensures.begin_promise in
    went_on (begun a.file.now (memory a.main.now a.swap.now) a.memory.now a.rights.now) a.script.now _
    (desk c.begin-begun.result.standing c.begin-begun.new.main c.begin-begun.new.swap c.begin-begun.new.memory c.begin-begun.new.rights) _ _
    (written b.text) b.goes b.desk_is c.in_ok-write_all.ensures.bytes c.if-begun.true
    (desk c.in_ok-last.last c.go.new.main c.go.new.swap c.go.new.memory c.begin-begun.new.rights) c.in_ok-last.ensures.stands _ _
    c.in_ok-last.ensures.written _ (written c.close-end.ensures) c.in_ok-write_all-2.ensures.bytes
