-- `paged::answer`: each call as its definition says.
use mathlib.Core.Path.{ap}
use Rattle.model.specs.State.{state}
use Rattle.model.specs.declared.Machine.{Machine}
use Rattle.text.specs.Reading.{bytes_of}
use Rattle.session.specs.Answers.{answered}
use Rattle.comparison.specs.Answers.{paged_answered}
use Rattle.script.specs.Table.{call_row}
use Rattle.script.proofs.Asked.{keeps_known}
use Rattle.comparison.proofs.Answered.{answered_as}
use Rattle.comparison.proofs.paged.answer.Goals as goal

pub read-requires : goal.read-requires
read-requires c =
    (c.requires.0, (keeps_known call_row c.in-Read.is c.args.n _ c.requires.2).1)

pub returns-in-Run : goal.returns-in-Run
unfolding paged_answered answered
returns-in-Run c =
    let a = c.args in
    answered_as c.in-Run.is a.n (bytes_of a.digits.now) (state a.m a.main.now a.swap.now)
    c.run.ensures

pub returns-in-Read : goal.returns-in-Read
unfolding paged_answered answered
returns-in-Read c =
    let a = c.args in
    answered_as c.in-Read.is a.n (bytes_of a.digits.now) (state a.m a.main.now a.swap.now)
    (record { text = c.read.ensures.1; state = ap (λ (m : Machine). state m a.main.now a.swap.now) c.read.ensures.0 })

pub returns-in-Write : goal.returns-in-Write
unfolding paged_answered answered
returns-in-Write c =
    let a = c.args in
    answered_as c.in-Write.is a.n (bytes_of a.digits.now) (state a.m a.main.now a.swap.now)
    c.write.ensures

pub returns-in-View : goal.returns-in-View
unfolding paged_answered answered
returns-in-View c =
    let a = c.args in
    answered_as c.in-View.is a.n (bytes_of a.digits.now) (state a.m a.main.now a.swap.now)
    (record { text = c.view.ensures.1; state = ap (λ (m : Machine). state m a.main.now a.swap.now) c.view.ensures.0 })

pub returns-in-Reply : goal.returns-in-Reply
unfolding paged_answered answered
returns-in-Reply c =
    let a = c.args in
    answered_as c.in-Reply.is a.n (bytes_of a.digits.now) (state a.m a.main.now a.swap.now)
    (record { text = c.reply.ensures.1; state = ap (λ (m : Machine). state m a.main.now a.swap.now) c.reply.ensures.0 })

pub returns-in-Registers : goal.returns-in-Registers
unfolding paged_answered answered
returns-in-Registers c =
    let a = c.args in
    answered_as c.in-Registers.is a.n (bytes_of a.digits.now) (state a.m a.main.now a.swap.now)
    (record { text = c.registers.ensures.1; state = ap (λ (m : Machine). state m a.main.now a.swap.now) c.registers.ensures.0 })
