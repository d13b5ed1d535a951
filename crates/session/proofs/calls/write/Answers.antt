-- `calls::write`: from the bytes of the digits.
use mathlib.Core.Path.{ap}
use mathlib.Core.List.{List}
use Prim.Native.Nat.{ℕ}
use Rattle.model.specs.State.{state}
use Rattle.model.specs.Calls.{StateOutcome, write_call}
use Rattle.text.specs.Text.{hex_of}
use Rattle.text.proofs.Appending.{same}
use Rattle.session.specs.Answers.{write_text, wrote}
use Rattle.session.proofs.Answered.{said_as}
use Rattle.script.proofs.Asked.{digits_taken, length-digits_taken}
use Rattle.session.proofs.calls.write.Goals as goal

pub slice_bounds-host_write-end : goal.slice_bounds-host_write-end
slice_bounds-host_write-end c =
    length-digits_taken c.args.digits.now _ c.requires.1 c.put_bytes.ensures

pub returns : goal.returns
unfolding hex_of
returns c =
    let a = c.args in
    let e = c.host_write-handed.ensures in
    rw (c.left.ensures.0, c.left.ensures.1)
    (said_as (record { text = same c.verdict_line.ensures (ap (λ (o : StateOutcome). write_text o) e); state = ap (λ (o : StateOutcome). o.state) e })
    (ap (λ (l : List ℕ). wrote (write_call (state a.m a.main.now a.swap.now) a.va l)) (digits_taken a.digits.now _ c.requires.1 c.put_bytes.ensures)))
