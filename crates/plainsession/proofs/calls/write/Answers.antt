-- `calls::write`: from the bytes of the digits.
use mathlib.Core.Path.{ap}
use mathlib.Core.List.{List}
use Prim.Native.Nat.{ℕ}
use Rattle.text.specs.Text.{hex_of}
use Rattle.text.proofs.Appending.{same}
use Rattle.script.proofs.Asked.{digits_taken, length-digits_taken}
use Rattle.plainmodel.specs.State.{plain_state}
use Rattle.plainmodel.specs.Calls.{WriteOutcome, write_call}
use Rattle.plainsession.specs.Answers.{write_text, wrote}
use Rattle.plainsession.proofs.Answered.{said_as}
use Rattle.plainsession.proofs.calls.write.Goals as goal

pub slice_bounds-host_write-end : goal.slice_bounds-host_write-end
slice_bounds-host_write-end c =
    length-digits_taken c.args.digits.now _ c.requires.1 c.put_bytes.ensures

pub returns : goal.returns
unfolding hex_of
returns c =
    let a = c.args in
    let p = plain_state a.m a.memory.now a.rights.now in
    let e = c.host_write-verdict.ensures in
    rw (c.left.ensures.0, c.left.ensures.1)
    (said_as (record {
      text = same c.verdict_line.ensures (ap (λ (o : WriteOutcome). write_text o) e);
      state = ap (λ (o : WriteOutcome). plain_state a.m o.bytes a.rights.now) e;
    })
    (ap (λ (l : List ℕ). wrote (write_call p a.va l) p) (digits_taken a.digits.now _ c.requires.1 c.put_bytes.ensures)))
