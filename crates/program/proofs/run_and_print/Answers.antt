-- `run_and_print`: the two answers of a run.
use Rattle.text.proofs.Appending.{same}
use Rattle.program.proofs.Printed.{run_refused, run_printed, run_left}
use Rattle.program.proofs.run_and_print.Goals as goal

pub returns-in-Err : goal.returns-in-Err
returns-in-Err c =
    (same c.refuse.ensures (run_refused _ _ _ c.run-result.ensures _ c.in-Err.is), run_left c.run-result.ensures)

pub returns-in-Ok : goal.returns-in-Ok
returns-in-Ok c = (
  same c.four_lines.ensures.0
      (run_printed _ _ _ c.run-result.ensures _ _ _ c.stop_number.ensures c.stop_detail.ensures
      c.in-Ok.is),
  run_left c.run-result.ensures,
)
