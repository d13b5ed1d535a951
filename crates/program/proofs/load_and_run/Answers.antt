-- `load_and_run`: the two answers of loading.
use mathlib.Core.Path.{◌∙◌}
use Rattle.text.proofs.Appending.{same}
use Rattle.program.proofs.Printed.{load_refused, refused_left, load_granted, granted_left}
use Rattle.program.proofs.load_and_run.Goals as goal

pub returns-in-Err : goal.returns-in-Err
returns-in-Err c =
    let e = c.in-Err.is in
    (same c.refuse.ensures (load_refused _ _ _ c.load-handed.ensures _ e), refused_left _ _ _ c.load-handed.ensures _ e)

pub returns-in-Ok : goal.returns-in-Ok
returns-in-Ok c =
    let e = c.in-Ok.is in (
      same c.run_and_print.ensures.0 (load_granted _ _ _ c.load-handed.ensures e),
      c.run_and_print.ensures.1 ∙ granted_left _ _ _ c.load-handed.ensures e,
    )
