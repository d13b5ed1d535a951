-- `turned_away`: a record of zeros, and the refusal's line.
use mathlib.Core.Path.{refl, ap}
use Rattle.model.specs.Console.{refused_line}
use Rattle.model.specs.declared.Handed.{Handed}
use Rattle.text.proofs.Appending.{same}
use Rattle.session.specs.Desk.{desk, standing}
use Rattle.session.proofs.turned_away.Goals as goal

pub returns : goal.returns
returns c =
    λ main swap.
    rw c.told.ensures (record {
      desk_is = ap (λ (h : Handed). desk (standing h.machine 0 0) main swap) c.refused-handed.ensures;
      text = same c.refused_line-filled.ensures.0 (ap refused_line c.refusal_number.ensures);
      goes = refl;
    })
