-- `turned_away`: a record of zeros, and the refusal's line.
use mathlib.Core.Path.{refl, ap}
use Rattle.model.specs.Console.{refused_line}
use Rattle.text.proofs.Appending.{same}
use Rattle.plainmodel.specs.declared.PlainHanded.{PlainHanded}
use Rattle.plainsession.specs.Desk.{desk, standing}
use Rattle.plainsession.proofs.turned_away.Goals as goal

pub returns : goal.returns
returns c =
    λ memory rights.
    rw c.told.ensures (record {
      desk_is = ap (λ (h : PlainHanded). desk (standing h.plain 0 0) memory rights) c.refused-handed.ensures;
      text = same c.refused_line-filled.ensures.0 (ap refused_line c.refusal_number.ensures);
      goes = refl;
    })
