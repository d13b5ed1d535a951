-- `sound`: GPR 0 is not 0, or the rights decide.
use native.Mathlib.Omega.{arith}
use Rattle.plainverdict.proofs.Verdicts.{by_rights_right}
use Rattle.plainverdict.proofs.sound.Goals as goal

pub returns : goal.returns
returns c = by_rights_right _ _ (omega arith) _ c.rights_right.ensures
