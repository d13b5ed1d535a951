-- `sections::pages_of`: the section that begins 24 + ptl + 4096·ptl bytes before the end.
use mathlib.Core.Path.{◌≡◌, ap₂}
use mathlib.Core.List.{List}
use Prim.Native.Nat.{ℕ}
use native.Mathlib.Omega.{arith}
use denote.Ref.{Bor}
use Rattle.model.specs.Parts.{Part, PartOf}
use Rattle.image.specs.Sections.{section}
use Rattle.image.proofs.sections.pages_of.Goals as goal

-- the same part, said otherwise
part-as : {whole r : Bor (List ℕ)} {p q : Part} → PartOf whole p r → p ≡ q → PartOf whole q r
part-as h e = rw e at h

pub returns : goal.returns
returns c = part-as c.section.ensures (ap₂ (section _) (omega arith) (omega arith))
