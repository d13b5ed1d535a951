-- What loading hands back: the fresh record, or the record of a refusal.
use Rattle.std.specs.Prelude.{ℕ, replicate, Err}
use Rattle.model.specs.Words.{plus}
use Rattle.model.specs.declared.Refusal.{Refusal}
use Rattle.plainmodel.specs.Load.{zero_plain}
use Rattle.plainmodel.specs.declared.Plain.{Plain}
use Rattle.plainmodel.specs.declared.PlainHanded.{PlainHanded}

-- the record of a file with these numbers
abbrev pub fresh_plain : ℕ → ℕ → Plain
fresh_plain ptl start = record { ptl = ptl; gpr = replicate 32 0; pcs = record { dpc = start; next = plus start 4 } }

abbrev pub refused_by : Refusal → PlainHanded
refused_by r = record { plain = zero_plain; verdict = Err r }
