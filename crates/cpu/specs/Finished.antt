-- An outcome that finishes its instruction, and does not end the run.
use Rattle.model.specs.declared.Outcome.{Outcome}
use Rattle.model.specs.declared.Outcome.TheVariants.{Done, Wrote, Trapped, Missing, Stopped}

abbrev pub Finished : Outcome → Type 0
Finished (Done q) = Unit {0}
Finished (Wrote q i) = Unit {0}
Finished (Trapped q n) = ⊥
Finished (Missing va) = ⊥
Finished (Stopped k) = ⊥
