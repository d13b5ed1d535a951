-- What loading hands back: the fresh record, or the record of a refusal.
use Rattle.std.specs.Prelude.{◌≡◌, ℕ, List, replicate, Err}
use Rattle.model.specs.Frames.{empty_book}
use Rattle.model.specs.Image.{ptl_of, start_of, frames_of, fresh, zero_machine}
use Rattle.model.specs.declared.Shape.{Shape}
use Rattle.model.specs.declared.Pcs.{Pcs}
use Rattle.model.specs.declared.Machine.{Machine}
use Rattle.model.specs.declared.Handed.{Handed}
use Rattle.model.specs.declared.Refusal.{Refusal}

-- all but shape and program counters is 0
abbrev pub blank : Shape → Pcs → Machine
blank shape pcs = record { shape = shape; book = empty_book; gpr = replicate 32 0; pcs = pcs }

-- the record that loading makes of every file with these numbers
abbrev pub IsFresh : ℕ → ℕ → ℕ → ℕ → Machine → Type 0
IsFresh main_length frames ptl start m =
    (l : List ℕ) → frames ≡ frames_of l → ptl ≡ ptl_of l → start ≡ start_of l → m ≡ (fresh l main_length).machine

abbrev pub refused_by : Refusal → Handed
refused_by r = record { machine = zero_machine; verdict = Err r }
