-- A machine loaded from any image that is accepted is sound, and the flat machine it stands for is the image's: its pages, its rights,
-- start and start+4 in DPC and PC', 0 in every register. It has the shape that loading makes, its frames are all free, the lent
-- memories keep their lengths, and the next call refuses it neither by 1 nor by 2. The theorem is `loaded` of proofs/Loaded.
use Rattle.std.specs.Prelude.{◌≡◌, true, List, ℕ, length, replicate}
use Rattle.model.specs.Answers.{Verdict}
use Rattle.model.specs.Words.{plus}
use Rattle.model.specs.Frames.{empty_book}
use Rattle.model.specs.State.{Memory, State}
use Rattle.model.specs.Sound.{fits, sound}
use Rattle.model.specs.Flat.{Flat, flat}
use Rattle.model.specs.Calls.{machine_verdict}
use Rattle.model.specs.Image.{start_of, frames_of, rights_of, pages_of, meant, fresh_shape}
use Rattle.laws.specs.Good.{Good}

-- the flat machine of an image
unfoldable pub image_flat : List ℕ → Flat
image_flat l = record {
  gpr = replicate 32 0;
  pcs = record { dpc = start_of l; next = plus (start_of l) 4 };
  bytes = pages_of l;
  rights = rights_of l;
}

-- p is loaded from the image l into the memories m
pub record LoadedFrom (l : List ℕ) (m : Memory) (p : State) : Type 0 where
  pub good : Good p
  pub stands : flat p ≡ image_flat l
  pub shape : p.machine.shape ≡ fresh_shape l (length m.main)
  pub frames : p.machine.shape.frames ≡ meant (frames_of l)
  pub book : p.machine.book ≡ empty_book
  pub main_long : length p.memory.main ≡ length m.main
  pub swap_long : length p.memory.swap ≡ length m.swap
  pub fitting : fits p.machine.shape p.memory ≡ true
  pub sound_machine : sound p.machine p.memory ≡ true
  pub onward : (after : Verdict) → machine_verdict p after ≡ after
