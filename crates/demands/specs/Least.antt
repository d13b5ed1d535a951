-- Hosts ask how many main pages an image needs at least (`least_main_pages`), by the frames that the reader answered. What they are told is
-- loading's own rule: of an image that the reader takes, so many whole pages, or more up to 64, are taken, and less is refused 7. The
-- theorem is `every_least` of proofs/Least.
use Rattle.std.specs.Prelude.{◌≡◌, List, ℕ, ◌*◌, ◌≤◌, ◌<◌, length}
use Rattle.model.specs.State.{Memory}
use Rattle.model.specs.Image.{ptl_of, frames_of, image_call, least_main_pages, load_call}

pub record Least (l : List ℕ) : Type 0 where
  -- it is itself a number of pages that may be lent, of "3 to 64"
  pub pages_least : 3 ≤ least_main_pages (frames_of l)
  pub pages_most : least_main_pages (frames_of l) ≤ 33
  -- "at least 1+frames", where "A zero in the image's frames field shall mean 4."
  pub enough : (m : Memory) (n : ℕ) → length m.main ≡ 4096 * n → least_main_pages (frames_of l) ≤ n → n ≤ 64
      → length m.swap ≡ 4096 * ptl_of l → (load_call l m).verdict.refused ≡ 0
  pub fewer : (m : Memory) → length m.main < 4096 * least_main_pages (frames_of l) → (load_call l m).verdict.refused ≡ 7

abbrev pub EveryLeast : Type 0
EveryLeast = (l : List ℕ) → (image_call l).numbers.verdict.refused ≡ 0 → Least l
