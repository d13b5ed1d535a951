-- What loading accepts, as named facts: an image that is known (`Known`) and well formed (`Formed`), and lent memories that it fits
-- (`Roomy`); all three are `Accepted`. The tests of the model pass exactly where these hold: proofs/Formed.
use Rattle.std.specs.Prelude.{◌≡◌, ◌⊎◌, List, ℕ, ◌+◌, ◌*◌, ◌/◌, ◌%◌, ◌<◌, ◌≤◌, length, get_or}
use Rattle.model.specs.State.{Memory}
use Rattle.model.specs.Image.{trailer, ptl_of, start_of, frames_of, rights_of, meant}

-- not "under 24 bytes", and edition 1
pub record Known (l : List ℕ) : Type 0 where
  pub long : 24 ≤ length l
  pub edition : trailer l 5 ≡ 1

-- "Frames is 2 to 32, or 0"
abbrev pub SomeFrames : ℕ → Type 0
SomeFrames n = (n ≡ 0) ⊎ ((2 ≤ n) × (n ≤ 32))

-- every trailer number, each rights byte and the label's length keeps its rule
pub record Formed (l : List ℕ) : Type 0 where
  -- "With ptl 1 to 1024, the distances must be 24+ptl and 24+ptl+4096·ptl and lie within the file."
  pub ptl_least : 1 ≤ ptl_of l
  pub ptl_most : ptl_of l ≤ 1024
  pub to_rights : trailer l 0 ≡ 24 + ptl_of l
  pub to_pages : trailer l 1 ≡ 24 + ptl_of l + 4096 * ptl_of l
  pub within : trailer l 1 ≤ length l
  -- "At most 1024 bytes may stand before the pages (a maker's label, skipped)."
  pub label_most : length l ≤ trailer l 1 + 1024
  -- "Rights: one byte a page, 1 read, 2 write, 3 both, 0 none."
  pub rights_most : (x : ℕ) → x < ptl_of l → get_or (rights_of l) x 0 ≤ 3
  -- "Start is a multiple of 4."
  pub start_aligned : start_of l % 4 ≡ 0
  pub frames_known : SomeFrames (frames_of l)

-- "Swap must be 4096·ptl bytes; main memory 3 to 64 whole pages, at least 1+frames."
pub record Roomy (frames ptl main_length swap_length : ℕ) : Type 0 where
  pub whole : main_length % 4096 ≡ 0
  pub pages_least : 3 ≤ main_length / 4096
  pub pages_most : main_length / 4096 ≤ 64
  pub frames_in : 1 + meant frames ≤ main_length / 4096
  pub swap_long : swap_length ≡ 4096 * ptl

pub record Accepted (l : List ℕ) (m : Memory) : Type 0 where
  pub known : Known l
  pub formed : Formed l
  pub roomy : Roomy (frames_of l) (ptl_of l) (length m.main) (length m.swap)
