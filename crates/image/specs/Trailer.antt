-- The trailer's six numbers together.
use Rattle.std.specs.Prelude.{List, ℕ}
use Rattle.model.specs.Image.{trailer, ptl_of, start_of, frames_of}
use Rattle.image.specs.declared.trailer.Trailer.{Trailer}

abbrev pub trailer_of : List ℕ → Trailer
trailer_of l = record {
  rights = trailer l 0;
  pages = trailer l 1;
  ptl = ptl_of l;
  start = start_of l;
  frames = frames_of l;
  edition = trailer l 5;
}
