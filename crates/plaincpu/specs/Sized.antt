-- What is required of the lent slices: "one flat lent memory of ptl pages and a rights byte for each".
use Rattle.std.specs.Prelude.{◌≡◌, List, ℕ, ◌*◌, ◌≤◌, length}

pub record Sized (rights bytes : List ℕ) : Type 0 where
  pub long : length bytes ≡ 4096 * length rights
  pub most : length rights ≤ 1024
