-- What stands ready for a line: buffers of 80 pages and of a byte for each, of which a part is lent, and room for an answer.
use Rattle.std.specs.Prelude.{◌≡◌, List, ℕ, ◌+◌, ◌≤◌, length}
use Rattle.plainsession.specs.declared.Standing.{Standing}

-- the buffers; no answer is longer than 9000 bytes
pub record Room (memory rights out : List ℕ) : Type 0 where
  pub memory_long : length memory ≡ 327680
  pub rights_long : length rights ≡ 80
  pub out_long : 9000 ≤ length out

-- the bytes lent lie within the buffers
pub record Lent (at : Standing) : Type 0 where
  pub memory_fits : at.memory ≤ 327680
  pub rights_fits : at.rights ≤ 80

-- for a line, with an answer from a place on
pub record Ready (at : Standing) (memory rights : List ℕ) (out : List ℕ) (filled : ℕ) : Type 0 where
  pub lent : Lent at
  pub room : Room memory rights out
  pub left : filled + 9000 ≤ length out
