-- What stands ready for a line: buffers of 64 and 80 pages, of which a part is lent, and room for an answer.
use Rattle.std.specs.Prelude.{◌≡◌, List, ℕ, ◌+◌, ◌≤◌, length}
use Rattle.session.specs.declared.Standing.{Standing}

-- the buffers; no answer is longer than 9000 bytes
pub record Room (main swap out : List ℕ) : Type 0 where
  pub main_long : length main ≡ 262144
  pub swap_long : length swap ≡ 327680
  pub out_long : 9000 ≤ length out

-- the bytes lent lie within the buffers
pub record Lent (at : Standing) : Type 0 where
  pub main_fits : at.main ≤ 262144
  pub swap_fits : at.swap ≤ 327680

-- for a line, with an answer from a place on
pub record Ready (at : Standing) (main swap : List ℕ) (out : List ℕ) (filled : ℕ) : Type 0 where
  pub lent : Lent at
  pub room : Room main swap out
  pub left : filled + 9000 ≤ length out
