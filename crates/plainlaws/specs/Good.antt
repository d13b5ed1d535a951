-- A plain machine that the checks accept, as named facts: ptl and both lent lengths fit (`PlainFit`), GPR 0 is 0 and no rights byte is
-- above 3. The tests of plainmodel pass exactly where these hold: proofs/Granted.
use Rattle.std.specs.Prelude.{◌≡◌, List, ℕ, ◌+◌, ◌*◌, ◌<◌, ◌≤◌, length, get_or}
use Rattle.model.specs.Pages.{page_of}
use Rattle.plainmodel.specs.State.{PlainState}

pub record PlainFit (p : PlainState) : Type 0 where
  pub ptl_least : 1 ≤ p.plain.ptl
  pub ptl_most : p.plain.ptl ≤ 1024
  pub bytes_long : length p.bytes ≡ 4096 * p.plain.ptl
  pub rights_long : length p.rights ≡ p.plain.ptl

pub record PlainSound (p : PlainState) : Type 0 where
  pub zero : get_or p.plain.gpr 0 0 ≡ 0
  pub rights_most : (x : ℕ) → x < length p.rights → get_or p.rights x 0 ≤ 3

pub record PlainGood (p : PlainState) : Type 0 where
  pub fit : PlainFit p
  pub sound : PlainSound p

-- each of the n bytes from va on lies in a page that has rights
abbrev pub InRights : List ℕ → ℕ → ℕ → Type 0
InRights rights va n = (i : ℕ) → i < n → (page_of (va + i)).0 < length rights
