-- Where a byte of the flat memory is, "as its entry says", and what code that goes there needs of a machine.
use Rattle.std.specs.Prelude.{List, ℕ, if◌then◌else◌}
use Rattle.model.specs.Pages.{page_of, offset, main_at, swap_of, swap_at}
use Rattle.model.specs.Table.{entry, ppx, valid}
use Rattle.model.specs.declared.Shape.{Shape}
use Rattle.laws.specs.Good.{Safe, SwapLong}
use Rattle.host.specs.declared.home.Home.{Home}
use Rattle.host.specs.declared.home.Home.TheVariants.{Main, Swap}

unfoldable pub home_of : Shape → List ℕ → ℕ → Home
home_of s main va =
    if valid (entry s main (page_of va)) then Main (main_at (ppx (entry s main (page_of va))) (offset va))
    else Swap (swap_at (swap_of s (page_of va)) (offset va))

-- both memories hold what the table names
pub record Reachable (s : Shape) (main : List ℕ) (swap_length : ℕ) : Type 0 where
  pub safe : Safe s main
  pub whole : SwapLong s swap_length
