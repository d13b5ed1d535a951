-- What an instruction and a run come to, seen through a map of machines: the stop and the instructions finished stay. And what no
-- load, no instruction and no run changes: the shape, and the lengths of both memories.
use Rattle.std.specs.Prelude.{◌≡◌, length}
use Rattle.model.specs.State.{State}
use Rattle.model.specs.Run.{Step, goes, stops, Course}

module _ {M : Type 0} where
  -- the machine that an instruction leaves
  abbrev pub leaves : Step M → M
  leaves (goes m) = m
  leaves (stops s n m) = m

  module _ {N : Type 0} (f : M → N) where
    abbrev pub map_step : Step M → Step N
    map_step (goes m) = goes (f m)
    map_step (stops s n m) = stops s n (f m)

    abbrev pub map_course : Course M → Course N
    map_course c = record { stop = c.stop; finished = c.finished; left = f c.left }

pub record SameSize (p q : State) : Type 0 where
  pub shape : q.machine.shape ≡ p.machine.shape
  pub main_long : length q.memory.main ≡ length p.memory.main
  pub swap_long : length q.memory.swap ≡ length p.memory.swap
