-- Demand 3 for a series of steps, each handed what the last one left, as Series of the model has it: the loads that the series reports
-- are at most a times what any schedule on a frames pays for the instructions of the whole series in their order (`series_equal`),
-- and the same against a schedule on h ≤ a frames (`series_fewer`).
use mathlib.Core.List.{List, [], ◌∷◌}
use Prim.Native.Nat.{ℕ, ◌*◌, ◌+◌, ◌-◌, ◌≤◌}
use Rattle.model.specs.State.{State}
use Rattle.model.specs.Series.{SeriesStep, after_step, step_loads, step_order, after_all, loads_of_all, order_of_all}
use Rattle.model.specs.declared.VirtualPage.{VirtualPage}
use Rattle.bound.specs.Schedule.{Schedule, brings}
use Rattle.bound.specs.Orders.{Order}
use Rattle.bound.specs.Story.{Story, story_end}
use Rattle.bound.proofs.Story.{story_join, story_fewer, story_equal}

-- What is to be shown of one step on a sound state: it leaves a sound state, and a story of the resident pages has its order and its loads.
module _ (o : Order) (a : ℕ) (Sound : State → Type 0) (pages : State → List VirtualPage)
    (sound : (p : State) (s : SeriesStep) → Sound p → Sound (after_step p s))
    (story : (p : State) (s : SeriesStep) → Sound p → Story o a (pages p) (step_order p s) (step_loads p s) (pages (after_step p s))) where
  series_story : (p : State) (ss : List SeriesStep) → Sound p → Story o a (pages p) (order_of_all p ss) (loads_of_all p ss) (pages (after_all p ss))
  unfolding after_all order_of_all loads_of_all
  series_story p [] g = story_end
  series_story p (s ∷ ss) g = story_join (story p s g) (series_story (after_step p s) ss (sound p s g))

  pub series_fewer : (p : State) (ss : List SeriesStep) → Sound p → (h : ℕ) → h ≤ a → (rival : Schedule h [] (order_of_all p ss))
      → loads_of_all p ss * (a - h + 1) ≤ a * brings rival + a * (a - h)
  series_fewer p ss g h fewer rival = story_fewer (series_story p ss g) h fewer rival

  pub series_equal : (p : State) (ss : List SeriesStep) → Sound p → (rival : Schedule a [] (order_of_all p ss)) → loads_of_all p ss ≤ a * brings rival
  series_equal p ss g rival = story_equal (series_story p ss g) rival
