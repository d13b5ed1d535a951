-- Demand 3: an instruction (`instruction_demand`), a run (`run_demand`), and from a fresh machine any series of steps (`demand_3`).
use mathlib.Core.Path.{◌≡◌, refl, sym, ap, subst, ◌∙◌}
use mathlib.Core.List.{List, []}
use Prim.Native.Nat.{ℕ, ◌+◌, ◌<◌, ◌≤◌}
use native.Mathlib.Omega.{arith}
use lib.ListN.{length, length-replicate, get_or-replicate}
use lib.Seq.{ext_get_or}
use Rattle.model.specs.Pages.{virtual}
use Rattle.model.specs.Frames.{page_in, empty_book}
use Rattle.model.specs.State.{State}
use Rattle.model.specs.Run.{Course, Counted, uncounted, instruction, run}
use Rattle.model.specs.Flat.{Flat, flat}
use Rattle.model.specs.Order.{Demand, order_of}
use Rattle.model.specs.Answers.{stop_number}
use Rattle.model.specs.Calls.{run_call}
use Rattle.model.specs.Series.{SeriesStep, after_step, step_loads, step_order, after_all, loads_of_all, order_of_all}
use Rattle.model.specs.declared.Shape.{Shape}
use Rattle.model.specs.declared.FrameBook.{FrameBook}
use Rattle.model.specs.declared.VirtualPage.{VirtualPage}
use Rattle.laws.specs.Good.{Good}
use Rattle.laws.proofs.Run.{run_right}
use Rattle.laws.proofs.Granted.{run_reported}
use Rattle.laws.proofs.Calls.{step_good, step_size}
use Rattle.bound.specs.Orders.{Order}
use Rattle.bound.specs.Story.{Story}
use Rattle.bound.specs.Frames.{pages, Keeps}
use Rattle.bound.specs.Handler.{handle}
use Rattle.bound.proofs.Series.{series_equal, series_fewer}
use Rattle.bound.proofs.Frames.{keeps_first_come}
use Rattle.bound.proofs.Handler.{handle_story}
use Rattle.bound.proofs.Own.{own}
use Rattle.demands.specs.Brought.{run_brings, step_brings, series_brings, bare, Steps}
use Rattle.demands.specs.Demand3.{frames, residents, leaving, stopped_fetch, InstructionServed, RunServed, RunsServed, Fresh, SeriesServed, Demand3}
use Rattle.demands.proofs.Turns.{at_large, Handled, instruction_served}
use Rattle.demands.proofs.OrderLength.{order_length}
use Rattle.demands.proofs.Stories.{having, run_handled, step_handled, series_handled}

-- ---- a machine whose book keeps the order o
module _ (o : Order) (kept : Keeps o) where
  -- what the handler in the large does is a story
  module _ (p : State) (e : Counted) (ys : List VirtualPage) (ds : List Demand) (t : Handled (uncounted p) e ys (at_large o p ds)) where
    counted : e.loads ≡ length ys
    counted = omega (arith, t.counted)

    same_loads : (at_large o p ds).loads ≡ e.loads
    same_loads = omega (arith, t.counted, t.many)

    story : Story o (frames p) (residents p) ds e.loads (residents e.state)
    story =
        subst (λ (k : ℕ). Story o (frames p) (residents p) ds k (residents e.state)) same_loads
        (rw t.left (handle_story o (frames p) ds (residents p)))

  -- ---- a run
  run_served : (p : State) → Good p → (n : ℕ) → n ≤ 1000000 → RunServed o p n (run_call p n)
  run_served p g n few = rw (run_reported p g n few) (record {
    counted = counted p r.left (run_brings n (uncounted p)) (order_of n (flat p)) h;
    steps = h.steps;
    story = story p r.left (run_brings n (uncounted p)) (order_of n (flat p)) h;
    order = order_length n (flat p) ∙ ap counts (sym (run_right n (uncounted p) g).same);
  })
    where
      r : Course Counted
      r = run instruction n (uncounted p)

      h : Handled (uncounted p) r.left (run_brings n (uncounted p)) (at_large o p (order_of n (flat p)))
      h = run_handled o kept n (uncounted p) g

      counts : Course Flat → ℕ
      counts c = c.finished + stopped_fetch (stop_number c.stop) c.left

  -- ---- a series: every step leaves a good machine with as many frames, and has its story
  abbrev Ready : ℕ → State → Type 0
  Ready a p = Good p × (frames p ≡ a)

  module _ (a : ℕ) where
    step_ready : (p : State) (s : SeriesStep) → Ready a p → Ready a (after_step p s)
    step_ready p s r = (step_good p r.0 s, ap (λ (x : Shape). x.frames) (step_size p r.0 s).shape ∙ r.1)

    step_story : (p : State) (s : SeriesStep) → Ready a p → Story o a (residents p) (step_order p s) (step_loads p s) (residents (after_step p s))
    step_story p s r =
        subst (λ (x : ℕ). Story o x (residents p) (step_order p s) (step_loads p s) (residents (after_step p s))) r.1
        (story p (having (after_step p s) (step_loads p s)) (step_brings p s) (step_order p s) (step_handled o kept p s r.0))

  module _ (p : State) (g : Good p) (e : p.machine.book ≡ empty_book) (ss : List SeriesStep) where
    h : Handled (uncounted p) (having (after_all p ss) (loads_of_all p ss)) (series_brings p ss) (at_large o p (order_of_all p ss))
    h = series_handled o kept p ss g

    -- the loads of the handler in the large from no page on
    fresh_loads : (handle o (frames p) (order_of_all p ss) []).loads ≡ loads_of_all p ss
    fresh_loads =
        ap (λ (q : List VirtualPage). (handle o (frames p) (order_of_all p ss) q).loads) (sym (ap pages e))
        ∙ same_loads p (having (after_all p ss) (loads_of_all p ss)) (series_brings p ss) (order_of_all p ss) h

    fresh_served : SeriesServed (frames p) p ss
    fresh_served = record {
      counted = counted p (having (after_all p ss) (loads_of_all p ss)) (series_brings p ss) (order_of_all p ss) h;
      steps = subst (λ (b : FrameBook). Steps (frames p) b (series_brings p ss) (bare (after_all p ss).machine.book)) (ap bare e) h.steps;
      bound = λ rival.
          omega (arith, series_equal o (frames p) (Ready (frames p)) residents (step_ready (frames p)) (step_story (frames p)) p ss (g, refl) rival);
      own = let z = own o (frames p) g.fit.frames_least (order_of_all p ss) in (z.0, z.1 ∙ fresh_loads);
      fewer = series_fewer o (frames p) (Ready (frames p)) residents (step_ready (frames p)) (step_story (frames p)) p ss (g, refl);
    }

-- ---- the machine's order
kept : Keeps leaving
kept = keeps_first_come

pub instruction_demand : InstructionServed
instruction_demand = instruction_served leaving kept

pub run_demand : RunsServed
run_demand = run_served leaving kept

-- a sound machine with b = 0 is fresh: hand is 0, and so is B, and there is no mark
pub fresh : (p : State) → Good p → p.machine.book.used ≡ 0 → Fresh (frames p) p
fresh p g e = record { good = g; frames = refl; empty = λ i. record { used = e i; hand = hand i; held = held i; marks = marks i } }
  where
    b : FrameBook
    b = p.machine.book

    hand : b.hand ≡ 0
    hand = g.hand.still (omega (arith, e, g.fit.frames_least))

    zero_page : (i : ℕ) → i < 32 → page_in b i ≡ page_in empty_book i
    zero_page i q = g.seated.rest i (omega (arith, e)) q ∙ sym (get_or-replicate 32 i (virtual 0) (virtual 0) q)

    held : b.held ≡ empty_book.held
    held =
        ext_get_or (virtual 0) b.held empty_book.held (g.seated.booked.array ∙ sym (length-replicate 32 (virtual 0)))
        (λ i q. zero_page i (omega (arith, q, g.seated.booked.array)))

    marks : b.marks ≡ 0
    marks = omega (arith, rw e at g.clean.unused)

pub demand_3 : Demand3
demand_3 a p f ss = subst (λ (x : ℕ). SeriesServed x p ss) f.frames (fresh_served leaving kept p f.good f.empty ss)
