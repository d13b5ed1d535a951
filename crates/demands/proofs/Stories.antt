-- A run, a call and a series of steps beside the handler in the large: the same loads for the same instructions in the same order
-- (`run_handled`, `step_handled`, `series_handled`).
use mathlib.Core.Path.{◌≡◌, refl, sym, ap, ap₂, subst, ◌∙◌}
use mathlib.Core.Bool.{true}
use mathlib.Core.List.{List, [], ◌∷◌, ◌++◌, append-nil}
use Prim.Native.Nat.{ℕ, suc, ◌+◌}
use native.Mathlib.Omega.{arith}
use lib.ListN.{length, length-append}
use Rattle.std.specs.Prelude.{Ok, Err}
use Rattle.model.specs.Answers.{Verdict}
use Rattle.model.specs.State.{State}
use Rattle.model.specs.Run.{Step, goes, stops, Counted, uncounted, instruction, run}
use Rattle.model.specs.Order.{Demand, demand_of, onwards, order_of}
use Rattle.model.specs.Calls.{run_by, run_verdict, run_call, write_by, write_call, host_verdict, reply_by, reply_verdict, reply_call}
use Rattle.model.specs.Series.{Call, runs, reads, writes, views, replies, after, loads_of, order_by, call_order, SeriesStep, calls, spares, after_step, step_loads, step_order, after_all, loads_of_all, order_of_all}
use Rattle.model.specs.declared.Shape.{Shape}
use Rattle.model.specs.declared.FrameBook.{FrameBook}
use Rattle.model.specs.declared.VirtualPage.{VirtualPage}
use Rattle.laws.specs.Good.{Good}
use Rattle.laws.specs.Mapped.{leaves, map_step}
use Rattle.laws.specs.Demand2.{flat_of}
use Rattle.laws.specs.Named.{names_onward, names_granted, along_run, along_call}
use Rattle.laws.proofs.Simulate.{run_all}
use Rattle.laws.proofs.Instruction.{instruction_right}
use Rattle.laws.proofs.Run.{GoodCounted, keeps, first_shape}
use Rattle.laws.proofs.Spare.{spared_machine}
use Rattle.laws.proofs.Calls.{step_good, step_size}
use Rattle.bound.specs.Orders.{Order}
use Rattle.bound.specs.Frames.{pages, Keeps}
use Rattle.bound.specs.Handler as large
use Rattle.bound.proofs.Handler.{handle_append}
use Rattle.demands.specs.Brought.{instruction_brings, run_brings, call_brings, step_brings, series_brings, bare, Steps, no_step, one_step}
use Rattle.demands.specs.Demand3.{frames, residents}
use Rattle.demands.proofs.Turns.{at_large, Handled, instruction_handled}

-- ---- one part after another
steps_join : {a : ℕ} {ys zs : List VirtualPage} {b b' b'' : FrameBook} → Steps a b ys b' → Steps a b' zs b'' → Steps a b (ys ++ zs) b''
steps_join no_step t = t
steps_join (one_step y r s) t = one_step y r (steps_join s t)

steps_over : {a a' : ℕ} {ys : List VirtualPage} {b b' : FrameBook} → a ≡ a' → Steps a b ys b' → Steps a' b ys b'
steps_over {ys = ys} {b = b} {b' = b'} e t = subst (λ (x : ℕ). Steps x b ys b') e t

-- ---- the order of a run and what it brings in, by what its first instruction comes to
first_order : (n : ℕ) (c : Counted) → Good c.state → (r : Step Counted) → instruction c ≡ r
    → order_of (suc n) (flat_of c) ≡ demand_of (flat_of c) ++ onwards (map_step flat_of r) (λ next. order_of n next)
unfolding order_of
first_order n c g r e =
    ap (λ z. demand_of (flat_of c) ++ onwards z (λ next. order_of n next)) (sym (instruction_right c g).same ∙ ap (map_step flat_of) e)

first_brings : (n : ℕ) (c : Counted) (r : Step Counted) → instruction c ≡ r
    → run_brings (suc n) c ≡ instruction_brings c.state ++ names_onward r (λ next. run_brings n next)
unfolding along_run
first_brings n c r e = ap (λ z. instruction_brings c.state ++ names_onward z (λ next. run_brings n next)) e

-- a state with the pages loaded so far; those copied back are not counted here
abbrev pub having : State → ℕ → Counted
having p n = record { state = p; loads = n; copied = 0 }

-- the loads of a series, after n before it
after_loads : (n : ℕ) (p r : State) (k : ℕ) (ys : List VirtualPage) (t : large.Handling)
    → Handled (uncounted p) (having r k) ys t → Handled (having p n) (having r (n + k)) ys t
after_loads n p r k ys t h = record { counted = omega (arith, h.counted); many = h.many; left = h.left; steps = h.steps }

-- ---- a machine whose book keeps the order o
module _ (o : Order) (kept : Keeps o) where
  join : (c e z : Counted) (ys zs : List VirtualPage) (ds es : List Demand) → frames e.state ≡ frames c.state
      → Handled c e ys (at_large o c.state ds)
      → Handled e z zs (at_large o e.state es)
      → Handled c z (ys ++ zs) (at_large o c.state (ds ++ es))
  join c e z ys zs ds es same t u =
      let w = handle_append o (frames c.state) ds es (residents c.state) in
      let v : Handled e z zs (large.handle o (frames c.state) es (at_large o c.state ds).left)
      = subst (λ x. Handled e z zs x) (ap₂ (λ (a : ℕ) (l : List VirtualPage). large.handle o a es l) same t.left) u in
      record {
        counted = omega (arith, v.counted, t.counted, length-append ys zs);
        many = omega (arith, v.many, t.many, length-append ys zs, w.0);
        left = v.left ∙ sym w.1;
        steps = steps_join t.steps (steps_over same v.steps);
      }

  -- ---- a run
  first_handled : (c : Counted) → Good c.state → (r : Step Counted) → instruction c ≡ r
      → Handled c (leaves r) (instruction_brings c.state) (at_large o c.state (demand_of (flat_of c)))
  first_handled c g r e = rw e at (instruction_handled o kept c g)

  pub run_handled : (n : ℕ) (c : Counted) → Good c.state
      → Handled c (run instruction n c).left (run_brings n c) (at_large o c.state (order_of n (flat_of c)))
  unfolding large.handle order_of along_run
  run_handled =
      run_all instruction GoodCounted keeps
      (λ n c r. Handled c r.left (run_brings n c) (at_large o c.state (order_of n (flat_of c))))
      (λ c g. record { counted = omega arith; many = refl; left = refl; steps = no_step })
      (λ n c g s k left e h.
      rw (first_order n c g (stops s k left) e, first_brings n c (stops s k left) e) (simp append-nil (first_handled c g (stops s k left) e)))
      (λ n c g next e h t.
      rw (first_order n c g (goes next) e, first_brings n c (goes next) e)
      (join c next _ (instruction_brings c.state) (run_brings n next) (demand_of (flat_of c)) (order_of n (flat_of next))
      (ap (λ (x : Shape). x.frames) (first_shape c g next (ap leaves e))) (first_handled c g (goes next) e) t))

  -- ---- a call, a step, and a series of steps
  -- one that leaves the book as it is but for the marks
  still : (p r : State) → bare r.machine.book ≡ bare p.machine.book → Handled (uncounted p) (having r 0) [] (at_large o p [])
  unfolding large.handle
  still p r e = record {
    counted = omega arith;
    many = refl;
    left = ap pages e;
    steps = subst (λ x. Steps (frames p) (bare p.machine.book) [] x) (sym e) no_step;
  }

  call_handled : (p : State) (c : Call) → Good p
      → Handled (uncounted p) (having (after p c) (loads_of p c)) (call_brings p c) (at_large o p (call_order p c))
  unfolding after loads_of call_order along_call run_call write_call reply_call
  call_handled p (runs n) g = by (run_verdict p n)
    where
      by : (v : Verdict)
          → Handled (uncounted p) (having (run_by v p n).state (run_by v p n).numbers.loads) (names_granted v (run_brings n (uncounted p)))
          (at_large o p (order_by v p n))
      by (Ok tt) =
          let t = run_handled n (uncounted p) g in
          record { counted = t.counted; many = t.many; left = t.left; steps = t.steps }
      by (Err r) = still p p refl
  call_handled p (reads va n) g = still p p refl
  call_handled p (writes va bytes) g = by (host_verdict true p va (length bytes))
    where
      by : (v : Verdict) → Handled (uncounted p) (having (write_by v p va bytes).state 0) [] (at_large o p [])
      by (Ok tt) = still p _ refl
      by (Err r) = still p p refl
  call_handled p (views x) g = still p p refl
  call_handled p (replies i v) g = by (reply_verdict i)
    where
      by : (w : Verdict) → Handled (uncounted p) (having (record { machine = (reply_by w p.machine i v).machine; memory = p.memory }) 0) [] (at_large o p [])
      by (Ok tt) = still p _ refl
      by (Err r) = still p _ refl

  pub step_handled : (p : State) (s : SeriesStep) → Good p
      → Handled (uncounted p) (having (after_step p s) (step_loads p s)) (step_brings p s) (at_large o p (step_order p s))
  unfolding after_step step_loads step_order step_brings
  step_handled p (calls c) g = call_handled p c g
  step_handled p (spares x v) g = still p _ (ap (λ m. bare m.book) (spared_machine p g x v))

  pub series_handled : (p : State) (ss : List SeriesStep) → Good p
      → Handled (uncounted p) (having (after_all p ss) (loads_of_all p ss)) (series_brings p ss) (at_large o p (order_of_all p ss))
  unfolding after_all loads_of_all order_of_all series_brings
  series_handled p [] g = still p p refl
  series_handled p (s ∷ ss) g =
      let q : State = after_step p s in
      join (uncounted p) (having q (step_loads p s)) (having (after_all q ss) (step_loads p s + loads_of_all q ss)) (step_brings p s) (series_brings q ss)
      (step_order p s) (order_of_all q ss) (ap (λ (x : Shape). x.frames) (step_size p g s).shape) (step_handled p s g)
      (after_loads (step_loads p s) q (after_all q ss) (loads_of_all q ss) _ _ (series_handled q ss (step_good p g s)))
