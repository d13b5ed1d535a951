-- The plain engine gives what the paged machine gives (`every_same`): on a good machine and on the plain one that it stands for each
-- step answers the same (Says) and leaves the same (`same_left`), so any series does; and loading makes such two of an image.
use mathlib.Core.Path.{◌≡◌, refl, sym, ap, ap₂, subst, ◌∙◌}
use mathlib.Core.Logic.{◌↔◌}
use mathlib.Core.Bool.{true}
use mathlib.Core.List.{List, [], ◌∷◌}
use Prim.Native.Nat.{ℕ, ◌≤◌}
use native.Mathlib.Omega.{arith}
use native.Mathlib.Decide.{ℕ_discrete}
use lib.ListN.{length}
use Rattle.std.specs.Prelude.{Ok, Err}
use Rattle.model.specs.Answers.{Verdict}
use Rattle.model.specs.State.{Memory, State}
use Rattle.model.specs.Run.{uncounted, run, instruction}
use Rattle.model.specs.Flat.{Flat, flat}
use Rattle.model.specs.Calls as paged
use Rattle.model.specs.Image as paged-load
use Rattle.model.specs.Series.{Call, runs, reads, writes, views, replies, after, SeriesStep, calls, spares, spared, after_step, after_all}
use Rattle.model.specs.declared.Shape.{Shape}
use Rattle.laws.specs.Good.{Good}
use Rattle.laws.proofs.Run.{run_right}
use Rattle.laws.proofs.Spare.{spared_machine, spared_flat}
use Rattle.laws.proofs.Granted.{refused}
use Rattle.laws.proofs.Calls.{write_call_lem, write_machine, step_good}
use Rattle.plainmodel.specs.State.{PlainState, plain_state}
use Rattle.plainmodel.specs.Calls as plain
use Rattle.plainmodel.specs.Load as plain-load
use Rattle.plainmodel.specs.Series as plain-series
use Rattle.demands.specs.Loaded.{image_flat}
use Rattle.demands.specs.Same.{Said, paged_tells, plain_tells, SameMachine, SameSeries, EverySame}
use Rattle.demands.proofs.Demand1.{demand_1}
use Rattle.demands.proofs.Plain1.{plain_1}
use Rattle.demands.proofs.Loaded.{loaded}
use Rattle.demands.proofs.Stands.{beside, plain_of, run_verdict_lem, host_verdict_lem}
use Rattle.demands.proofs.Says.{same_says}

module _ (p : State) (g : Good p) where
  abbrev q : PlainState
  q = plain_of p

  -- ---- a step leaves the flat machine of what the paged one leaves, and ptl as it was
  stands_for : (next : State) → next.machine.shape ≡ p.machine.shape → (f : Flat) → flat next ≡ f
      → beside p.machine.shape.ptl f ≡ plain_of next
  stands_for next e f h = ap₂ beside (sym (ap (λ (s : Shape). s.ptl) e)) (sym h)

  run_left : (n : ℕ) → (plain.run_call q n).state ≡ plain_of (paged.run_call p n).state
  unfolding paged.run_call plain.run_call flat
  run_left n = ap (λ v. (plain.run_by v q n).state) (sym (run_verdict_lem p g n)) ∙ by (paged.run_verdict p n)
    where
      by : (v : Verdict) → (plain.run_by v q n).state ≡ plain_of (paged.run_by v p n).state
      by (Ok tt) =
          let r = run_right n (uncounted p) g in
          stands_for (run instruction n (uncounted p)).left.state r.size.shape _ (ap (λ c. c.left) r.same)
      by (Err r) = refl

  write_left : (va : ℕ) (from : List ℕ)
      → plain_state q.plain (plain.write_call q va from).bytes q.rights ≡ plain_of (paged.write_call p va from).state
  unfolding paged.write_call plain.write_call flat
  write_left va from = ap wrote (sym (host_verdict_lem p g true va (length from))) ∙ by (paged.host_verdict true p va (length from)) refl
    where
      wrote : Verdict → PlainState
      wrote v = plain_state q.plain (plain.write_by v q va from).bytes q.rights

      by : (v : Verdict) → paged.host_verdict true p va (length from) ≡ v → wrote v ≡ plain_of (paged.write_call p va from).state
      by (Ok tt) e =
          stands_for (paged.write_call p va from).state (ap (λ m. m.shape) (write_machine p g va from)) _
          (write_call_lem p g va from (ap (λ v. (paged.write_by v p va from).verdict.refused) e))
      by (Err r) e = ap (λ v. plain_of (paged.write_by v p va from).state) (sym e)

  reply_left : (i v : ℕ)
      → plain_state (plain.reply_call q.plain i v).plain q.bytes q.rights
      ≡ plain_of (record { machine = (paged.reply_call p.machine i v).machine; memory = p.memory })
  unfolding paged.reply_call plain.reply_call flat
  reply_left i v = by (paged.reply_verdict i)
    where
      by : (w : Verdict)
          → plain_state (plain.reply_by w q.plain i v).plain q.bytes q.rights
          ≡ plain_of (record { machine = (paged.reply_by w p.machine i v).machine; memory = p.memory })
      by (Ok tt) = refl
      by (Err r) = refl

  call_left : (c : Call) → plain-series.after q c ≡ plain_of (after p c)
  unfolding after plain-series.after
  call_left (runs n) = run_left n
  call_left (reads va n) = refl
  call_left (writes va from) = write_left va from
  call_left (views x) = refl
  call_left (replies i v) = reply_left i v

  same_left : (s : SeriesStep) → plain-series.after_step q s ≡ plain_of (after_step p s)
  unfolding after_step plain-series.after_step
  same_left (calls c) = call_left c
  same_left (spares x n) = stands_for (spared p x n) (ap (λ m. m.shape) (spared_machine p g x n)) (flat p) (spared_flat p g x n)

-- ---- a series
all_say : (p : State) → Good p → (ss : List SeriesStep) → paged_tells p ss ≡ plain_tells (plain_of p) ss
unfolding paged_tells plain_tells
all_say p g [] = refl
all_say p g (s ∷ ss) =
    ap₂ {B = List Said} {C = List Said} (λ x xs. x ∷ xs) (same_says p g s)
    (all_say (after_step p s) (step_good p g s) ss ∙ ap (λ q. plain_tells q ss) (sym (same_left p g s)))

all_left : (p : State) → Good p → (ss : List SeriesStep) → plain-series.after_all (plain_of p) ss ≡ plain_of (after_all p ss)
unfolding after_all plain-series.after_all
all_left p g [] = refl
all_left p g (s ∷ ss) = ap (λ q. plain-series.after_all q ss) (same_left p g s) ∙ all_left (after_step p s) (step_good p g s) ss

stands_same : (p : State) → SameMachine p (plain_of p)
unfolding flat
stands_same p = record { gpr = refl; pcs = refl; bytes = refl; rights = refl; ptl = refl }

same_series : (p : State) → Good p → (ss : List SeriesStep) → SameSeries p (plain_of p) ss
same_series p g ss = record { answers = all_say p g ss; machine = rw (all_left p g ss) (stands_same (after_all p ss)) }

-- ---- loading
load_left : (l bytes rights : List ℕ) → (plain-load.load_call l bytes rights).verdict.refused ≡ 0
    → (plain-load.load_call l bytes rights).state ≡ plain-load.fresh l
unfolding plain-load.load_call
load_left l bytes rights = by (plain-load.load_verdict l bytes rights)
  where
    by : (v : Verdict) → (plain-load.load_by v l bytes rights).verdict.refused ≡ 0
        → (plain-load.load_by v l bytes rights).state ≡ plain-load.fresh l
    by (Ok tt) e = refl
    by (Err r) e = refused r e

fresh_stands : (l : List ℕ) (m : Memory) → (paged-load.load_call l m).verdict.refused ≡ 0
    → plain_of (paged-load.load_call l m).state ≡ plain-load.fresh l
unfolding plain-load.fresh image_flat
fresh_stands l m e = let t = loaded l m e in ap₂ beside (ap (λ (s : Shape). s.ptl) t.shape) t.stands

-- both refuse by 5 where the image is unknown, and by 6 where it is known and not well formed
same_case : {A B C : Type 0} → A ↔ C → B ↔ C → A ↔ B
same_case a b = (λ h. b.1 (a.0 h), λ h. a.1 (b.0 h))

refusals : (l : List ℕ) (m : Memory) (bytes rights : List ℕ) (n : ℕ) → 5 ≤ n → n ≤ 6
    → ((paged-load.load_call l m).verdict.refused ≡ n) ↔ ((plain-load.load_call l bytes rights).verdict.refused ≡ n)
refusals l m bytes rights n least most =
    let a = (demand_1.exactly_when.loading l m).exactly in
    let b = (plain_1.exactly_when.loading l bytes rights).exactly in
    by (same_case a.0 b.0) (same_case a.1.0 b.1.0) (ℕ_discrete n 5)
  where
    same : ℕ → Type 0
    same k = ((paged-load.load_call l m).verdict.refused ≡ k) ↔ ((plain-load.load_call l bytes rights).verdict.refused ≡ k)

    by : same 5 → same 6 → Dec (n ≡ 5) → same n
    by five six (yes e) = subst same (sym e) five
    by five six (no o) = subst same (omega (arith, least, most, o)) six

pub every_same : EverySame
every_same = record {
  series = λ l m bytes rights e f ss.
      rw (load_left l bytes rights f ∙ sym (fresh_stands l m e)) (same_series (paged-load.load_call l m).state (loaded l m e).good ss);
  refusals = refusals;
}
