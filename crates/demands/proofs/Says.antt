-- Each step of a series answers the same on a good machine and on the plain one that it stands for (`same_says`).
use mathlib.Core.Path.{◌≡◌, refl, ap, ◌∙◌}
use mathlib.Core.Bool.{true, false}
use mathlib.Core.List.{List, []}
use Prim.Native.Nat.{ℕ}
use lib.ListN.{length, replicate}
use Rattle.std.specs.Prelude.{Ok, Err}
use Rattle.model.specs.Answers.{Verdict}
use Rattle.model.specs.State.{State}
use Rattle.model.specs.Run.{Course, uncounted}
use Rattle.model.specs.Flat.{Flat, flat}
use Rattle.model.specs.Calls as paged
use Rattle.model.specs.Series.{Call, runs, reads, writes, views, replies, SeriesStep, calls, spares}
use Rattle.model.specs.declared.VirtualPage.{VirtualPage}
use Rattle.laws.specs.Good.{Good}
use Rattle.laws.proofs.Run.{run_right}
use Rattle.laws.proofs.Host.{read_flat, view_flat}
use Rattle.laws.proofs.Granted.{host_inside, view_inside}
use Rattle.plainmodel.specs.State.{PlainState}
use Rattle.plainmodel.specs.Calls as plain
use Rattle.demands.specs.Same.{Said, said, paged_ran, paged_call, plain_ran, plain_call, paged_says, plain_says}
use Rattle.demands.proofs.Stands.{plain_of, run_verdict_lem, host_verdict_lem, view_verdict_lem}

-- what a read and a view answer
abbrev paged_read : paged.ReadOutcome → Said
paged_read o = said o.verdict.refused o.buffer

abbrev plain_read : plain.ReadOutcome → Said
plain_read o = said o.verdict.refused o.buffer

abbrev paged_view : paged.ViewOutcome → Said
paged_view o = said o.verdict.refused o.part

abbrev plain_view : plain.ViewOutcome → Said
plain_view o = said o.verdict.refused o.part

module _ (p : State) (g : Good p) where
  abbrev q : PlainState
  q = plain_of p

  run_says : (n : ℕ) → paged_ran (paged.run_call p n) ≡ plain_ran (plain.run_call q n)
  unfolding paged.run_call plain.run_call flat
  run_says n = by (paged.run_verdict p n) ∙ ap (λ v. plain_ran (plain.run_by v q n)) (run_verdict_lem p g n)
    where
      by : (v : Verdict) → paged_ran (paged.run_by v p n) ≡ plain_ran (plain.run_by v q n)
      by (Ok tt) = ap (λ (c : Course Flat). plain_ran (plain.reported q c)) (run_right n (uncounted p) g).same
      by (Err r) = refl

  read_says : (va : ℕ) (buffer : List ℕ) → paged_read (paged.read_call p va buffer) ≡ plain_read (plain.read_call q va buffer)
  unfolding paged.read_call plain.read_call flat
  read_says va buffer =
      by (paged.host_verdict false p va (length buffer)) refl
      ∙ ap (λ v. plain_read (plain.read_by v q va buffer)) (host_verdict_lem p g false va (length buffer))
    where
      by : (v : Verdict) → paged.host_verdict false p va (length buffer) ≡ v
          → paged_read (paged.read_by v p va buffer) ≡ plain_read (plain.read_by v q va buffer)
      by (Ok tt) e = ap (said 0) (read_flat p.machine.shape p.memory va (length buffer) (host_inside false p va (length buffer) e))
      by (Err r) e = refl

  write_says : (va : ℕ) (from : List ℕ) → (paged.write_call p va from).verdict.refused ≡ (plain.write_call q va from).verdict.refused
  unfolding paged.write_call plain.write_call
  write_says va from =
      by (paged.host_verdict true p va (length from))
      ∙ ap (λ v. (plain.write_by v q va from).verdict.refused) (host_verdict_lem p g true va (length from))
    where
      by : (v : Verdict) → (paged.write_by v p va from).verdict.refused ≡ (plain.write_by v q va from).verdict.refused
      by (Ok tt) = refl
      by (Err r) = refl

  view_says : (x : VirtualPage) → paged_view (paged.view_call p x) ≡ plain_view (plain.view_call q x)
  unfolding paged.view_call plain.view_call flat
  view_says x = by (paged.view_verdict p x) refl ∙ ap (λ v. plain_view (plain.view_by v q x)) (view_verdict_lem p g x)
    where
      by : (v : Verdict) → paged.view_verdict p x ≡ v → paged_view (paged.view_by v p x) ≡ plain_view (plain.view_by v q x)
      by (Ok tt) e =
          ap (said 0) (view_flat p.machine.shape p.machine.book p.memory g.fit g.whole g.seated x (view_inside p x e))
      by (Err r) e = refl

  reply_says : (i v : ℕ) → (paged.reply_call p.machine i v).verdict.refused ≡ (plain.reply_call q.plain i v).verdict.refused
  unfolding paged.reply_call plain.reply_call
  reply_says i v = by (paged.reply_verdict i)
    where
      by : (w : Verdict) → (paged.reply_by w p.machine i v).verdict.refused ≡ (plain.reply_by w q.plain i v).verdict.refused
      by (Ok tt) = refl
      by (Err r) = refl

  call_says : (c : Call) → paged_call p c ≡ plain_call q c
  unfolding paged_call plain_call
  call_says (runs n) = run_says n
  call_says (reads va n) = read_says va (replicate n 0)
  call_says (writes va from) = ap (λ n. said n []) (write_says va from)
  call_says (views x) = view_says x
  call_says (replies i v) = ap (λ n. said n []) (reply_says i v)

  pub same_says : (s : SeriesStep) → paged_says p s ≡ plain_says q s
  same_says (calls c) = call_says c
  same_says (spares x n) = refl
