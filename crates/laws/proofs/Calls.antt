-- The calls on a good machine: what is handed out and what is written, where they are granted, against the flat memory (`read_call_lem`,
-- `view_call_lem`, `write_call_lem`, `reply_call_lem`); the frames that a write marks (`write_marks`); and refused or not the machine stays good
-- (`call_good`), of its shape (`call_size`), and bits 11–1 of its entries stay (`call_kept`). It stays good over any series of steps
-- (`series_good`).
use mathlib.Core.Path.{◌≡◌, refl, ap, ap₂, ◌∙◌}
use mathlib.Core.Logic.{◌↔◌, ◌⊎◌}
use mathlib.Core.Bool.{true, false}
use mathlib.Core.List.{List, [], ◌∷◌}
use Prim.Native.Nat.{ℕ, ◌*◌, ◌<◌}
use native.Mathlib.Omega.{arith}
use lib.ListN.{length, get_or, take, drop}
use lib.Seq.{get_or-set_other}
use Rattle.std.specs.Prelude.{Ok, Err}
use Rattle.model.specs.Answers.{Verdict}
use Rattle.model.specs.Bytes.{page}
use Rattle.model.specs.Frames.{page_in, marked}
use Rattle.model.specs.State.{State}
use Rattle.model.specs.Run.{uncounted}
use Rattle.model.specs.Flat.{Flat, flat}
use Rattle.model.specs.Calls.{run_verdict, run_by, run_call, host_verdict, read_by, read_call, bytes_to, write_by, write_call, view_verdict, view_by, view_call, reply_verdict, reply_by, reply_call}
use Rattle.model.specs.Series.{Call, runs, reads, writes, views, replies, after, SeriesStep, calls, spares, spared, after_step, after_all}
use Rattle.model.specs.declared.Machine.{Machine}
use Rattle.model.specs.declared.VirtualPage.{VirtualPage}
use Rattle.laws.specs.Good.{Good}
use Rattle.laws.specs.Mapped.{SameSize}
use Rattle.laws.specs.Entries.{SameKept}
use Rattle.laws.specs.Demand2.{flat_write, with_marks, Gets, with_register}
use Rattle.laws.specs.Named.{Off}
use Rattle.laws.proofs.Seated.{seated_marks, hand_marks}
use Rattle.laws.proofs.Size.{same_size}
use Rattle.laws.proofs.Run.{run_right}
use Rattle.laws.proofs.Spare.{off_kept, run_kept, spared_machine, spared_good}
use Rattle.laws.proofs.Poke.{kept_rights, kept_fit, kept_seated}
use Rattle.laws.proofs.Host.{Wrote, wrote, sets_put, marks_for_lem, clean_to, read_flat, view_flat}
use Rattle.laws.proofs.Granted.{refused, host_inside, view_inside, reply_register}

-- a reply is the same on every machine
pub reply_call_lem : (m : Machine) (i v : ℕ) → (reply_call m i v).verdict.refused ≡ 0 → (reply_call m i v).machine ≡ with_register m i v
unfolding reply_call
reply_call_lem m i v = by (reply_verdict i)
  where
    by : (w : Verdict) → (reply_by w m i v).verdict.refused ≡ 0 → (reply_by w m i v).machine ≡ with_register m i v
    by (Ok tt) e = refl
    by (Err r) e = refused r e

module _ (p : State) (g : Good p) where
  pub read_call_lem : (va : ℕ) (buffer : List ℕ) → (read_call p va buffer).verdict.refused ≡ 0
      → (read_call p va buffer).buffer ≡ take (length buffer) (drop va (flat p).bytes)
  unfolding read_call flat
  read_call_lem va buffer = by (host_verdict false p va (length buffer)) refl
    where
      by : (v : Verdict) → host_verdict false p va (length buffer) ≡ v → (read_by v p va buffer).verdict.refused ≡ 0
          → (read_by v p va buffer).buffer ≡ take (length buffer) (drop va (flat p).bytes)
      by (Ok tt) q e = read_flat p.machine.shape p.memory va (length buffer) (host_inside false p va (length buffer) q)
      by (Err r) q e = refused r e

  pub view_call_lem : (x : VirtualPage) → (view_call p x).verdict.refused ≡ 0 → (view_call p x).part ≡ page (flat p).bytes x.0
  unfolding view_call flat
  view_call_lem x = by (view_verdict p x) refl
    where
      by : (v : Verdict) → view_verdict p x ≡ v → (view_by v p x).verdict.refused ≡ 0 → (view_by v p x).part ≡ page (flat p).bytes x.0
      by (Ok tt) q e = view_flat p.machine.shape p.machine.book p.memory g.fit g.whole g.seated x (view_inside p x q)
      by (Err r) q e = refused r e

  -- ---- a write
  module _ (va : ℕ) (bytes : List ℕ) where
    granted : host_verdict true p va (length bytes) ≡ Ok tt → Wrote p.machine.shape p.memory va bytes (bytes_to p.machine.shape p.memory va bytes)
    granted q =
        wrote p.machine.shape p.machine.book p.memory g.fit g.whole g.seated va bytes (host_inside true p va (length bytes) q)

    pub write_call_lem : (write_call p va bytes).verdict.refused ≡ 0 → flat (write_call p va bytes).state ≡ flat_write (flat p) va bytes
    unfolding write_call flat
    write_call_lem = by (host_verdict true p va (length bytes)) refl
      where
        by : (v : Verdict) → host_verdict true p va (length bytes) ≡ v → (write_by v p va bytes).verdict.refused ≡ 0
            → flat (write_by v p va bytes).state ≡ flat_write (flat p) va bytes
        by (Ok tt) q e =
            ap₂ {C = Flat} (λ l rights. record { gpr = p.machine.gpr; pcs = p.machine.pcs; bytes = l; rights = rights })
            ((granted q).stored ∙ sets_put p.machine.shape p.memory va bytes (host_inside true p va (length bytes) q))
            (kept_rights p.machine.shape p.memory (bytes_to p.machine.shape p.memory va bytes) g.fit (granted q).kept)
        by (Err r) q e = refused r e

    -- each frame whose page gets a byte has its mark then, and each that had it
    pub write_marks : (write_call p va bytes).verdict.refused ≡ 0 → (f : ℕ) → f < p.machine.book.used
        → (marked (write_call p va bytes).state.machine.book.marks f ≡ true)
        ↔ ((marked p.machine.book.marks f ≡ true) ⊎ Gets va (length bytes) (page_in p.machine.book f))
    unfolding write_call
    write_marks = by (host_verdict true p va (length bytes)) refl
      where
        by : (v : Verdict) → host_verdict true p va (length bytes) ≡ v → (write_by v p va bytes).verdict.refused ≡ 0
            → (f : ℕ) → f < p.machine.book.used
            → (marked (write_by v p va bytes).state.machine.book.marks f ≡ true)
            ↔ ((marked p.machine.book.marks f ≡ true) ⊎ Gets va (length bytes) (page_in p.machine.book f))
        by (Ok tt) q e =
            marks_for_lem p.machine.shape p.machine.book p.memory.main g.seated va (length bytes) (host_inside true p va (length bytes) q)
            p.machine.book.marks
        by (Err r) q e = refused r e

    -- refused or not
    pub write_machine : (write_call p va bytes).state.machine ≡ with_marks p.machine (write_call p va bytes).state.machine.book.marks
    unfolding write_call
    write_machine = by (host_verdict true p va (length bytes))
      where
        by : (v : Verdict) → (write_by v p va bytes).state.machine ≡ with_marks p.machine (write_by v p va bytes).state.machine.book.marks
        by (Ok tt) = refl
        by (Err r) = refl

    pub write_off : (j : ℕ) → Off (4096 * p.machine.shape.abase) (4096 * p.machine.shape.frames) j
        → get_or (write_call p va bytes).state.memory.main j 0 ≡ get_or p.memory.main j 0
    unfolding write_call
    write_off j o = by (host_verdict true p va (length bytes)) refl
      where
        by : (v : Verdict) → host_verdict true p va (length bytes) ≡ v → get_or (write_by v p va bytes).state.memory.main j 0 ≡ get_or p.memory.main j 0
        by (Ok tt) q = (granted q).kept.off j o
        by (Err r) q = refl

    write_good : Good (write_call p va bytes).state
    unfolding write_call
    write_good = by (host_verdict true p va (length bytes)) refl
      where
        by : (v : Verdict) → host_verdict true p va (length bytes) ≡ v → Good (write_by v p va bytes).state
        by (Ok tt) q = record {
          fit = kept_fit p.machine.shape p.memory (bytes_to p.machine.shape p.memory va bytes) g.fit (granted q).kept;
          whole = (granted q).kept.swap_long ∙ g.whole;
          seated = seated_marks p.machine.shape p.machine.book _ _
              (kept_seated p.machine.shape p.memory (bytes_to p.machine.shape p.memory va bytes) g.fit (granted q).kept p.machine.book g.seated);
          hand = hand_marks p.machine.shape.frames p.machine.book _ g.hand;
          clean = clean_to p.machine.shape p.machine.book p.memory g.fit g.whole g.seated va bytes
              (host_inside true p va (length bytes) q) p.machine.book.marks g.clean;
          zero = g.zero;
        }
        by (Err r) q = g

  -- ---- every call, refused or not
  pub call_good : (c : Call) → Good (after p c)
  unfolding after run_call reply_call
  call_good (runs n) = by (run_verdict p n)
    where
      by : (v : Verdict) → Good (run_by v p n).state
      by (Ok tt) = (run_right n (uncounted p) g).good
      by (Err r) = g
  call_good (reads va n) = g
  call_good (writes va bytes) = write_good va bytes
  call_good (views x) = g
  call_good (replies i v) = by (reply_verdict i) refl
    where
      by : (w : Verdict) → reply_verdict i ≡ w → Good (record { machine = (reply_by w p.machine i v).machine; memory = p.memory })
      by (Ok tt) q = record {
        fit = g.fit;
        whole = g.whole;
        seated = g.seated;
        hand = g.hand;
        clean = g.clean;
        zero = get_or-set_other p.machine.gpr i 0 v 0 (λ e. omega (arith, e, reply_register i q)) ∙ g.zero;
      }
      by (Err r) q = g

  call_shape : (c : Call) → (after p c).machine.shape ≡ p.machine.shape
  unfolding after run_call reply_call
  call_shape (runs n) = by (run_verdict p n)
    where
      by : (v : Verdict) → (run_by v p n).state.machine.shape ≡ p.machine.shape
      by (Ok tt) = (run_right n (uncounted p) g).size.shape
      by (Err r) = refl
  call_shape (reads va n) = refl
  call_shape (writes va bytes) = ap (λ m. m.shape) (write_machine va bytes)
  call_shape (views x) = refl
  call_shape (replies i v) = by (reply_verdict i)
    where
      by : (w : Verdict) → (reply_by w p.machine i v).machine.shape ≡ p.machine.shape
      by (Ok tt) = refl
      by (Err r) = refl

  pub call_size : (c : Call) → SameSize p (after p c)
  call_size c = same_size p (after p c) g (call_good c) (call_shape c)

  -- bits 11–1 of every entry stay
  pub call_kept : (c : Call) → SameKept p (after p c)
  unfolding after run_call
  call_kept (runs n) = by (run_verdict p n)
    where
      by : (v : Verdict) → SameKept p (run_by v p n).state
      by (Ok tt) = run_kept n (uncounted p) g
      by (Err r) = λ x q. refl
  call_kept (reads va n) = λ x q. refl
  call_kept (writes va bytes) = off_kept p (write_call p va bytes).state g (write_off va bytes)
  call_kept (views x) = λ y q. refl
  call_kept (replies i v) = λ x q. refl

  -- ---- every step: a call, or the host's change of spare bits
  pub step_good : (s : SeriesStep) → Good (after_step p s)
  unfolding after_step
  step_good (calls c) = call_good c
  step_good (spares x v) = spared_good p g x v

  pub step_size : (s : SeriesStep) → SameSize p (after_step p s)
  unfolding after_step
  step_size (calls c) = call_size c
  step_size (spares x v) = same_size p (spared p x v) g (spared_good p g x v) (ap (λ m. m.shape) (spared_machine p g x v))

-- any series of steps
pub series_good : (p : State) → Good p → (ss : List SeriesStep) → Good (after_all p ss)
unfolding after_all
series_good p g [] = g
series_good p g (s ∷ ss) = series_good (after_step p s) (step_good p g s) ss
