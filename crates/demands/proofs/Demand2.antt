-- Demand 2 holds of every sound machine (`demand_2`): each field is a law of a call or of a run.
use mathlib.Core.Path.{◌≡◌, refl}
use mathlib.Core.List.{Memᴰ}
use Prim.Native.Nat.{ℕ}
use lib.ListN.{get_or}
use Rattle.std.specs.Prelude.{Ok, Err}
use Rattle.model.specs.Answers.{Verdict}
use Rattle.model.specs.Pages.{entry_at}
use Rattle.model.specs.State.{State}
use Rattle.model.specs.Run.{uncounted}
use Rattle.model.specs.Calls.{run_verdict, run_by, run_call}
use Rattle.model.specs.Series.{Call, runs, reads, writes, views, replies, after}
use Rattle.model.specs.declared.VirtualPage.{VirtualPage}
use Rattle.laws.specs.Good.{Good}
use Rattle.laws.specs.Named.{Off, run_names, names_granted, along_call}
use Rattle.laws.proofs.Entries.{same_spare}
use Rattle.laws.proofs.Frame.{run_off, in_main}
use Rattle.laws.proofs.Calls.{reply_call_lem, read_call_lem, view_call_lem, write_call_lem, write_marks, write_machine, write_off, call_good, call_size, call_kept}
use Rattle.demands.specs.Demand2.{Outside, Demand2}
use Rattle.demands.proofs.FlatRun.{runs_flat, few_loads, halts}

off : (p : State) → Good p → (c : Call) (j : ℕ) → Outside p c j → get_or (after p c).memory.main j 0 ≡ get_or p.memory.main j 0
unfolding after run_call along_call
off p g (runs n) j h = by (run_verdict p n) h.unnamed
  where
    by : (v : Verdict) → ((x : VirtualPage) → Memᴰ x (names_granted v (run_names n (uncounted p))) → Off (entry_at p.machine.shape x) 4 j)
        → get_or (run_by v p n).state.memory.main j 0 ≡ get_or p.memory.main j 0
    by (Ok tt) clear = run_off n (uncounted p) g (in_main j) (record { unframed = h.unframed; clear = clear })
    by (Err r) clear = refl
off p g (reads va n) j h = refl
off p g (writes va bytes) j h = write_off p g va bytes j h.unframed
off p g (views x) j h = refl
off p g (replies i v) j h = refl

pub demand_2 : (p : State) → Good p → Demand2 p
demand_2 p g = record {
  ran = runs_flat p g;
  loads = few_loads p g;
  halted = halts p g;
  read = read_call_lem p g;
  viewed = view_call_lem p g;
  written = write_call_lem p g;
  recorded = write_machine p g;
  marks = write_marks p g;
  replied = reply_call_lem p.machine;
  sound = call_good p g;
  size = call_size p g;
  spare_bits = λ c x h. same_spare _ _ (call_kept p g c x h);
  outside = off p g;
}
