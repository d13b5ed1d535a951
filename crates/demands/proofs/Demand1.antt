-- Demand 1: each call's tests decide as its rows say (`exactly_when`), and its definition leaves all as it was where it refuses
-- (`changes_nothing`).
use mathlib.Core.Path.{refl}
use mathlib.Core.Bool.{Bool, true, false}
use mathlib.Core.List.{List, [], ◌∷◌}
use Prim.Native.Nat.{ℕ}
use native.Mathlib.Omega.{arith}
use lib.ListN.{length}
use Rattle.std.specs.Prelude.{Ok}
use Rattle.model.specs.State.{Memory, State}
use Rattle.model.specs.Sound.{fits, sound}
use Rattle.model.specs.Answers.{verdict_numbers, Verdict}
use Rattle.model.specs.Calls.{machine_verdict, run_verdict, run_by, run_call, permitted, host_verdict, read_by, read_call, write_by, write_call, viewable, view_verdict, view_by, view_call, reply_verdict, reply_by, reply_call}
use Rattle.model.specs.Image.{ptl_of, frames_of, image_verdict, image_by, image_call, room, load_verdict, load_by, load_call}
use Rattle.model.specs.declared.Machine.{Machine}
use Rattle.model.specs.declared.VirtualPage.{VirtualPage}
use Rattle.model.specs.declared.Refusal.TheVariants.{Rights, Room}
use Rattle.laws.specs.Good.{Good}
use Rattle.demands.specs.Refusals.{Row, ◌when◌, ◌unless◌, Decided}
use Rattle.demands.specs.Conditions.{Fits, Denied, SomeDenied, RunTooLong, TransferTooLong, MemoryFits}
use Rattle.demands.specs.Demand1.{machine_rows, image_rows, transfer_rows, Whole, ExactlyWhen, refused_run, refused_read, refused_write, refused_view, refused_reply, refused_image, refused_loading, ChangesNothing, EmptyTransfer, Demand1}
use Rattle.demands.proofs.Decide.{First, last_unless, Answering, decides, unchanged}
use Rattle.demands.proofs.Told.{fits_told, sound_told, some_denied_told, view_told, room_told}
use Rattle.demands.proofs.Rows.{machine_first, run_first, transfer_first, none_denied, reply_first, image_first}

-- ---- the tests of a machine, and of a transfer
rows_first : (p : State) (v : Verdict) (own : List Row) → Whole p → First (verdict_numbers v).refused own
    → First (verdict_numbers (machine_verdict p v)).refused (machine_rows p own)
unfolding machine_verdict
rows_first p v own len =
    machine_first (fits p.machine.shape p.memory) (sound p.machine p.memory) (Fits p) (Good p) v own (fits_told p) (sound_told p len)

host_first : (writing : Bool) (p : State) (va n : ℕ) → Whole p
    → First (verdict_numbers (host_verdict writing p va n)).refused (transfer_rows writing p va n)
unfolding host_verdict
host_first writing p va n len =
    rows_first p _ (4 when TransferTooLong n ∷ 3 when SomeDenied writing p va n ∷ []) len
    (transfer_first (permitted writing p.machine.shape p.memory.main va n) n (SomeDenied writing p va n) (some_denied_told writing p va n))

-- ---- the outcome that each call makes of its verdict
run_answers : (p : State) (n : ℕ) → Answering (λ o. o.numbers.verdict) (refused_run p) (λ v. run_by v p n)
run_answers p n = record { taken = refl; refused = λ x. refl; named = λ k. refl }

read_answers : (p : State) (va : ℕ) (buffer : List ℕ) → Answering (λ o. o.verdict) (refused_read buffer) (λ v. read_by v p va buffer)
read_answers p va buffer = record { taken = refl; refused = λ x. refl; named = λ k. refl }

write_answers : (p : State) (va : ℕ) (bytes : List ℕ) → Answering (λ o. o.verdict) (refused_write p) (λ v. write_by v p va bytes)
write_answers p va bytes = record { taken = refl; refused = λ x. refl; named = λ k. refl }

view_answers : (p : State) (x : VirtualPage) → Answering (λ o. o.verdict) refused_view (λ v. view_by v p x)
view_answers p x = record { taken = refl; refused = λ x. refl; named = λ k. refl }

reply_answers : (m : Machine) (i w : ℕ) → Answering (λ o. o.verdict) (refused_reply m) (λ v. reply_by v m i w)
reply_answers m i w = record { taken = refl; refused = λ x. refl; named = λ k. refl }

image_answers : (l : List ℕ) → Answering (λ o. o.numbers.verdict) refused_image (λ v. image_by v l)
image_answers l = record { taken = refl; refused = λ x. refl; named = λ k. refl }

load_answers : (l : List ℕ) (m : Memory) → Answering (λ o. o.verdict) (refused_loading m) (λ v. load_by v l m)
load_answers l m = record { taken = refl; refused = λ x. refl; named = λ k. refl }

-- ---- "Each refusal comes exactly when document 01 says"
run_exactly : (p : State) (n : ℕ) → Whole p
    → Decided (run_call p n).numbers.verdict.refused (machine_rows p (4 when RunTooLong n ∷ []))
unfolding run_call run_verdict
run_exactly p n len =
    decides (run_answers p n) (run_verdict p n) _ (omega arith)
    (rows_first p _ (4 when RunTooLong n ∷ []) len (run_first n))

view_exactly : (p : State) (x : VirtualPage) → Whole p
    → Decided (view_call p x).verdict.refused (machine_rows p (3 when Denied false p x ∷ []))
unfolding view_call view_verdict
view_exactly p x len =
    decides (view_answers p x) (view_verdict p x) _ (omega arith)
    (rows_first p _ (3 when Denied false p x ∷ []) len
    (last_unless (viewable p.machine.shape p.memory.main x) Rights (3 when Denied false p x) refl (view_told p x)))

loading_exactly : (l : List ℕ) (m : Memory) → Decided (load_call l m).verdict.refused (image_rows l (7 unless MemoryFits l m ∷ []))
unfolding load_call load_verdict
loading_exactly l m =
    decides (load_answers l m) (load_verdict l m) _ (omega arith)
    (image_first l _ (7 unless MemoryFits l m ∷ [])
    (last_unless (room (frames_of l) (ptl_of l) (length m.main) (length m.swap)) Room (7 unless MemoryFits l m) refl (room_told l m)))

exactly_when : ExactlyWhen
unfolding read_call write_call reply_call image_call
exactly_when = record {
  run = run_exactly;
  read = λ p va buffer len.
      decides (read_answers p va buffer) (host_verdict false p va (length buffer)) _ (omega arith) (host_first false p va (length buffer) len);
  write = λ p va bytes len.
      decides (write_answers p va bytes) (host_verdict true p va (length bytes)) _ (omega arith) (host_first true p va (length bytes) len);
  view = view_exactly;
  reply = λ m i v. decides (reply_answers m i v) (reply_verdict i) _ (omega arith) (reply_first i);
  image = λ l. decides (image_answers l) (image_verdict l (Ok tt)) _ (omega arith) (image_first l (Ok tt) [] refl);
  loading = loading_exactly;
}

-- ---- ".. and changes no byte of memory and no register"
changes_nothing : ChangesNothing
unfolding run_call read_call write_call view_call reply_call image_call load_call
changes_nothing = record {
  run = λ p n. unchanged (run_answers p n) (run_verdict p n);
  read = λ p va buffer. unchanged (read_answers p va buffer) (host_verdict false p va (length buffer));
  write = λ p va bytes. unchanged (write_answers p va bytes) (host_verdict true p va (length bytes));
  view = λ p x. unchanged (view_answers p x) (view_verdict p x);
  reply = λ m i v. unchanged (reply_answers m i v) (reply_verdict i);
  image = λ l. unchanged (image_answers l) (image_verdict l (Ok tt));
  loading = λ l m. unchanged (load_answers l m) (load_verdict l m);
}

empty_transfer : EmptyTransfer
empty_transfer = record {
  read = λ p va len e. none_denied ((exactly_when.read p va [] len).exactly.1.1.1.0.0 e).1;
  write = λ p va len e. none_denied ((exactly_when.write p va [] len).exactly.1.1.1.0.0 e).1;
}

pub demand_1 : Demand1
demand_1 = record { exactly_when = exactly_when; changes_nothing = changes_nothing; empty_transfer = empty_transfer }
