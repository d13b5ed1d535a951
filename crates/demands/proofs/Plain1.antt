-- Demand 1 of the plain engine (`plain_1`), as proofs/Demand1 has it of the paged machine.
use mathlib.Core.Path.{refl}
use mathlib.Core.Bool.{Bool, true, false}
use mathlib.Core.List.{List, [], ◌∷◌}
use Prim.Native.Nat.{ℕ}
use native.Mathlib.Omega.{arith}
use lib.ListN.{length}
use Rattle.model.specs.Answers.{verdict_numbers, Verdict}
use Rattle.model.specs.Calls.{reply_verdict}
use Rattle.model.specs.Image.{ptl_of}
use Rattle.model.specs.declared.VirtualPage.{VirtualPage}
use Rattle.model.specs.declared.Refusal.TheVariants.{Rights, Room}
use Rattle.plainmodel.specs.State.{PlainState}
use Rattle.plainmodel.specs.Calls.{fits, sound, plain_verdict, run_verdict, run_by, run_call, permitted, host_verdict, read_by, read_call, write_by, write_call, viewable, view_verdict, view_by, view_call, reply_by, reply_call}
use Rattle.plainmodel.specs.Load.{room, load_verdict, load_by, load_call}
use Rattle.plainmodel.specs.declared.Plain.{Plain}
use Rattle.plainlaws.specs.Good.{PlainFit, PlainSound}
use Rattle.demands.specs.Refusals.{Row, ◌when◌, ◌unless◌, Decided}
use Rattle.demands.specs.Conditions.{RunTooLong, TransferTooLong}
use Rattle.demands.specs.Demand1.{image_rows}
use Rattle.demands.specs.Plain1.{PlainDenied, SomePlainDenied, PlainRoomy, plain_rows, plain_transfer_rows, PlainExactlyWhen, refused_run, refused_read, refused_write, refused_view, refused_reply, refused_loading, PlainChangesNothing, PlainEmptyTransfer, PlainDemand1}
use Rattle.demands.proofs.Decide.{First, last_unless, Answering, decides, unchanged}
use Rattle.demands.proofs.Rows.{machine_first, run_first, transfer_first, none_denied, reply_first, image_first}
use Rattle.demands.proofs.PlainTold.{fits_told, sound_told, some_denied_told, view_told, room_told}

-- ---- the tests of a machine, and of a transfer
rows_first : (p : PlainState) (v : Verdict) (own : List Row) → First (verdict_numbers v).refused own
    → First (verdict_numbers (plain_verdict p v)).refused (plain_rows p own)
unfolding plain_verdict
rows_first p v own = machine_first (fits p) (sound p) (PlainFit p) (PlainSound p) v own (fits_told p) (λ q. sound_told p)

host_first : (writing : Bool) (p : PlainState) (va n : ℕ)
    → First (verdict_numbers (host_verdict writing p va n)).refused (plain_transfer_rows writing p va n)
unfolding host_verdict
host_first writing p va n =
    rows_first p _ (4 when TransferTooLong n ∷ 3 when SomePlainDenied writing p.rights va n ∷ [])
    (transfer_first (permitted writing p.rights va n) n (SomePlainDenied writing p.rights va n) (some_denied_told writing p.rights va n))

-- ---- the outcome that each call makes of its verdict
run_answers : (p : PlainState) (n : ℕ) → Answering (λ o. o.numbers.verdict) (refused_run p) (λ v. run_by v p n)
run_answers p n = record { taken = refl; refused = λ x. refl; named = λ k. refl }

read_answers : (p : PlainState) (va : ℕ) (buffer : List ℕ) → Answering (λ o. o.verdict) (refused_read buffer) (λ v. read_by v p va buffer)
read_answers p va buffer = record { taken = refl; refused = λ x. refl; named = λ k. refl }

write_answers : (p : PlainState) (va : ℕ) (from : List ℕ) → Answering (λ o. o.verdict) (refused_write p) (λ v. write_by v p va from)
write_answers p va from = record { taken = refl; refused = λ x. refl; named = λ k. refl }

view_answers : (p : PlainState) (x : VirtualPage) → Answering (λ o. o.verdict) refused_view (λ v. view_by v p x)
view_answers p x = record { taken = refl; refused = λ x. refl; named = λ k. refl }

reply_answers : (m : Plain) (i w : ℕ) → Answering (λ o. o.verdict) (refused_reply m) (λ v. reply_by v m i w)
reply_answers m i w = record { taken = refl; refused = λ x. refl; named = λ k. refl }

load_answers : (l bytes rights : List ℕ) → Answering (λ o. o.verdict) (refused_loading bytes rights) (λ v. load_by v l bytes rights)
load_answers l bytes rights = record { taken = refl; refused = λ x. refl; named = λ k. refl }

-- ---- each refusal comes exactly when its row says
run_exactly : (p : PlainState) (n : ℕ) → Decided (run_call p n).numbers.verdict.refused (plain_rows p (4 when RunTooLong n ∷ []))
unfolding run_call run_verdict
run_exactly p n =
    decides (run_answers p n) (run_verdict p n) _ (omega arith) (rows_first p _ (4 when RunTooLong n ∷ []) (run_first n))

view_exactly : (p : PlainState) (x : VirtualPage)
    → Decided (view_call p x).verdict.refused (plain_rows p (3 when PlainDenied false p.rights x ∷ []))
unfolding view_call view_verdict
view_exactly p x =
    decides (view_answers p x) (view_verdict p x) _ (omega arith)
    (rows_first p _ (3 when PlainDenied false p.rights x ∷ [])
    (last_unless (viewable p.rights x) Rights (3 when PlainDenied false p.rights x) refl (view_told p.rights x)))

loading_exactly : (l bytes rights : List ℕ)
    → Decided (load_call l bytes rights).verdict.refused (image_rows l (7 unless PlainRoomy (ptl_of l) (length bytes) (length rights) ∷ []))
unfolding load_call load_verdict
loading_exactly l bytes rights =
    let last : Row = 7 unless PlainRoomy (ptl_of l) (length bytes) (length rights) in
    decides (load_answers l bytes rights) (load_verdict l bytes rights) _ (omega arith)
    (image_first l _ (last ∷ [])
    (last_unless (room (ptl_of l) (length bytes) (length rights)) Room last refl (room_told (ptl_of l) (length bytes) (length rights))))

exactly_when : PlainExactlyWhen
unfolding read_call write_call reply_call
exactly_when = record {
  run = run_exactly;
  read = λ p va buffer.
      decides (read_answers p va buffer) (host_verdict false p va (length buffer)) _ (omega arith) (host_first false p va (length buffer));
  write = λ p va from.
      decides (write_answers p va from) (host_verdict true p va (length from)) _ (omega arith) (host_first true p va (length from));
  view = view_exactly;
  reply = λ m i v. decides (reply_answers m i v) (reply_verdict i) _ (omega arith) (reply_first i);
  loading = loading_exactly;
}

-- ---- and changes no byte of memory and no register
changes_nothing : PlainChangesNothing
unfolding run_call read_call write_call view_call reply_call load_call
changes_nothing = record {
  run = λ p n. unchanged (run_answers p n) (run_verdict p n);
  read = λ p va buffer. unchanged (read_answers p va buffer) (host_verdict false p va (length buffer));
  write = λ p va from. unchanged (write_answers p va from) (host_verdict true p va (length from));
  view = λ p x. unchanged (view_answers p x) (view_verdict p x);
  reply = λ m i v. unchanged (reply_answers m i v) (reply_verdict i);
  loading = λ l bytes rights. unchanged (load_answers l bytes rights) (load_verdict l bytes rights);
}

empty_transfer : PlainEmptyTransfer
empty_transfer = record {
  read = λ p va e. none_denied ((exactly_when.read p va []).exactly.1.1.1.0.0 e).1;
  write = λ p va e. none_denied ((exactly_when.write p va []).exactly.1.1.1.0.0 e).1;
}

pub plain_1 : PlainDemand1
plain_1 = record { exactly_when = exactly_when; changes_nothing = changes_nothing; empty_transfer = empty_transfer }
