-- Section "Calls and their refusals". Each call has one definition, which is its complete outcome: the numbers it answers with, the
-- record it hands back, and every lent byte afterwards.
use Rattle.std.specs.Prelude.{Bool, true, false, ◌&&◌, List, [], ◌∷◌, ℕ, zero, suc, ◌+◌, leb, ltb, length, set, if◌then◌else◌, Ok, Err}
use Rattle.model.specs.Choice.{every_below, list_below}
use Rattle.model.specs.Pages.{page_of, offset, main_at, frame_in, swap_of, swap_at, main_page, swap_page}
use Rattle.model.specs.Table.{entry, ppx, valid}
use Rattle.model.specs.Frames.{with_mark, remarked}
use Rattle.model.specs.State.{Memory, State}
use Rattle.model.specs.Sound.{fits, sound}
use Rattle.model.specs.Translate.{has, translate, legal, flat_byte}
use Rattle.model.specs.Run.{Course, Counted, uncounted, run, instruction}
use Rattle.model.specs.Answers.{VerdictNumbers, verdict_numbers, RunNumbers, run_numbers, Verdict, RunAnswer}
use Rattle.model.specs.declared.VirtualPage.{VirtualPage}
use Rattle.model.specs.declared.Shape.{Shape}
use Rattle.model.specs.declared.Machine.{Machine}
use Rattle.model.specs.declared.Refusal.{Refusal}
use Rattle.model.specs.declared.Refusal.TheVariants.{Bound, Unsound, Rights, TooMuch}

-- ---- "The first that applies in the order 1, 2, 4, 3 is given"
-- the refusal r where the test fails, else what comes after it
abbrev pub unless : Bool → Refusal → Verdict → Verdict
unless true r after = after
unless false r after = Err r

unfoldable pub machine_verdict : State → Verdict → Verdict
machine_verdict p after =
    unless (fits p.machine.shape p.memory) Bound (unless (sound p.machine p.memory) Unsound after)

-- ---- run: "A run: 0 to 1,000,000 instructions."
unfoldable pub run_verdict : State → ℕ → Verdict
run_verdict p n = machine_verdict p (unless (leb n 1000000) TooMuch (Ok tt))

pub record RunOutcome : Type 0 where
  pub numbers : RunNumbers
  pub state : State

abbrev pub run_outcome : RunAnswer → State → RunOutcome
run_outcome a p = record { numbers = run_numbers a; state = p }

-- what a run of the paged machine reports
abbrev pub reported : Course Counted → RunOutcome
reported c =
    run_outcome (Ok (record { stop = c.stop; finished = c.finished; loads = c.left.loads; copied = c.left.copied })) c.left.state

abbrev pub run_by : Verdict → State → ℕ → RunOutcome
run_by (Ok tt) p n = reported (run instruction n (uncounted p))
run_by (Err r) p n = run_outcome (Err r) p

unfoldable pub run_call : State → ℕ → RunOutcome
run_call p n = run_by (run_verdict p n) p n

-- ---- the host: "Host transfer: 0 to 256 bytes"; "all pages need r, or w"
-- each of the n bytes from va on lies in a page with the right
unfoldable pub permitted : Bool → Shape → List ℕ → ℕ → ℕ → Bool
permitted writing s main va n = every_below n (λ i. legal (translate s main writing (va + i)))

-- what a machine that is itself not refused says of a transfer
abbrev pub transfer_verdict : Bool → Shape → List ℕ → ℕ → ℕ → Verdict
transfer_verdict writing s main va n = unless (leb n 256) TooMuch (unless (permitted writing s main va n) Rights (Ok tt))

unfoldable pub host_verdict : Bool → State → ℕ → ℕ → Verdict
host_verdict writing p va n = machine_verdict p (transfer_verdict writing p.machine.shape p.memory.main va n)

-- "Host read fills a lent buffer": the n bytes of the flat memory from va on
unfoldable pub bytes_from : Shape → Memory → ℕ → ℕ → List ℕ
bytes_from s m va n = list_below n (λ i. flat_byte s m (va + i))

pub record ReadOutcome : Type 0 where
  pub verdict : VerdictNumbers
  pub buffer : List ℕ

abbrev pub read_by : Verdict → State → ℕ → List ℕ → ReadOutcome
read_by (Ok tt) p va buffer = record { verdict = verdict_numbers (Ok tt); buffer = bytes_from p.machine.shape p.memory va (length buffer) }
read_by (Err r) p va buffer = record { verdict = verdict_numbers (Err r); buffer = buffer }

unfoldable pub read_call : State → ℕ → List ℕ → ReadOutcome
read_call p va buffer = read_by (host_verdict false p va (length buffer)) p va buffer

-- one byte, where the flat memory has va
unfoldable pub poke : Shape → Memory → ℕ → ℕ → Memory
poke s m va x =
    if valid (entry s m.main (page_of va))
    then record { main = set m.main (main_at (ppx (entry s m.main (page_of va))) (offset va)) x; swap = m.swap }
    else record { main = m.main; swap = set m.swap (swap_at (swap_of s (page_of va)) (offset va)) x }

unfoldable pub bytes_to : Shape → Memory → ℕ → List ℕ → Memory
bytes_to s m va [] = m
bytes_to s m va (x ∷ xs) = bytes_to s (poke s m va x) (suc va) xs

-- "a mark per frame, set by .. a host write of at least one byte": the marks after one byte at va, which may be in a frame; and after n
-- from va on
unfoldable pub mark_for : Shape → List ℕ → ℕ → ℕ → ℕ
mark_for s main va marks =
    if valid (entry s main (page_of va)) then with_mark marks (frame_in s (ppx (entry s main (page_of va)))) else marks

unfoldable pub marks_for : Shape → List ℕ → ℕ → ℕ → ℕ → ℕ
marks_for s main va zero marks = marks
marks_for s main va (suc n) marks = marks_for s main (suc va) n (mark_for s main va marks)

-- the record after n bytes were written from va on
abbrev pub after_write : State → ℕ → ℕ → Machine
after_write p va n = record {
  shape = p.machine.shape;
  book = remarked p.machine.book (marks_for p.machine.shape p.memory.main va n p.machine.book.marks);
  gpr = p.machine.gpr;
  pcs = p.machine.pcs;
}

pub record StateOutcome : Type 0 where
  pub verdict : VerdictNumbers
  pub state : State

abbrev pub write_by : Verdict → State → ℕ → List ℕ → StateOutcome
write_by (Ok tt) p va bytes = record {
  verdict = verdict_numbers (Ok tt);
  state = record { machine = after_write p va (length bytes); memory = bytes_to p.machine.shape p.memory va bytes };
}
write_by (Err r) p va bytes = record { verdict = verdict_numbers (Err r); state = p }

unfoldable pub write_call : State → ℕ → List ℕ → StateOutcome
write_call p va bytes = write_by (host_verdict true p va (length bytes)) p va bytes

-- ---- "The page view takes a virtual page number and hands back the 4096 bytes of a readable page"
-- page x is in the table and grants reading
unfoldable pub viewable : Shape → List ℕ → VirtualPage → Bool
viewable s main x = ltb x.0 s.ptl && has false (entry s main x)

unfoldable pub view_verdict : State → VirtualPage → Verdict
view_verdict p x = machine_verdict p (unless (viewable p.machine.shape p.memory.main x) Rights (Ok tt))

-- "from main memory or from swap as its entry says"
unfoldable pub page_bytes : Shape → Memory → VirtualPage → List ℕ
page_bytes s m x =
    if valid (entry s m.main x) then main_page m.main (ppx (entry s m.main x)) else swap_page m.swap (swap_of s x)

pub record ViewOutcome : Type 0 where
  pub verdict : VerdictNumbers
  pub part : List ℕ

abbrev pub view_by : Verdict → State → VirtualPage → ViewOutcome
view_by (Ok tt) p x = record { verdict = verdict_numbers (Ok tt); part = page_bytes p.machine.shape p.memory x }
view_by (Err r) p x = record { verdict = verdict_numbers (Err r); part = [] }

unfoldable pub view_call : State → VirtualPage → ViewOutcome
view_call p x = view_by (view_verdict p x) p x

-- ---- "Reply sets one of GPR 1 to 31."
unfoldable pub reply_verdict : ℕ → Verdict
reply_verdict i = unless (leb 1 i && leb i 31) TooMuch (Ok tt)

pub record ReplyOutcome : Type 0 where
  pub verdict : VerdictNumbers
  pub machine : Machine

abbrev pub reply_by : Verdict → Machine → ℕ → ℕ → ReplyOutcome
reply_by (Ok tt) m i v = record {
  verdict = verdict_numbers (Ok tt);
  machine = record { shape = m.shape; book = m.book; gpr = set m.gpr i v; pcs = m.pcs };
}
reply_by (Err r) m i v = record { verdict = verdict_numbers (Err r); machine = m }

unfoldable pub reply_call : Machine → ℕ → ℕ → ReplyOutcome
reply_call m i v = reply_by (reply_verdict i) m i v
