-- The plain engine's calls on a machine. As in model/specs/Calls each has one definition, which is its complete outcome: the numbers
-- it answers with, the record it hands back, and every lent byte afterwards. Refusals: "3 and 4 as in document 01, 1 for ptl or a lent
-- length, 2 only for GPR 0 not 0 or a rights byte above 3"; the first that applies in the order 1, 2, 4, 3 is given.
use Rattle.std.specs.Prelude.{Bool, true, false, ◌&&◌, List, [], ◌∷◌, ℕ, ◌+◌, ◌*◌, eqb, leb, ltb, length, get_or, take, drop, set, Result, Ok, Err}
use Rattle.model.specs.Choice.{passes, every_below}
use Rattle.model.specs.Bytes.{page}
use Rattle.model.specs.Translate.{legal}
use Rattle.model.specs.Run.{Course, run}
use Rattle.model.specs.Flat.{Flat, grants, allow, flat_instruction}
use Rattle.model.specs.Answers.{stop_number, stop_detail, VerdictNumbers, verdict_numbers, Verdict}
use Rattle.model.specs.Calls.{unless, reply_verdict}
use Rattle.model.specs.declared.VirtualPage.{VirtualPage}
use Rattle.model.specs.declared.Refusal.{Refusal}
use Rattle.model.specs.declared.Refusal.TheVariants.{Bound, Unsound, Rights, TooMuch}
use Rattle.laws.specs.Over.{over}
use Rattle.plainmodel.specs.State.{PlainState, flat_of, left_by}
use Rattle.plainmodel.specs.declared.Plain.{Plain}
use Rattle.plainmodel.specs.declared.PlainRan.{PlainRan}

-- ---- 1 and 2, which every call but the reply tests first
-- "1 for ptl or a lent length"
unfoldable pub fits : PlainState → Bool
fits p = passes (
    leb 1 p.plain.ptl ∷ leb p.plain.ptl 1024
    ∷ eqb (length p.bytes) (4096 * p.plain.ptl)
    ∷ eqb (length p.rights) p.plain.ptl
    ∷ [])

-- "2 only for GPR 0 not 0 or a rights byte above 3"
unfoldable pub sound : PlainState → Bool
sound p = passes (
    eqb (get_or p.plain.gpr 0 0) 0
    ∷ every_below (length p.rights) (λ x. leb (get_or p.rights x 0) 3)
    ∷ [])

unfoldable pub plain_verdict : PlainState → Verdict → Verdict
plain_verdict p after = unless (fits p) Bound (unless (sound p) Unsound after)

-- ---- run
unfoldable pub run_verdict : PlainState → ℕ → Verdict
run_verdict p n = plain_verdict p (unless (leb n 1000000) TooMuch (Ok tt))

-- "the same refusals, stops, details, finished counts"
pub record PlainNumbers : Type 0 where
  pub verdict : VerdictNumbers
  pub stop : ℕ
  pub detail : ℕ
  pub finished : ℕ

abbrev pub PlainAnswer : Type 0
PlainAnswer = Result PlainRan Refusal

abbrev pub plain_numbers : PlainAnswer → PlainNumbers
plain_numbers (Ok r) =
    record { verdict = verdict_numbers (Ok tt); stop = stop_number r.stop; detail = stop_detail r.stop; finished = r.finished }
plain_numbers (Err r) = record { verdict = verdict_numbers (Err r); stop = 0; detail = 0; finished = 0 }

pub record RunOutcome : Type 0 where
  pub numbers : PlainNumbers
  pub state : PlainState

abbrev pub run_outcome : PlainAnswer → PlainState → RunOutcome
run_outcome a p = record { numbers = plain_numbers a; state = p }

-- what a run of the flat machine reports
abbrev pub reported : PlainState → Course Flat → RunOutcome
reported p c = run_outcome (Ok (record { stop = c.stop; finished = c.finished })) (left_by p c.left)

abbrev pub run_by : Verdict → PlainState → ℕ → RunOutcome
run_by (Ok tt) p n = reported p (run flat_instruction n (flat_of p))
run_by (Err r) p n = run_outcome (Err r) p

unfoldable pub run_call : PlainState → ℕ → RunOutcome
run_call p n = run_by (run_verdict p n) p n

-- ---- the host: each of the n bytes from va on lies in a page with the right
unfoldable pub permitted : Bool → List ℕ → ℕ → ℕ → Bool
permitted writing rights va n = every_below n (λ i. legal (allow rights writing (va + i)))

abbrev pub transfer_verdict : Bool → List ℕ → ℕ → ℕ → Verdict
transfer_verdict writing rights va n = unless (leb n 256) TooMuch (unless (permitted writing rights va n) Rights (Ok tt))

unfoldable pub host_verdict : Bool → PlainState → ℕ → ℕ → Verdict
host_verdict writing p va n = plain_verdict p (transfer_verdict writing p.rights va n)

-- "Host read fills a lent buffer": the bytes from va on
pub record ReadOutcome : Type 0 where
  pub verdict : VerdictNumbers
  pub buffer : List ℕ

abbrev pub read_by : Verdict → PlainState → ℕ → List ℕ → ReadOutcome
read_by (Ok tt) p va buffer = record { verdict = verdict_numbers (Ok tt); buffer = take (length buffer) (drop va p.bytes) }
read_by (Err r) p va buffer = record { verdict = verdict_numbers (Err r); buffer = buffer }

unfoldable pub read_call : PlainState → ℕ → List ℕ → ReadOutcome
read_call p va buffer = read_by (host_verdict false p va (length buffer)) p va buffer

-- "host write takes one": these bytes in the place of as many from va on. The record stays, and so do the rights.
pub record WriteOutcome : Type 0 where
  pub verdict : VerdictNumbers
  pub bytes : List ℕ

abbrev pub write_by : Verdict → PlainState → ℕ → List ℕ → WriteOutcome
write_by (Ok tt) p va from = record { verdict = verdict_numbers (Ok tt); bytes = over va from p.bytes }
write_by (Err r) p va from = record { verdict = verdict_numbers (Err r); bytes = p.bytes }

unfoldable pub write_call : PlainState → ℕ → List ℕ → WriteOutcome
write_call p va from = write_by (host_verdict true p va (length from)) p va from

-- ---- "The page view takes a virtual page number and hands back the 4096 bytes of a readable page"
unfoldable pub viewable : List ℕ → VirtualPage → Bool
viewable rights x = ltb x.0 (length rights) && grants false (get_or rights x.0 0)

unfoldable pub view_verdict : PlainState → VirtualPage → Verdict
view_verdict p x = plain_verdict p (unless (viewable p.rights x) Rights (Ok tt))

pub record ViewOutcome : Type 0 where
  pub verdict : VerdictNumbers
  pub part : List ℕ

abbrev pub view_by : Verdict → PlainState → VirtualPage → ViewOutcome
view_by (Ok tt) p x = record { verdict = verdict_numbers (Ok tt); part = page p.bytes x.0 }
view_by (Err r) p x = record { verdict = verdict_numbers (Err r); part = [] }

unfoldable pub view_call : PlainState → VirtualPage → ViewOutcome
view_call p x = view_by (view_verdict p x) p x

-- ---- "Reply sets one of GPR 1 to 31."
pub record ReplyOutcome : Type 0 where
  pub verdict : VerdictNumbers
  pub plain : Plain

abbrev pub with_register : Plain → ℕ → ℕ → Plain
with_register m i v = record { ptl = m.ptl; gpr = set m.gpr i v; pcs = m.pcs }

abbrev pub reply_by : Verdict → Plain → ℕ → ℕ → ReplyOutcome
reply_by (Ok tt) m i v = record { verdict = verdict_numbers (Ok tt); plain = with_register m i v }
reply_by (Err r) m i v = record { verdict = verdict_numbers (Err r); plain = m }

unfoldable pub reply_call : Plain → ℕ → ℕ → ReplyOutcome
reply_call m i v = reply_by (reply_verdict i) m i v
