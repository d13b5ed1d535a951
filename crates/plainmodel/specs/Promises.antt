-- What each public call of the plain engine promises: its complete result and every lent byte at exit are those of the call's one
-- definition. The call's `ensures` cites the promise by its name, and `unique` (crates/unique) shows that no two outcomes fit it.
use Rattle.std.specs.Prelude.{◌≡◌, List, ℕ}
use Rattle.std.specs.Borrow.{Bor}
use Rattle.model.specs.Answers.{verdict_numbers, Verdict}
use Rattle.model.specs.Parts.{Part, PartOf, if_granted}
use Rattle.model.specs.Pages.{first_va}
use Rattle.model.specs.declared.VirtualPage.{VirtualPage}
use Rattle.plainmodel.specs.State.{PlainState, plain_state}
use Rattle.plainmodel.specs.Calls.{run_outcome, run_call, read_call, write_call, view_verdict, view_call, reply_call}
use Rattle.plainmodel.specs.Load.{load_call}
use Rattle.plainmodel.specs.declared.Plain.{Plain}
use Rattle.plainmodel.specs.declared.PlainResult.{PlainResult}
use Rattle.plainmodel.specs.declared.PlainHanded.{PlainHanded}

-- run, of the machine p and a limit: the numbers answered, the record handed back, the memory at exit and the rights, which it only reads
abbrev pub RunPromise : PlainState → ℕ → PlainResult → List ℕ → Type 0
RunPromise p limit r bytes = run_outcome r.answer (plain_state r.plain bytes p.rights) ≡ run_call p limit

-- host read, at va into a buffer: the number answered and the buffer at exit
abbrev pub ReadPromise : PlainState → ℕ → List ℕ → Verdict → List ℕ → Type 0
ReadPromise p va buffer v filled = record { verdict = verdict_numbers v; buffer = filled } ≡ read_call p va buffer

-- host write, of bytes at va: the number answered and the memory at exit
abbrev pub WritePromise : PlainState → ℕ → List ℕ → Verdict → List ℕ → Type 0
WritePromise p va from v bytes = record { verdict = verdict_numbers v; bytes = bytes } ≡ write_call p va from

-- the page view of page x: the number answered
abbrev pub ViewAnswerPromise : PlainState → VirtualPage → Verdict → Type 0
ViewAnswerPromise p x v = verdict_numbers v ≡ (view_call p x).verdict

-- the page view of page x: the part of the memory handed back, its bytes and where in the memory they begin
abbrev pub view_part : PlainState → VirtualPage → Part
view_part p x = record { place = if_granted (view_verdict p x) (first_va x) 0; bytes = (view_call p x).part }

abbrev pub PageViewPromise : Plain → Bor (List ℕ) → List ℕ → VirtualPage → Bor (List ℕ) → Type 0
PageViewPromise m memory rights x r = PartOf memory (view_part (plain_state m memory.now rights) x) r

-- reply, of a value to a register: the number answered and the record handed back
abbrev pub ReplyPromise : Plain → ℕ → ℕ → PlainHanded → Type 0
ReplyPromise m register value r = record { verdict = verdict_numbers r.verdict; plain = r.plain } ≡ reply_call m register value

-- loading, of a file into a memory and rights: the number answered, the record handed back and both slices at exit
abbrev pub LoadPromise : List ℕ → List ℕ → List ℕ → PlainHanded → List ℕ → List ℕ → Type 0
LoadPromise file bytes rights r bytes' rights' =
    record { verdict = verdict_numbers r.verdict; state = plain_state r.plain bytes' rights' } ≡ load_call file bytes rights
