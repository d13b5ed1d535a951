-- Demand 1 of the plain engine: each of its refusals comes exactly when document 02's request 6 says, and changes no byte of memory and
-- no register. The theorem is `plain_1` of proofs/Plain1.
use Rattle.std.specs.Prelude.{◌≡◌, ◌⊎◌, Bool, true, false, List, [], ◌∷◌, ℕ, ◌+◌, ◌*◌, ◌<◌, ◌≤◌, length, get_or}
use Rattle.model.specs.Words.{low, field}
use Rattle.model.specs.Pages.{page_of}
use Rattle.model.specs.Answers.{VerdictNumbers}
use Rattle.model.specs.Image.{ptl_of}
use Rattle.model.specs.declared.VirtualPage.{VirtualPage}
use Rattle.plainmodel.specs.State.{PlainState, plain_state}
use Rattle.plainmodel.specs.Calls.{RunOutcome, run_call, ReadOutcome, read_call, WriteOutcome, write_call, ViewOutcome, view_call, ReplyOutcome, reply_call}
use Rattle.plainmodel.specs.Load.{LoadOutcome, load_call, zero_plain}
use Rattle.plainmodel.specs.declared.Plain.{Plain}
use Rattle.plainlaws.specs.Good.{PlainFit, PlainSound}
use Rattle.demands.specs.Refusals.{Row, ◌when◌, ◌unless◌, Decided}
use Rattle.demands.specs.Conditions.{RunTooLong, TransferTooLong, Register}
use Rattle.demands.specs.Demand1.{image_rows}

-- ---- the conditions: those of 1 and 2 are records of the crate plainlaws
-- 3: "a page is outside the table or lacks the right": here the rights are the table, "1 read, 2 write, 3 both, 0 none"
abbrev pub right : (writing : Bool) → ℕ → ℕ
right true b = field 1 1 b
right false b = low 1 b

abbrev pub PlainDenied : (writing : Bool) → List ℕ → VirtualPage → Type 0
PlainDenied writing rights x = (length rights ≤ x.0) ⊎ (right writing (get_or rights x.0 0) ≡ 0)

abbrev pub SomePlainDenied : (writing : Bool) → List ℕ → ℕ → ℕ → Type 0
SomePlainDenied writing rights va n = (i : ℕ) × (i < n) × PlainDenied writing rights (page_of (va + i))

-- 7: "for a lent length"
pub record PlainRoomy (ptl bytes_length rights_length : ℕ) : Type 0 where
  pub bytes_long : bytes_length ≡ 4096 * ptl
  pub rights_long : rights_length ≡ ptl

-- ---- the rows: "3 and 4 as in document 01, 1 for ptl or a lent length, 2 only for GPR 0 not 0 or a rights byte above 3"
abbrev pub plain_rows : PlainState → List Row → List Row
plain_rows p own = 1 unless PlainFit p ∷ 2 unless PlainSound p ∷ own

abbrev pub plain_transfer_rows : (writing : Bool) → PlainState → ℕ → ℕ → List Row
plain_transfer_rows writing p va n = plain_rows p (4 when TransferTooLong n ∷ 3 when SomePlainDenied writing p.rights va n ∷ [])

pub record PlainExactlyWhen : Type 0 where
  pub run : (p : PlainState) (n : ℕ) → Decided (run_call p n).numbers.verdict.refused (plain_rows p (4 when RunTooLong n ∷ []))
  pub read : (p : PlainState) (va : ℕ) (buffer : List ℕ)
      → Decided (read_call p va buffer).verdict.refused (plain_transfer_rows false p va (length buffer))
  pub write : (p : PlainState) (va : ℕ) (from : List ℕ)
      → Decided (write_call p va from).verdict.refused (plain_transfer_rows true p va (length from))
  pub view : (p : PlainState) (x : VirtualPage)
      → Decided (view_call p x).verdict.refused (plain_rows p (3 when PlainDenied false p.rights x ∷ []))
  pub reply : (m : Plain) (i v : ℕ) → Decided (reply_call m i v).verdict.refused (4 unless Register i ∷ [])
  -- "at loading 5, 6, and 7 for a lent length"
  pub loading : (l bytes rights : List ℕ)
      → Decided (load_call l bytes rights).verdict.refused (image_rows l (7 unless PlainRoomy (ptl_of l) (length bytes) (length rights) ∷ []))

-- ---- "A refusal returns its number, zero for every other number, an empty part for each part, the record as handed in (from loading, a
-- record of zeros), and no lent byte differs."
abbrev pub refused_run : PlainState → VerdictNumbers → RunOutcome
refused_run p v = record { numbers = record { verdict = v; stop = 0; detail = 0; finished = 0 }; state = p }

abbrev pub refused_read : List ℕ → VerdictNumbers → ReadOutcome
refused_read buffer v = record { verdict = v; buffer = buffer }

abbrev pub refused_write : PlainState → VerdictNumbers → WriteOutcome
refused_write p v = record { verdict = v; bytes = p.bytes }

abbrev pub refused_view : VerdictNumbers → ViewOutcome
refused_view v = record { verdict = v; part = [] }

abbrev pub refused_reply : Plain → VerdictNumbers → ReplyOutcome
refused_reply m v = record { verdict = v; plain = m }

abbrev pub refused_loading : List ℕ → List ℕ → VerdictNumbers → LoadOutcome
refused_loading bytes rights v = record { verdict = v; state = plain_state zero_plain bytes rights }

pub record PlainChangesNothing : Type 0 where
  pub run : (p : PlainState) (n : ℕ) → ¬ ((run_call p n).numbers.verdict.refused ≡ 0)
      → run_call p n ≡ refused_run p (run_call p n).numbers.verdict
  pub read : (p : PlainState) (va : ℕ) (buffer : List ℕ) → ¬ ((read_call p va buffer).verdict.refused ≡ 0)
      → read_call p va buffer ≡ refused_read buffer (read_call p va buffer).verdict
  pub write : (p : PlainState) (va : ℕ) (from : List ℕ) → ¬ ((write_call p va from).verdict.refused ≡ 0)
      → write_call p va from ≡ refused_write p (write_call p va from).verdict
  pub view : (p : PlainState) (x : VirtualPage) → ¬ ((view_call p x).verdict.refused ≡ 0)
      → view_call p x ≡ refused_view (view_call p x).verdict
  pub reply : (m : Plain) (i v : ℕ) → ¬ ((reply_call m i v).verdict.refused ≡ 0)
      → reply_call m i v ≡ refused_reply m (reply_call m i v).verdict
  pub loading : (l bytes rights : List ℕ) → ¬ ((load_call l bytes rights).verdict.refused ≡ 0)
      → load_call l bytes rights ≡ refused_loading bytes rights (load_call l bytes rights).verdict

-- "Length 0 is never refused 3, at any address."
pub record PlainEmptyTransfer : Type 0 where
  pub read : (p : PlainState) (va : ℕ) → ¬ ((read_call p va []).verdict.refused ≡ 3)
  pub write : (p : PlainState) (va : ℕ) → ¬ ((write_call p va []).verdict.refused ≡ 3)

pub record PlainDemand1 : Type 0 where
  pub exactly_when : PlainExactlyWhen
  pub changes_nothing : PlainChangesNothing
  pub empty_transfer : PlainEmptyTransfer
