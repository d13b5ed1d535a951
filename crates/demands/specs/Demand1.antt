-- Demand 1: "No input makes it misbehave. Each refusal comes exactly when document 01 says, and changes no byte of memory and no
-- register." The theorem is `demand_1` of proofs/Demand1.
use Rattle.std.specs.Prelude.{◌≡◌, Bool, true, false, List, [], ◌∷◌, ℕ, length}
use Rattle.model.specs.State.{Memory, State}
use Rattle.model.specs.Answers.{VerdictNumbers}
use Rattle.model.specs.Calls.{RunOutcome, run_call, ReadOutcome, read_call, StateOutcome, write_call, ViewOutcome, view_call, ReplyOutcome, reply_call}
use Rattle.model.specs.Image.{ImageOutcome, image_call, load_call, zero_machine}
use Rattle.model.specs.declared.Machine.{Machine}
use Rattle.model.specs.declared.VirtualPage.{VirtualPage}
use Rattle.laws.specs.Good.{Good}
use Rattle.laws.specs.Formed.{Formed}
use Rattle.demands.specs.Refusals.{Row, ◌when◌, ◌unless◌, Decided}
use Rattle.demands.specs.Conditions.{Fits, Denied, SomeDenied, RunTooLong, TransferTooLong, Register, UnknownImage, MemoryFits}

-- "The first that applies in the order 1, 2, 4, 3 is given": a call on a machine has rows 1 and 2, and then its own
abbrev pub machine_rows : State → List Row → List Row
machine_rows p own = 1 unless Fits p ∷ 2 unless Good p ∷ own

-- "for images 5, 6, 7"
abbrev pub image_rows : List ℕ → List Row → List Row
image_rows l own = 5 when UnknownImage l ∷ 6 unless Formed l ∷ own

-- a host transfer of n bytes from va on
abbrev pub transfer_rows : (writing : Bool) → State → ℕ → ℕ → List Row
transfer_rows writing p va n = machine_rows p (4 when TransferTooLong n ∷ 3 when SomeDenied writing p va n ∷ [])

-- B has its 32 places, as every record of the machine's type
abbrev pub Whole : State → Type 0
Whole p = length p.machine.book.held ≡ 32

-- "Each refusal comes exactly when document 01 says": the number of each call's outcome is decided by these rows
pub record ExactlyWhen : Type 0 where
  pub run : (p : State) (n : ℕ) → Whole p
      → Decided (run_call p n).numbers.verdict.refused (machine_rows p (4 when RunTooLong n ∷ []))
  pub read : (p : State) (va : ℕ) (buffer : List ℕ) → Whole p
      → Decided (read_call p va buffer).verdict.refused (transfer_rows false p va (length buffer))
  pub write : (p : State) (va : ℕ) (bytes : List ℕ) → Whole p
      → Decided (write_call p va bytes).verdict.refused (transfer_rows true p va (length bytes))
  pub view : (p : State) (x : VirtualPage) → Whole p
      → Decided (view_call p x).verdict.refused (machine_rows p (3 when Denied false p x ∷ []))
  pub reply : (m : Machine) (i v : ℕ) → Decided (reply_call m i v).verdict.refused (4 unless Register i ∷ [])
  pub image : (l : List ℕ) → Decided (image_call l).numbers.verdict.refused (image_rows l [])
  pub loading : (l : List ℕ) (m : Memory) → Decided (load_call l m).verdict.refused (image_rows l (7 unless MemoryFits l m ∷ []))

-- "A refusal returns its number, zero for every other number, an empty part for each part, the record as handed in (from loading, a
-- record of zeros), and no lent byte differs."
abbrev pub refused_run : State → VerdictNumbers → RunOutcome
refused_run p v = record { numbers = record { verdict = v; stop = 0; detail = 0; finished = 0; loads = 0; copied = 0 }; state = p }

abbrev pub refused_read : List ℕ → VerdictNumbers → ReadOutcome
refused_read buffer v = record { verdict = v; buffer = buffer }

abbrev pub refused_write : State → VerdictNumbers → StateOutcome
refused_write p v = record { verdict = v; state = p }

abbrev pub refused_view : VerdictNumbers → ViewOutcome
refused_view v = record { verdict = v; part = [] }

abbrev pub refused_reply : Machine → VerdictNumbers → ReplyOutcome
refused_reply m v = record { verdict = v; machine = m }

abbrev pub refused_image : VerdictNumbers → ImageOutcome
refused_image v = record { numbers = record { verdict = v; ptl = 0; start = 0; frames = 0 }; pages = []; rights = [] }

abbrev pub refused_loading : Memory → VerdictNumbers → StateOutcome
refused_loading m v = record { verdict = v; state = record { machine = zero_machine; memory = m } }

-- the whole outcome of a call that answers a number but 0
pub record ChangesNothing : Type 0 where
  pub run : (p : State) (n : ℕ) → ¬ ((run_call p n).numbers.verdict.refused ≡ 0)
      → run_call p n ≡ refused_run p (run_call p n).numbers.verdict
  pub read : (p : State) (va : ℕ) (buffer : List ℕ) → ¬ ((read_call p va buffer).verdict.refused ≡ 0)
      → read_call p va buffer ≡ refused_read buffer (read_call p va buffer).verdict
  pub write : (p : State) (va : ℕ) (bytes : List ℕ) → ¬ ((write_call p va bytes).verdict.refused ≡ 0)
      → write_call p va bytes ≡ refused_write p (write_call p va bytes).verdict
  pub view : (p : State) (x : VirtualPage) → ¬ ((view_call p x).verdict.refused ≡ 0)
      → view_call p x ≡ refused_view (view_call p x).verdict
  pub reply : (m : Machine) (i v : ℕ) → ¬ ((reply_call m i v).verdict.refused ≡ 0)
      → reply_call m i v ≡ refused_reply m (reply_call m i v).verdict
  pub image : (l : List ℕ) → ¬ ((image_call l).numbers.verdict.refused ≡ 0)
      → image_call l ≡ refused_image (image_call l).numbers.verdict
  pub loading : (l : List ℕ) (m : Memory) → ¬ ((load_call l m).verdict.refused ≡ 0)
      → load_call l m ≡ refused_loading m (load_call l m).verdict

-- "Length 0 is never refused 3, at any address."
pub record EmptyTransfer : Type 0 where
  pub read : (p : State) (va : ℕ) → Whole p → ¬ ((read_call p va []).verdict.refused ≡ 3)
  pub write : (p : State) (va : ℕ) → Whole p → ¬ ((write_call p va []).verdict.refused ≡ 3)

pub record Demand1 : Type 0 where
  pub exactly_when : ExactlyWhen
  pub changes_nothing : ChangesNothing
  pub empty_transfer : EmptyTransfer
