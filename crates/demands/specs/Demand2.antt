-- Demand 2: "Each instruction does what the virtual DLX does on one flat memory with rights, and each page moves as document 01 fixes.
-- The host's reads and writes meet that same flat memory. Outside the frames, a call changes main memory only in the table entries
-- that a page load names", and there "only ppx and v": "bits 11–3 stay as the host put them". `Demand2 p` says it of every call on a
-- machine p; `demand_2` of proofs/Demand2, of each that is sound.
use Rattle.std.specs.Prelude.{◌≡◌, ◌↔◌, ◌⊎◌, true, ℕ, ◌*◌, ◌<◌, ◌≤◌, length, get_or, take, drop}
use mathlib.Core.List.{List, Memᴰ}
use Rattle.model.specs.Bytes.{page}
use Rattle.model.specs.Pages.{entry_at}
use Rattle.model.specs.Table.{spare, entry}
use Rattle.model.specs.Frames.{page_in, marked}
use Rattle.model.specs.State.{State}
use Rattle.model.specs.Run.{run}
use Rattle.model.specs.Flat.{flat, flat_instruction}
use Rattle.model.specs.Calls.{run_call, read_call, write_call, view_call, reply_call}
use Rattle.model.specs.Series.{Call, after}
use Rattle.model.specs.declared.VirtualPage.{VirtualPage}
use Rattle.laws.specs.Good.{Good}
use Rattle.laws.specs.Mapped.{SameSize}
use Rattle.laws.specs.Demand2.{flat_write, with_marks, Gets, with_register}
use Rattle.laws.specs.Named.{Off, call_names}
use Rattle.demands.specs.FlatRun.{RunsFlat, FewLoads, Halting, Halts}

-- ---- outside the frames
-- place j of main memory is outside the frames, and outside the entries of the pages that the loads of the call name
pub record Outside (p : State) (c : Call) (j : ℕ) : Type 0 where
  pub unframed : Off (4096 * p.machine.shape.abase) (4096 * p.machine.shape.frames) j
  pub unnamed : (x : VirtualPage) → Memᴰ x (call_names p c) → Off (entry_at p.machine.shape x) 4 j

-- ---- the demand
pub record Demand2 (p : State) : Type 0 where
  pub ran : (n : ℕ) → n ≤ 1000000 → RunsFlat (run_call p n) (run flat_instruction n (flat p))
  pub loads : (n : ℕ) → FewLoads (run_call p n).numbers
  pub halted : (n : ℕ) → Halting (run_call p n) → Halts (flat p) (run_call p n)
  -- "The host's reads and writes meet that same flat memory."
  pub read : (va : ℕ) (buffer : List ℕ) → (read_call p va buffer).verdict.refused ≡ 0
      → (read_call p va buffer).buffer ≡ take (length buffer) (drop va (flat p).bytes)
  pub viewed : (x : VirtualPage) → (view_call p x).verdict.refused ≡ 0 → (view_call p x).part ≡ page (flat p).bytes x.0
  pub written : (va : ℕ) (bytes : List ℕ) → (write_call p va bytes).verdict.refused ≡ 0
      → flat (write_call p va bytes).state ≡ flat_write (flat p) va bytes
  -- a write leaves the record as it is but for the marks, so that no page is loaded: each frame whose page gets a byte has its mark
  -- then, and each that had it; a reply changes the one register
  pub recorded : (va : ℕ) (bytes : List ℕ)
      → (write_call p va bytes).state.machine ≡ with_marks p.machine (write_call p va bytes).state.machine.book.marks
  pub marks : (va : ℕ) (bytes : List ℕ) → (write_call p va bytes).verdict.refused ≡ 0 → (f : ℕ) → f < p.machine.book.used
      → (marked (write_call p va bytes).state.machine.book.marks f ≡ true)
      ↔ ((marked p.machine.book.marks f ≡ true) ⊎ Gets va (length bytes) (page_in p.machine.book f))
  pub replied : (i v : ℕ) → (reply_call p.machine i v).verdict.refused ≡ 0 → (reply_call p.machine i v).machine ≡ with_register p.machine i v
  -- a sound machine stays sound, refused or not; its shape stays, and the lengths of both memories
  pub sound : (c : Call) → Good (after p c)
  pub size : (c : Call) → SameSize p (after p c)
  -- "bits 11–3 stay as the host put them", in the entry of every page of the table
  pub spare_bits : (c : Call) (x : VirtualPage) → x.0 < p.machine.shape.ptl
      → spare (entry p.machine.shape (after p c).memory.main x) ≡ spare (entry p.machine.shape p.memory.main x)
  -- "Outside the frames, a call changes main memory only in the table entries that a page load names."
  pub outside : (c : Call) (j : ℕ) → Outside p c j → get_or (after p c).memory.main j 0 ≡ get_or p.memory.main j 0
