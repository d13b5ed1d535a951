-- Sections "One attempt" and "Calls and their refusals": an instruction, and a run of at most n of them. `run` serves every machine
-- that has an instruction: the paged one here, the flat one in Flat. What an attempt comes to decides what follows it:
--     done       the instruction is finished, and the next one follows
--     wrote      the same, and what was stored to is noted
--     trapped    the instruction is finished, and the run stops (1)
--     missing    the page is loaded, and the attempt begins anew
--     stopped    nothing has changed, and the run stops (2, 3, 4)
use Rattle.std.specs.Prelude.{List, ℕ, zero, suc, ◌+◌}
use Rattle.model.specs.Words.{bit}
use Rattle.model.specs.Pages.{page_of, main_page_of, frame_in}
use Rattle.model.specs.Frames.{with_mark, remarked, copies}
use Rattle.model.specs.Translate.{translate}
use Rattle.model.specs.Attempt.{Tried, attempt}
use Rattle.model.specs.State.{State}
use Rattle.model.specs.Handler.{load}
use Rattle.model.specs.declared.Pcs.{Pcs}
use Rattle.model.specs.declared.VirtualPage.{VirtualPage}
use Rattle.model.specs.declared.Stop.{Stop}
use Rattle.model.specs.declared.Stop.TheVariants as stop
use Rattle.model.specs.declared.Outcome.TheVariants.{Done, Wrote, Trapped, Missing, Stopped}

-- ---- any machine M
-- What an instruction comes to: the machine goes on, or it stops, with 1 finished (a trap) or 0.
pub data Step (M : Type 0) : Type 0 where
  goes : M → Step M
  stops : Stop → (finished : ℕ) → M → Step M

-- What a run comes to: why it stopped, the instructions finished, and the machine that it leaves.
pub record Course (M : Type 0) : Type 0 where
  pub stop : Stop
  pub finished : ℕ
  pub left : M

module _ {M : Type 0} where
  -- What an attempt t of machine m comes to: `put` is the machine with other PCs, registers and bytes, `noted` one after a store at a
  -- place, `again` what follows a fault.
  abbrev pub answered : M → (Pcs → List ℕ → List ℕ → M) → (ℕ → M → M) → (ℕ → Step M) → Tried → Step M
  answered m put noted again t = elim t.outcome as (λ o. Step M) [
    | Done pcs ↦ goes (put pcs t.gpr t.bytes)
    | Wrote pcs i ↦ goes (noted i (put pcs t.gpr t.bytes))
    | Trapped pcs n ↦ stops (stop.Trap n) 1 (put pcs t.gpr t.bytes)
    | Missing va ↦ again va
    | Stopped s ↦ stops s 0 m
  ]

  abbrev pub ended : Stop → ℕ → M → Course M
  ended s n m = record { stop = s; finished = n; left = m }

  -- the same with n more instructions finished before
  abbrev pub more : ℕ → Course M → Course M
  more n c = record { stop = c.stop; finished = n + c.finished; left = c.left }

  unfoldable pub follow : Step M → (M → Course M) → Course M
  follow (goes m) rest = more 1 (rest m)
  follow (stops s n m) rest = ended s n m

module _ {M : Type 0} (instruction : M → Step M) where
  -- "0 limit used up (tested first, before each instruction)"
  unfoldable pub run : ℕ → M → Course M
  run zero m = ended stop.Limit 0 m
  run (suc n) m = follow (instruction m) (λ next. run n next)

-- ---- the paged machine, with the pages loaded so far, and the pages copied back to swap
pub record Counted : Type 0 where
  pub state : State
  pub loads : ℕ
  pub copied : ℕ

abbrev pub uncounted : State → Counted
uncounted p = record { state = p; loads = 0; copied = 0 }

-- one attempt
abbrev pub try : State → Tried
try p = attempt (translate p.machine.shape p.memory.main) p.machine.gpr p.memory.main p.machine.pcs

abbrev pub carried : State → Pcs → List ℕ → List ℕ → State
carried p pcs gpr main = record {
  machine = record { shape = p.machine.shape; book = p.machine.book; gpr = gpr; pcs = pcs };
  memory = record { main = main; swap = p.memory.swap };
}

abbrev pub put : Counted → Pcs → List ℕ → List ℕ → Counted
put c pcs gpr main = record { state = carried c.state pcs gpr main; loads = c.loads; copied = c.copied }

-- "a mark per frame, set by a guest store": that of the frame where place i is
abbrev pub marked_at : State → ℕ → State
marked_at p i = record {
  machine = record {
    shape = p.machine.shape;
    book = remarked p.machine.book (with_mark p.machine.book.marks (frame_in p.machine.shape (main_page_of i)));
    gpr = p.machine.gpr;
    pcs = p.machine.pcs;
  };
  memory = p.memory;
}

abbrev pub note : ℕ → Counted → Counted
note i c = record { state = marked_at c.state i; loads = c.loads; copied = c.copied }

-- one step of the handler is one page loaded, and one copied back where its victim was marked
abbrev pub served : Counted → VirtualPage → Counted
served c y = record {
  state = load c.state y;
  loads = suc c.loads;
  copied = c.copied + bit (copies c.state.machine.shape.frames c.state.machine.book);
}

-- An instruction with at most k page loads: "load the page, begin the attempt anew". In a sound machine two are enough, by the law
-- `third`; where a third were needed the definition gives stop 2.
unfoldable pub attempts : ℕ → Counted → Step Counted
attempts zero c = answered c (put c) note (λ va. stops (stop.IllegalMemory va) 0 c) (try c.state)
attempts (suc k) c = answered c (put c) note (λ va. attempts k (served c (page_of va))) (try c.state)

unfoldable pub instruction : Counted → Step Counted
instruction c = attempts 2 c
