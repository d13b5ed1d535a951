-- The plain engine beside the paged machine: "From the same image and the same run, host and reply calls it must give the same refusals,
-- stops, details, finished counts, registers and guest bytes as the paged machine. .. Proved equal over any series of calls." The
-- theorem is `every_same` of proofs/Same.
use Rattle.std.specs.Prelude.{◌≡◌, ◌↔◌, List, [], ◌∷◌, ℕ, ◌≤◌, replicate}
use Rattle.model.specs.State.{Memory, State}
use Rattle.model.specs.Flat.{flat_bytes, flat_rights}
use Rattle.model.specs.Calls as paged
use Rattle.model.specs.Image as paged-load
use Rattle.model.specs.Series.{Call, runs, reads, writes, views, replies, SeriesStep, calls, spares, after_step, after_all}
use Rattle.plainmodel.specs.State.{PlainState}
use Rattle.plainmodel.specs.Calls as plain
use Rattle.plainmodel.specs.Load as plain-load
use Rattle.plainmodel.specs.Series as plain-series

-- ---- what a step answers with, on either machine: the refusal, the stop and its detail, the instructions finished, and the bytes that
-- are read or viewed
pub record Said : Type 0 where
  pub refused : ℕ
  pub stop : ℕ
  pub detail : ℕ
  pub finished : ℕ
  pub bytes : List ℕ

-- what is no run
abbrev pub said : ℕ → List ℕ → Said
said refused bytes = record { refused = refused; stop = 0; detail = 0; finished = 0; bytes = bytes }

-- the paged machine; a read fills a lent buffer of zeros
abbrev pub paged_ran : paged.RunOutcome → Said
paged_ran o = record {
  refused = o.numbers.verdict.refused;
  stop = o.numbers.stop;
  detail = o.numbers.detail;
  finished = o.numbers.finished;
  bytes = [];
}

unfoldable pub paged_call : State → Call → Said
paged_call p (runs n) = paged_ran (paged.run_call p n)
paged_call p (reads va n) = said (paged.read_call p va (replicate n 0)).verdict.refused (paged.read_call p va (replicate n 0)).buffer
paged_call p (writes va bytes) = said (paged.write_call p va bytes).verdict.refused []
paged_call p (views x) = said (paged.view_call p x).verdict.refused (paged.view_call p x).part
paged_call p (replies i v) = said (paged.reply_call p.machine i v).verdict.refused []

-- the plain engine
abbrev pub plain_ran : plain.RunOutcome → Said
plain_ran o = record {
  refused = o.numbers.verdict.refused;
  stop = o.numbers.stop;
  detail = o.numbers.detail;
  finished = o.numbers.finished;
  bytes = [];
}

unfoldable pub plain_call : PlainState → Call → Said
plain_call p (runs n) = plain_ran (plain.run_call p n)
plain_call p (reads va n) = said (plain.read_call p va (replicate n 0)).verdict.refused (plain.read_call p va (replicate n 0)).buffer
plain_call p (writes va bytes) = said (plain.write_call p va bytes).verdict.refused []
plain_call p (views x) = said (plain.view_call p x).verdict.refused (plain.view_call p x).part
plain_call p (replies i v) = said (plain.reply_call p.plain i v).verdict.refused []

-- the host's change of spare bits answers nothing
abbrev pub paged_says : State → SeriesStep → Said
paged_says p (calls c) = paged_call p c
paged_says p (spares x n) = said 0 []

abbrev pub plain_says : PlainState → SeriesStep → Said
plain_says p (calls c) = plain_call p c
plain_says p (spares x n) = said 0 []

-- ---- over a series: what each step answers
unfoldable pub paged_tells : State → List SeriesStep → List Said
paged_tells p [] = []
paged_tells p (s ∷ ss) = paged_says p s ∷ paged_tells (after_step p s) ss

unfoldable pub plain_tells : PlainState → List SeriesStep → List Said
plain_tells p [] = []
plain_tells p (s ∷ ss) = plain_says p s ∷ plain_tells (plain-series.after_step p s) ss

-- ---- the same registers, DPC and PC'; the plain memory is the flat memory of the paged machine, and so are the rights
pub record SameMachine (p : State) (q : PlainState) : Type 0 where
  pub gpr : p.machine.gpr ≡ q.plain.gpr
  pub pcs : p.machine.pcs ≡ q.plain.pcs
  pub bytes : flat_bytes p.machine.shape p.memory ≡ q.bytes
  pub rights : flat_rights p.machine.shape p.memory.main ≡ q.rights
  pub ptl : p.machine.shape.ptl ≡ q.plain.ptl

-- each step of the series answers the same, and they leave the same: as this holds of any series, it holds after each step of one
pub record SameSeries (p : State) (q : PlainState) (ss : List SeriesStep) : Type 0 where
  pub answers : paged_tells p ss ≡ plain_tells q ss
  pub machine : SameMachine (after_all p ss) (plain-series.after_all q ss)

-- ---- every image that both take; and both refuse one alike by 5 and by 6
pub record EverySame : Type 0 where
  pub series : (l : List ℕ) (m : Memory) (bytes rights : List ℕ)
      → (paged-load.load_call l m).verdict.refused ≡ 0 → (plain-load.load_call l bytes rights).verdict.refused ≡ 0
      → (ss : List SeriesStep) → SameSeries (paged-load.load_call l m).state (plain-load.load_call l bytes rights).state ss
  pub refusals : (l : List ℕ) (m : Memory) (bytes rights : List ℕ) (n : ℕ) → 5 ≤ n → n ≤ 6
      → ((paged-load.load_call l m).verdict.refused ≡ n) ↔ ((plain-load.load_call l bytes rights).verdict.refused ≡ n)
