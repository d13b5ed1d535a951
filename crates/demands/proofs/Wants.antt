-- One attempt beside the demand of its flat machine: it misses the first page of the demand that is not resident (`try_wants`), and
-- with no demand it stops (`try_stops`).
use mathlib.Core.Path.{◌≡◌, refl, sym, ap, ◌∙◌}
use mathlib.Core.Bool.{Bool, true, false, true≢false}
use mathlib.Core.List.{List, [], ◌∷◌}
use Prim.Native.Nat.{ℕ, ◌≤◌}
use native.Mathlib.Omega.{arith}
use lib.ListN.{length}
use Rattle.std.specs.Prelude.{if◌then◌else◌}
use Rattle.model.specs.Words.{aligned}
use Rattle.model.specs.Bytes.{number}
use Rattle.model.specs.Pages.{page_of}
use Rattle.model.specs.Instruction.{plan}
use Rattle.model.specs.Attempt.{Tried, Width, byte, half, word, size, stopped, accessed, transfer, obey_load, obey_store, obey, attempt}
use Rattle.model.specs.State.{Memory, State}
use Rattle.model.specs.Translate.{translate, legal}
use Rattle.model.specs.Run.{try}
use Rattle.model.specs.Flat.{Flat, allow, flat_bytes, flat_rights, flat}
use Rattle.model.specs.Order.{Demand, alone, both, with_data, demand_by, demand_of}
use Rattle.model.specs.declared.Shape.{Shape}
use Rattle.model.specs.declared.FrameBook.{FrameBook}
use Rattle.model.specs.declared.VirtualPage.{VirtualPage}
use Rattle.model.specs.declared.Pcs.{Pcs}
use Rattle.model.specs.declared.Access.{Access}
use Rattle.model.specs.declared.Access.TheVariants.{Illegal, Fault, At}
use Rattle.model.specs.declared.Plan.{Plan}
use Rattle.model.specs.declared.Plan.TheVariants.{Unknown, Set, LoadByte, LoadHalf, LoadWord, StoreByte, StoreHalf, StoreWord, Trapping}
use Rattle.model.specs.declared.Stop.{Stop}
use Rattle.model.specs.declared.Stop.TheVariants.{IllegalMemory, Misaligned}
use Rattle.model.specs.declared.Outcome.{Outcome}
use Rattle.model.specs.declared.Outcome.TheVariants.{Done, Wrote, Trapped, Missing, Stopped}
use Rattle.laws.specs.Good.{Seated, Good}
use Rattle.laws.proofs.Sound.{resident_valid}
use Rattle.laws.proofs.Access as access
use Rattle.bound.specs.Pages.{◌∈◌}
use Rattle.bound.specs.Rule.{pages_of}
use Rattle.bound.specs.Orders.{Order}
use Rattle.bound.specs.Frames.{pages, Keeps}
use Rattle.bound.specs.Handler.{Looked, present, absent, look}
use Rattle.bound.proofs.Frames.{pages_resident}
use Rattle.bound.proofs.Handler.{look_here, look_away}

-- what an attempt finds in the list q of resident pages
abbrev pub seen : Outcome → List VirtualPage → Looked
seen (Done pcs) q = present q
seen (Wrote pcs i) q = present q
seen (Trapped pcs n) q = present q
seen (Missing va) q = absent (page_of va) q
seen (Stopped s) q = present q

-- what the handler in the large finds there, for no demand or one
abbrev pub look_for : Order → List Demand → List VirtualPage → Looked
look_for o [] q = present q
look_for o (d ∷ ds) q = look o (pages_of d) q

-- every demand of an instruction begins with its code page
data Begins (c : VirtualPage) : Demand → Type 0 where
  begins_alone : Begins c (alone c)
  begins_both : {d : VirtualPage} → Begins c (both c d)

module _ (f : Flat) (c : VirtualPage) where
  data_begins : (writing : Bool) (width : Width) (va : ℕ) → Begins c (with_data f c writing width va)
  data_begins writing width va = pick (aligned (size width) va) (legal (allow f.rights writing va))
    where
      pick : (x y : Bool) → Begins c (if x then (if y then both c (page_of va) else alone c) else alone c)
      pick true true = begins_both
      pick true false = begins_alone
      pick false y = begins_alone

  begins : (w : Plan) → Begins c (demand_by f c w)
  begins Unknown = begins_alone
  begins (Set rd v target) = begins_alone
  begins (LoadByte signed rd va) = data_begins false byte va
  begins (LoadHalf signed rd va) = data_begins false half va
  begins (LoadWord rd va) = data_begins false word va
  begins (StoreByte va v) = data_begins true byte va
  begins (StoreHalf va v) = data_begins true half va
  begins (StoreWord va v) = data_begins true word va
  begins (Trapping n) = begins_alone

away_first : (o : Order) (c : VirtualPage) (d : Demand) (q : List VirtualPage) → Begins c d → ¬ (c ∈ q) → look o (pages_of d) q ≡ absent c q
away_first o c d q begins_alone n = look_away o c [] q n
away_first o c d q (begins_both {d = e}) n = look_away o c (e ∷ []) q n

-- ---- one attempt of a machine with this table and book, which keeps the order o
module _ (o : Order) (kept : Keeps o) (s : Shape) (few : s.frames ≤ 32) (b : FrameBook) (m : Memory) (g : Seated s b m.main)
    (gpr : List ℕ) (pcs : Pcs) where
  abbrev f : Flat
  f = record { gpr = gpr; pcs = pcs; bytes = flat_bytes s m; rights = flat_rights s m.main }

  abbrev q : List VirtualPage
  q = pages b

  -- a page that is there is passed, and the list stays
  look_on : (y : VirtualPage) (ys : List VirtualPage) → y ∈ q → look o (y ∷ ys) q ≡ look o ys q
  look_on y ys i = look_here o y ys q i ∙ ap (look o ys) (sym (kept.touched b y i))

  look_none : look o [] q ≡ present q
  unfolding look
  look_none = refl

  here : (w : Bool) (va i : ℕ) → translate s m.main w va ≡ At i → page_of va ∈ q
  here w va i e =
      let t : access.Through s m.main w va i = access.through s m.main w va i e in
      (pages_resident s.frames few b g.booked (page_of va)).1 (resident_valid s b m.main g (page_of va) t.inside ∙ t.here)

  away : (w : Bool) (va : ℕ) → translate s m.main w va ≡ Fault → ¬ (page_of va ∈ q)
  away w va e i =
      let t : access.Absent s m.main w va = access.absent s m.main w va e in
      true≢false (sym ((pages_resident s.frames few b g.booked (page_of va)).0 i) ∙ resident_valid s b m.main g (page_of va) t.inside ∙ t.away)

  -- the code page is there: the access of a load or store
  module _ (c : VirtualPage) (code : c ∈ q) where
    code_alone : look o (c ∷ []) q ≡ present q
    code_alone = look_on c [] code ∙ look_none

    accessed_wants : (w : Bool) (va : ℕ) (a : Access) → translate s m.main w va ≡ a → (k : ℕ → Tried) → ((i : ℕ) → seen (k i).outcome q ≡ present q)
        → look o (pages_of (if legal (allow (flat_rights s m.main) w va) then both c (page_of va) else alone c)) q
        ≡ seen (accessed (translate s m.main) gpr m.main pcs a va k).outcome q
    accessed_wants w va Illegal e k h = rw (access.illegal s m w va e) code_alone
    accessed_wants w va Fault e k h =
        rw (access.permits s m w va e) (look_on c (page_of va ∷ []) code ∙ look_away o (page_of va) [] q (away w va e))
    accessed_wants w va (At i) e k h =
        rw (access.legal s m w va i e)
        (look_on c (page_of va ∷ []) code ∙ look_on (page_of va) [] (here w va i e) ∙ look_none ∙ sym (h i))

    transfer_wants : (w : Bool) (width : Width) (va : ℕ) (k : ℕ → Tried) → ((i : ℕ) → seen (k i).outcome q ≡ present q)
        → look o (pages_of (with_data f c w width va)) q ≡ seen (transfer (translate s m.main) gpr m.main pcs w width va k).outcome q
    unfolding transfer
    transfer_wants w width va k h = pick (aligned (size width) va)
      where
        pick : (x : Bool) → look o (pages_of (if x then (if legal (allow (flat_rights s m.main) w va) then both c (page_of va) else alone c) else alone c)) q
            ≡ seen (if x then accessed (translate s m.main) gpr m.main pcs (translate s m.main w va) va k
            else stopped (translate s m.main) gpr m.main pcs (Misaligned va)).outcome q
        pick true = accessed_wants w va (translate s m.main w va) refl k h
        pick false = code_alone

    obey_wants : (w : ℕ) (x : Plan) → look o (pages_of (demand_by f c x)) q ≡ seen (obey (translate s m.main) gpr m.main pcs w x).outcome q
    unfolding obey obey_load obey_store
    obey_wants w Unknown = code_alone
    obey_wants w (Set rd v target) = code_alone
    obey_wants w (LoadByte signed rd va) = transfer_wants false byte va _ (λ i. refl)
    obey_wants w (LoadHalf signed rd va) = transfer_wants false half va _ (λ i. refl)
    obey_wants w (LoadWord rd va) = transfer_wants false word va _ (λ i. refl)
    obey_wants w (StoreByte va v) = transfer_wants true byte va _ (λ i. refl)
    obey_wants w (StoreHalf va v) = transfer_wants true half va _ (λ i. refl)
    obey_wants w (StoreWord va v) = transfer_wants true word va _ (λ i. refl)
    obey_wants w (Trapping n) = code_alone

  -- the fetch, and what follows where it goes through at i
  abbrev demand : Demand
  demand = demand_by f (page_of pcs.dpc) (plan gpr pcs.next (number 4 (flat_bytes s m) pcs.dpc))

  abbrev obeyed : ℕ → Tried
  obeyed i = obey (translate s m.main) gpr m.main pcs (number 4 m.main i) (plan gpr pcs.next (number 4 m.main i))

  fetch_wants : (a : Access) → translate s m.main false pcs.dpc ≡ a → aligned 4 pcs.dpc ≡ true
      → look_for o (if legal (allow (flat_rights s m.main) false pcs.dpc) then demand ∷ [] else []) q
      ≡ seen (accessed (translate s m.main) gpr m.main pcs a pcs.dpc obeyed).outcome q
  fetch_wants Illegal e h = rw (access.illegal s m false pcs.dpc e) refl
  fetch_wants Fault e h =
      rw (access.permits s m false pcs.dpc e)
      (away_first o (page_of pcs.dpc) demand q
      (begins f (page_of pcs.dpc) (plan gpr pcs.next (number 4 (flat_bytes s m) pcs.dpc))) (away false pcs.dpc e))
  fetch_wants (At i) e h =
      rw (access.legal s m false pcs.dpc i e, ← access.reads s m false word pcs.dpc i h e)
      (obey_wants (page_of pcs.dpc) (here false pcs.dpc i e) (number 4 m.main i) (plan gpr pcs.next (number 4 m.main i)))

  attempt_wants : look_for o (demand_of f) q ≡ seen (attempt (translate s m.main) gpr m.main pcs).outcome q
  unfolding demand_of attempt transfer
  attempt_wants = pick (aligned 4 pcs.dpc) refl
    where
      pick : (x : Bool) → aligned 4 pcs.dpc ≡ x
          → look_for o (if x then (if legal (allow (flat_rights s m.main) false pcs.dpc) then demand ∷ [] else []) else []) q
          ≡ seen (if x then accessed (translate s m.main) gpr m.main pcs (translate s m.main false pcs.dpc) pcs.dpc obeyed
          else stopped (translate s m.main) gpr m.main pcs (Misaligned pcs.dpc)).outcome q
      pick true h = fetch_wants (translate s m.main false pcs.dpc) refl h
      pick false h = refl

  -- with no demand the fetch is misaligned or illegal
  attempt_stops : demand_of f ≡ [] → (x : Stop) × ((attempt (translate s m.main) gpr m.main pcs).outcome ≡ Stopped x)
  unfolding demand_of attempt transfer
  attempt_stops = pick (aligned 4 pcs.dpc) (translate s m.main false pcs.dpc) refl
    where
      pick : (x : Bool) (a : Access) → translate s m.main false pcs.dpc ≡ a
          → (if x then (if legal (allow (flat_rights s m.main) false pcs.dpc) then demand ∷ [] else []) else []) ≡ []
          → (y : Stop) × ((if x then accessed (translate s m.main) gpr m.main pcs a pcs.dpc obeyed
          else stopped (translate s m.main) gpr m.main pcs (Misaligned pcs.dpc)).outcome ≡ Stopped y)
      pick false a e h = (Misaligned pcs.dpc, refl)
      pick true Illegal e h = (IllegalMemory pcs.dpc, refl)
      pick true Fault e h = absurd (omega (arith, ap length (rw (access.permits s m false pcs.dpc e) at h)))
      pick true (At i) e h = absurd (omega (arith, ap length (rw (access.legal s m false pcs.dpc i e) at h)))

pub try_wants : (o : Order) → Keeps o → (p : State) → Good p
    → look_for o (demand_of (flat p)) (pages p.machine.book) ≡ seen (try p).outcome (pages p.machine.book)
unfolding flat
try_wants o kept p g =
    attempt_wants o kept p.machine.shape g.fit.frames_most p.machine.book p.memory g.seated p.machine.gpr p.machine.pcs

pub try_stops : (o : Order) → Keeps o → (p : State) → Good p → demand_of (flat p) ≡ [] → (x : Stop) × ((try p).outcome ≡ Stopped x)
unfolding flat
try_stops o kept p g =
    attempt_stops o kept p.machine.shape g.fit.frames_most p.machine.book p.memory g.seated p.machine.gpr p.machine.pcs
