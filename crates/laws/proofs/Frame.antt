-- "Outside the frames, a call changes main memory only in the table entries that a page load names", and swap only in the pages that
-- it names: so for an instruction (`instruction_off`) and for a run of any length (`run_off`). Swap changes in the pages alone that are
-- copied back (`instruction_swap_off`, `run_swap_off`).
use mathlib.Core.Path.{◌≡◌, refl, ap, subst, subst⁻¹, ◌∙◌}
use mathlib.Core.Bool.{true, false}
use mathlib.Core.List.Memᴰ
use mathlib.Core.List.{List, ◌++◌, Memᴰ}
use Prim.Native.Nat.{ℕ, suc, ◌*◌, ◌<◌, ◌≤◌}
use borrow.Author.Tests.{le-ltb, not-true}
use lib.ListN.{get_or}
use Rattle.model.specs.Pages.{page_of, entry_at, swap_of}
use Rattle.model.specs.Frames.{page_in, free, frame, copies}
use Rattle.model.specs.State.{State}
use Rattle.model.specs.Handler.{load}
use Rattle.model.specs.Run.{Step, goes, Counted, try, served, attempts, instruction, run}
use Rattle.model.specs.declared.Shape.{Shape}
use Rattle.model.specs.declared.VirtualPage.{VirtualPage}
use Rattle.model.specs.declared.Outcome.TheVariants.{Missing}
use Rattle.laws.specs.Good.{Good}
use Rattle.laws.specs.Mapped.{leaves}
use Rattle.laws.specs.Named.{Off, names_onward, along_attempts, along_instruction, along_run, names, copied, instruction_names, run_names, instruction_copies, run_copies}
use Rattle.laws.proofs.Choice.{and_left}
use Rattle.laws.proofs.Outside.{load_off, load_swap_off}
use Rattle.laws.proofs.Attempt.{missing}
use Rattle.laws.proofs.Third.{enough}
use Rattle.laws.proofs.Simulate.{run_all}
use Rattle.laws.proofs.Instruction.{Settled, attempts_all}
use Rattle.laws.proofs.Run.{GoodCounted, keeps, first_shape}

-- ---- the statement
-- a byte of one of the two memories
pub data Place : Type 0 where
  in_main : ℕ → Place
  in_swap : ℕ → Place

abbrev pub byte_at : Counted → Place → ℕ
byte_at c (in_main j) = get_or c.state.memory.main j 0
byte_at c (in_swap j) = get_or c.state.memory.swap j 0

-- it is outside the frames
abbrev pub Unframed : Shape → Place → Type 0
Unframed s (in_main j) = Off (4096 * s.abase) (4096 * s.frames) j
Unframed s (in_swap j) = Unit {0}

-- it is in no entry, or no swap page, of page x
abbrev pub Clear : Shape → VirtualPage → Place → Type 0
Clear s x (in_main j) = Off (entry_at s x) 4 j
Clear s x (in_swap j) = Off (4096 * (swap_of s x).0) 4096 j

pub record Beside (s : Shape) (names : List VirtualPage) (j : Place) : Type 0 where
  pub unframed : Unframed s j
  pub clear : (x : VirtualPage) → Memᴰ x names → Clear s x j

-- what stays from c to d, where these pages are named
abbrev pub StaysAt : Place → Counted → List VirtualPage → Counted → Type 0
StaysAt j c names d = Beside c.state.machine.shape names j → byte_at d j ≡ byte_at c j

abbrev pub Stays : Counted → List VirtualPage → Counted → Type 0
Stays c names d = (j : Place) → StaysAt j c names d

module _ (s : Shape) (xs ys : List VirtualPage) (j : Place) (h : Beside s (xs ++ ys) j) where
  beside_first : Beside s xs j
  beside_first = record { unframed = h.unframed; clear = λ x q. h.clear x (Memᴰ.append_left ys q) }

  beside_then : Beside s ys j
  beside_then = record { unframed = h.unframed; clear = λ x q. h.clear x (Memᴰ.append_right xs q) }

-- ---- the pages that a load writes of: in main memory both entries, in swap the page that is copied back
abbrev VictimIn : State → List VirtualPage → Type 0
VictimIn p xs = Memᴰ (page_in p.machine.book (frame p.machine.shape.frames p.machine.book)) xs

abbrev Tells : (State → VirtualPage → List VirtualPage) → Place → Type 0
Tells told (in_main j) =
    (p : State) (y : VirtualPage) → Memᴰ y (told p y) × (p.machine.shape.frames ≤ p.machine.book.used → VictimIn p (told p y))
Tells told (in_swap j) = (p : State) (y : VirtualPage) → copies p.machine.shape.frames p.machine.book ≡ true → VictimIn p (told p y)

names_tell : (j : Place) → Tells names j
names_tell (in_main j) =
    λ p y. (Memᴰ.head refl, λ q. rw (le-ltb p.machine.book.used p.machine.shape.frames q) (Memᴰ.tail (Memᴰ.head refl)))
names_tell (in_swap j) = λ p y e.
    let q : free p.machine.shape.frames p.machine.book ≡ false = not-true _ (and_left _ _ e) in
    rw q (Memᴰ.tail (Memᴰ.head refl))

copied_tell : (j : ℕ) → Tells copied (in_swap j)
copied_tell j p y e = rw e (Memᴰ.head refl)

-- ---- one byte, where its pages are told
module _ (told : State → VirtualPage → List VirtualPage) where
  pub load_at : (j : Place) → Tells told j → (c : Counted) → Good c.state → (y : VirtualPage) → y.0 < c.state.machine.shape.ptl
      → StaysAt j c (told c.state y) (served c y)
  unfolding load
  load_at (in_main j) t c g y hy h =
      load_off c.state.machine.shape c.state.machine.book c.state.memory g.fit g.whole g.seated g.hand y hy j
      h.unframed (h.clear y (t c.state y).0) (λ q. h.clear _ ((t c.state y).1 q))
  load_at (in_swap j) t c g y hy h =
      load_swap_off c.state.machine.shape c.state.machine.book c.state.memory g.fit g.whole g.seated g.hand y hy j
      (λ q. h.clear _ (t c.state y q))

  module _ (j : Place) (t : Tells told j) where
    -- a load, and what follows it
    after_load_lem : (k : ℕ) (c : Counted) → Good c.state → (va : ℕ) → (try c.state).outcome ≡ Missing va → (d : Counted)
        → StaysAt j (served c (page_of va)) (along_attempts told k (load c.state (page_of va))) d
        → StaysAt j c (along_attempts told (suc k) c.state) d
    unfolding along_attempts load
    after_load_lem k c g va e d r o =
        let s : Shape = c.state.machine.shape in
        let xs : List VirtualPage = told c.state (page_of va) in
        let ys : List VirtualPage = along_attempts told k (load c.state (page_of va)) in
        let q : Beside s (xs ++ ys) j = rw e at o in
        r (beside_then s xs ys j q) ∙ load_at j t c g (page_of va) (missing c.state va e).0 (beside_first s xs ys j q)

    settled_at : (k : ℕ) (c : Counted) → Good c.state → (r : Step Counted) → Settled c r → StaysAt j c (along_attempts told k c.state) (leaves r)
    settled_at k c g r u = by j
      where
        by : (i : Place) → StaysAt i c (along_attempts told k c.state) (leaves r)
        by (in_main i) h = u.off i h.unframed
        by (in_swap i) h = ap (λ l. get_or l i 0) u.swap

    instruction_at_lem : (c : Counted) → Good c.state → StaysAt j c (along_instruction told c.state) (leaves (instruction c))
    unfolding instruction along_instruction
    instruction_at_lem c g =
        attempts_all (λ k c r. StaysAt j c (along_attempts told k c.state) (leaves r)) settled_at
        (λ k c g va e h r. after_load_lem k c g va e (leaves (attempts k (served c (page_of va)))) r) 2 c g (enough c.state g)

    first_at : (c : Counted) → Good c.state → (d : Counted) → leaves (instruction c) ≡ d → StaysAt j c (along_instruction told c.state) d
    first_at c g d e = rw e at (instruction_at_lem c g)

    run_at : (n : ℕ) (c : Counted) → Good c.state → StaysAt j c (along_run told n c) (run instruction n c).left
    unfolding along_run
    run_at =
        run_all instruction GoodCounted keeps (λ n c r. StaysAt j c (along_run told n c) r.left) (λ c g h. refl)
        (λ n c g s k d e h o.
        first_at c g d (ap leaves e)
        (beside_first c.state.machine.shape (along_instruction told c.state) (names_onward (instruction c) (λ next. along_run told n next)) j o))
        after
      where
        after : (n : ℕ) (c : Counted) → Good c.state → (next : Counted) → instruction c ≡ goes next → Good next.state
            → StaysAt j next (along_run told n next) (run instruction n next).left → StaysAt j c (along_run told (suc n) c) (run instruction n next).left
        after n c g next e h r o =
            let s : Shape = c.state.machine.shape in
            let xs : List VirtualPage = along_instruction told c.state in
            let ys : List VirtualPage = along_run told n next in
            let q : Beside s (xs ++ ys) j = subst (λ z. Beside s (xs ++ names_onward z (λ d. along_run told n d)) j) e o in
            r (subst⁻¹ (λ z. Beside z ys j) (first_shape c g next (ap leaves e)) (beside_then s xs ys j q))
            ∙ first_at c g next (ap leaves e) (beside_first s xs ys j q)

-- ---- every byte, where all pages that are named are told
pub instruction_off : (c : Counted) → Good c.state → Stays c (instruction_names c.state) (leaves (instruction c))
instruction_off c g j = instruction_at_lem names j (names_tell j) c g

pub run_off : (n : ℕ) (c : Counted) → Good c.state → Stays c (run_names n c) (run instruction n c).left
run_off n c g j = run_at names j (names_tell j) n c g

-- ---- a byte of swap, where the pages that are copied back are told
pub load_swap_stays : (c : Counted) → Good c.state → (y : VirtualPage) → y.0 < c.state.machine.shape.ptl
    → (j : ℕ) → StaysAt (in_swap j) c (copied c.state y) (served c y)
load_swap_stays c g y hy j = load_at copied (in_swap j) (copied_tell j) c g y hy

pub instruction_swap_off : (c : Counted) → Good c.state → (j : ℕ) → StaysAt (in_swap j) c (instruction_copies c.state) (leaves (instruction c))
instruction_swap_off c g j = instruction_at_lem copied (in_swap j) (copied_tell j) c g

pub run_swap_off : (n : ℕ) (c : Counted) → Good c.state → (j : ℕ) → StaysAt (in_swap j) c (run_copies n c) (run instruction n c).left
run_swap_off n c g j = run_at copied (in_swap j) (copied_tell j) n c g
