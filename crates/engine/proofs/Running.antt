-- A run under way, between two attempts: what is left of it, and what each outcome of the next attempt makes of it.
use mathlib.Core.Path.{◌≡◌, refl, sym, ap, ap₂, subst, ◌∙◌}
use mathlib.Core.Bool.{Bool, true, false}
use mathlib.Core.List.{List}
use Prim.Native.Nat.{ℕ, zero, suc, ◌+◌, ◌-◌, ◌*◌, ◌≤◌, ◌<◌}
use native.Mathlib.Nat.{add-zero, zero-add, add_assoc}
use native.Mathlib.Decide.{dec_lt}
use native.Mathlib.Numerals.{add-one}
use native.Mathlib.Omega.{arith}
use lib.ListN.{length}
use mir.Val.{bool_byte}
use Rattle.model.specs.Words.{bit}
use Rattle.model.specs.Pages.{page_of}
use Rattle.model.specs.Frames.{remarked, frame, copies}
use Rattle.model.specs.State.{State, memory}
use Rattle.model.specs.Attempt.{Tried, tried}
use Rattle.model.specs.Handler.{load}
use Rattle.model.specs.Run.{Step, goes, stops, Course, ended, more, follow, run, Counted, try, put, note, served, attempts, instruction}
use Rattle.model.specs.declared.Shape.{Shape}
use Rattle.model.specs.declared.FrameBook.{FrameBook}
use Rattle.model.specs.declared.VirtualPage.{VirtualPage}
use Rattle.model.specs.declared.Pcs.{Pcs}
use Rattle.model.specs.declared.Outcome.{Outcome}
use Rattle.model.specs.declared.Outcome.TheVariants.{Done, Wrote, Trapped, Missing, Stopped}
use Rattle.model.specs.declared.Stop.{Stop}
use Rattle.model.specs.declared.Stop.TheVariants.{Limit, Trap}
use Rattle.laws.specs.Good.{Good}
use Rattle.laws.specs.Mapped.{SameSize}
use Rattle.laws.proofs.Attempt.{missing}
use Rattle.laws.proofs.Third.{Enough, enough, miss_good}
use Rattle.laws.specs.Demand2.{Right}
use Rattle.laws.proofs.Size.{load_size}
use Rattle.laws.proofs.Seats.{frame_most, frame_used}
use Rattle.laws.proofs.Instruction.{attempts_right}
use Rattle.cpu.specs.Finished.{Finished}
use Rattle.paging.specs.Ready.{Ready, Stepped, after_load}
use Rattle.engine.specs.Engine.{counted, course, Spot, spot, Walk, start, step, store, marks_after, Walked}
use Rattle.engine.specs.declared.Ended.{Ended}
use Rattle.engine.specs.declared.Leg.{Leg}

-- ---- the next attempt, by its outcome
attempts_done : (k : ℕ) (c : Counted) (q : Pcs) → (try c.state).outcome ≡ Done q → attempts k c ≡ goes (put c q (try c.state).gpr (try c.state).bytes)
unfolding attempts
attempts_done zero c q e = rw e refl
attempts_done (suc k) c q e = rw e refl

attempts_wrote : (k : ℕ) (c : Counted) (q : Pcs) (i : ℕ) → (try c.state).outcome ≡ Wrote q i
    → attempts k c ≡ goes (note i (put c q (try c.state).gpr (try c.state).bytes))
unfolding attempts
attempts_wrote zero c q i e = rw e refl
attempts_wrote (suc k) c q i e = rw e refl

attempts_trapped : (k : ℕ) (c : Counted) (q : Pcs) (n : ℕ) → (try c.state).outcome ≡ Trapped q n
    → attempts k c ≡ stops (Trap n) 1 (put c q (try c.state).gpr (try c.state).bytes)
unfolding attempts
attempts_trapped zero c q n e = rw e refl
attempts_trapped (suc k) c q n e = rw e refl

attempts_stopped : (k : ℕ) (c : Counted) (s : Stop) → (try c.state).outcome ≡ Stopped s → attempts k c ≡ stops s 0 c
unfolding attempts
attempts_stopped zero c s e = rw e refl
attempts_stopped (suc k) c s e = rw e refl

attempts_missing : (k : ℕ) (c : Counted) (va : ℕ) → (try c.state).outcome ≡ Missing va → attempts (suc k) c ≡ attempts k (served c (page_of va))
unfolding attempts
attempts_missing k c va e = rw e refl

-- what a test gives as a number
byte_bit : (b : Bool) → bool_byte b ≡ bit b
byte_bit true = refl
byte_bit false = refl

bit_most : (b : Bool) → bit b ≤ 1
bit_most true = omega arith
bit_most false = omega arith

pub byte_most : (b : Bool) → bool_byte b ≤ 1
byte_most b = rw (byte_bit b) (bit_most b)

-- ---- a run under way
-- what is left of a run of n, where the instruction under way may take k more loads
unfoldable pub resumed : ℕ → ℕ → Counted → Course Counted
resumed k zero c = ended Limit 0 c
resumed k (suc n) c = follow (attempts k c) (λ next. run instruction n next)

resumed_run : (n : ℕ) (c : Counted) → run instruction n c ≡ resumed 2 n c
unfolding resumed run instruction
resumed_run zero c = refl
resumed_run (suc n) c = refl

-- From c₀, f instructions are finished and c is reached; the instruction under way has made `tries` of its loads.
pub record Running (limit : ℕ) (c₀ c : Counted) (f : ℕ) : Type 0 where
  pub few : f ≤ limit
  pub tries : ℕ
  pub within : tries ≤ 2
  pub loads : c.loads ≤ 2 * f + tries
  pub copied : c.copied ≤ c.loads
  pub enough : Enough (2 - tries) c.state
  pub good : Good c.state
  pub size : SameSize c₀.state c.state
  pub same : run instruction limit c₀ ≡ more f (resumed (2 - tries) (limit - f) c)

pub begun : (limit : ℕ) (c : Counted) → Good c.state → c.loads ≡ 0 → c.copied ≡ 0 → Running limit c c (limit - limit)
begun limit c g z y = subst (λ (f : ℕ). Running limit c c f) e (record {
  few = omega arith;
  tries = 0;
  within = omega arith;
  loads = omega (arith, z);
  copied = omega (arith, z, y);
  enough = enough c.state g;
  good = g;
  size = record { shape = refl; main_long = refl; swap_long = refl };
  same = let k : limit - 0 ≡ limit = omega arith in resumed_run limit c ∙ rw k (simp zero-add);
})
  where
    e : 0 ≡ limit - limit
    e = omega arith

-- the limit is used up
pub run_out : (limit : ℕ) (c₀ c : Counted) (f : ℕ) → Running limit c₀ c f → limit ≤ f → ended Limit limit c ≡ run instruction limit c₀
unfolding resumed
run_out limit c₀ c f u h =
    let k : limit - f ≡ 0 = omega arith in
    let e : f + 0 ≡ limit = omega (arith, u.few) in
    sym (u.same ∙ ap (λ n. more f (resumed (2 - u.tries) n c)) k ∙ ap (λ n. ended Limit n c) e)

size_join : {p q r : State} → SameSize p q → SameSize q r → SameSize p r
size_join a b = record { shape = b.shape ∙ a.shape; main_long = b.main_long ∙ a.main_long; swap_long = b.swap_long ∙ a.swap_long }

module _ (limit : ℕ) (c₀ c : Counted) (f : ℕ) (u : Running limit c₀ c f) (h : f < limit) where
  after : {s : Step Counted} → attempts (2 - u.tries) c ≡ s → run instruction limit c₀ ≡ more f (follow s (λ next. run instruction (limit - (f + 1)) next))
  unfolding resumed
  after e =
      let k : limit - f ≡ suc (limit - (f + 1)) = omega arith in
      u.same ∙ ap (λ n. more f (resumed (2 - u.tries) n c)) k ∙ ap (λ z. more f (follow z (λ next. run instruction (limit - (f + 1)) next))) e

  -- ---- the next attempt finishes its instruction, and leaves d
  goes_on : (d : Counted) → attempts (2 - u.tries) c ≡ goes d → d.loads ≡ c.loads → d.copied ≡ c.copied → Running limit c₀ d (f + 1)
  unfolding follow
  goes_on d e x y =
      let t : Right c (goes d) = subst (Right c) e (attempts_right (2 - u.tries) c u.good u.enough) in
      record {
        few = omega arith;
        tries = 0;
        within = omega arith;
        loads = omega (arith, u.loads, u.within, x);
        copied = omega (arith, u.copied, x, y);
        enough = enough d.state t.good;
        good = t.good;
        size = size_join u.size t.size;
        same = after e ∙ ap (λ z. more f (more 1 z)) (resumed_run (limit - (f + 1)) d) ∙ simp add_assoc;
      }

  pub went_on : (q : Pcs) (g m : List ℕ) → tried (Done q) g m ≡ try c.state → Running limit c₀ (put c q g m) (f + 1)
  went_on q g m is =
      goes_on (put c q g m)
      (attempts_done (2 - u.tries) c q (ap (λ z. z.outcome) (sym is)) ∙ ap (λ (t : Tried). goes (put c q t.gpr t.bytes)) (sym is)) refl refl

  pub stored_on : (q : Pcs) (i : ℕ) (g m : List ℕ) → tried (Wrote q i) g m ≡ try c.state → Running limit c₀ (note i (put c q g m)) (f + 1)
  stored_on q i g m is =
      goes_on (note i (put c q g m))
      (attempts_wrote (2 - u.tries) c q i (ap (λ z. z.outcome) (sym is)) ∙ ap (λ (t : Tried). goes (note i (put c q t.gpr t.bytes))) (sym is)) refl refl

  -- ---- it comes to r, and has changed nothing
  module _ (r : Outcome) (is : tried r c.state.machine.gpr c.state.memory.main ≡ try c.state) where
    outcome_is : (try c.state).outcome ≡ r
    outcome_is = ap (λ z. z.outcome) (sym is)

    pub left_trapped : (q : Pcs) (n : ℕ) → r ≡ Trapped q n
        → ended (Trap n) (f + 1) (put c q c.state.machine.gpr c.state.memory.main) ≡ run instruction limit c₀
    unfolding follow
    left_trapped q n e =
        sym (after (attempts_trapped (2 - u.tries) c q n (outcome_is ∙ e) ∙ ap (λ (t : Tried). stops (Trap n) 1 (put c q t.gpr t.bytes)) (sym is)))

    pub left_stopped : (s : Stop) → r ≡ Stopped s → ended s f c ≡ run instruction limit c₀
    unfolding follow
    left_stopped s e = sym (after (attempts_stopped (2 - u.tries) c s (outcome_is ∙ e)) ∙ simp add-zero)

    module _ (va : ℕ) (e : r ≡ Missing va) where
      miss : (try c.state).outcome ≡ Missing va
      miss = outcome_is ∙ e

      few_tries : u.tries < 2
      unfolding Enough
      few_tries = pick (dec_lt u.tries 2)
        where
          pick : Dec (u.tries < 2) → u.tries < 2
          pick (yes q) = q
          pick (no q) = let z : 2 - u.tries ≡ 0 = omega (arith, q) in absurd (subst (λ n. Enough n c.state) z u.enough va miss)

      -- the test before a load does not end the run
      pub never : 2 * f + 2 ≤ c.loads → ⊥
      never q = omega (arith, q, u.loads, few_tries)

      pub in_table : (page_of va).0 < c.state.machine.shape.ptl
      in_table = (missing c.state va miss).0

      one_less : 2 - u.tries ≡ suc (2 - suc u.tries)
      one_less = omega (arith, few_tries)

      pub loaded_on : Running limit c₀ (served c (page_of va)) f
      unfolding Enough resumed
      loaded_on =
          let t : suc u.tries ≤ 2 = few_tries in
          let l : c.loads ≤ 2 * f + u.tries = u.loads in
          let k : limit - f ≡ suc (limit - (f + 1)) = omega arith in
          let a : attempts (2 - u.tries) c ≡ attempts (2 - suc u.tries) (served c (page_of va)) = ap (λ n. attempts n c) one_less ∙ attempts_missing (2 - suc u.tries) c va miss in
          record {
            few = u.few;
            tries = suc u.tries;
            within = t;
            loads = omega arith;
            copied = omega (arith, u.copied, bit_most (copies c.state.machine.shape.frames c.state.machine.book));
            enough = subst (λ n. Enough n c.state) one_less u.enough va miss;
            good = miss_good c.state u.good va miss;
            size = size_join u.size (load_size c.state u.good (page_of va) (missing c.state va miss).0 (missing c.state va miss).1);
            same = after a ∙ ap (λ n. more f (resumed (2 - suc u.tries) n (served c (page_of va)))) (sym k);
          }

module _ (limit : ℕ) (c₀ : Counted) (s : Shape) (b : FrameBook) (swap : List ℕ) (l k : ℕ) where
  abbrev at : Spot → Counted
  at a = counted s (remarked b a.marks) a.gpr a.pcs a.main swap l k

  -- ---- a leg of j instructions
  pub walked_on : (from : Spot) (f : ℕ) → Running limit c₀ (at from) f → (j : ℕ) (to : Spot) → Walk s from j to → f + j ≤ limit
      → Running limit c₀ (at to) (f + j)
  walked_on from f u j to start h = subst (λ (n : ℕ). Running limit c₀ (at from) n) (sym (add-zero f)) u
  walked_on from f u j to (step {n = n} {a = a} w q g m is) h =
      let v : Running limit c₀ (at a) (f + n) = walked_on from f u n a w (omega (arith, h)) in
      let e : f + n + 1 ≡ f + suc n = omega arith in
      subst (λ (k : ℕ). Running limit c₀ (at (spot g q m a.marks)) k) e (went_on limit c₀ (at a) (f + n) v (omega (arith, h)) q g m is)
  walked_on from f u j to (store {n = n} {a = a} w q i g m is) h =
      let v : Running limit c₀ (at a) (f + n) = walked_on from f u n a w (omega (arith, h)) in
      let e : f + n + 1 ≡ f + suc n = omega arith in
      subst (λ (k : ℕ). Running limit c₀ (note i (put (at a) q g m)) k) e (stored_on limit c₀ (at a) (f + n) v (omega (arith, h)) q i g m is)

-- ---- a leg leaves no more than it was given
pub left_few : (r : Leg) (limit left : ℕ) (s : Shape) (g₀ : List ℕ) (p₀ : Pcs) (m₀ g m : List ℕ) → ((marks : ℕ) → Walked s (spot g₀ p₀ m₀ marks) left r g m)
    → left ≤ limit → r.left ≤ limit
left_few r limit left s g₀ p₀ m₀ g m w few = omega (arith, few, (w 0).few)

-- ---- as the code has it: a leg r of at most `left` instructions, which leaves the registers g, main memory m and these marks
module _ (limit : ℕ) (c₀ : Counted) (s : Shape) (b : FrameBook) (swap : List ℕ) (l k : ℕ) (g₀ : List ℕ) (p₀ : Pcs) (m₀ : List ℕ) (left : ℕ) (few : left ≤ limit)
    (u : Running limit c₀ (counted s b g₀ p₀ m₀ swap l k) (limit - left)) (r : Leg) (g m : List ℕ) (w : (marks : ℕ) → Walked s (spot g₀ p₀ m₀ marks) left r g m)
    (marks : ℕ) (is-marks : marks ≡ marks_after s b.marks r.stored) where
  abbrev book : FrameBook
  book = remarked b marks

  abbrev here : Counted
  here = counted s book g r.pcs m swap l k

  pub leg_few : r.left ≤ limit
  leg_few = omega (arith, few, (w b.marks).few)

  pub leg_on : Running limit c₀ here (limit - r.left)
  leg_on =
      let e : limit - left + (left - r.left) ≡ limit - r.left = omega (arith, few, (w b.marks).few) in
      rw (is-marks, ← e)
      (walked_on limit c₀ s b swap l k (spot g₀ p₀ m₀ b.marks) (limit - left) u (left - r.left)
      _ (w b.marks).way (omega (arith, few, (w b.marks).few)))

  -- the attempt that ended it
  module _ (o : Outcome) (is-o : r.outcome ≡ o) (unfinished : ¬ Finished o) where
    last : (0 < r.left) × (tried r.outcome g m ≡ try here.state)
    last = (w b.marks).ending (rw is-o unfinished)

    short : limit - r.left < limit
    short = omega (arith, last.0, leg_few)

  pub leg_trapped : (q : Pcs) (n : ℕ) → r.outcome ≡ Trapped q n → (z : Ended)
      → z ≡ record { stop = Trap n; finished = limit - r.left + 1; loads = l; copied = k; book = book; pcs = q } → course s z g m swap ≡ run instruction limit c₀
  leg_trapped q n e z is =
      rw is (left_trapped limit c₀ here (limit - r.left) leg_on (short _ e (λ z. z)) r.outcome (last _ e (λ z. z)).1 q n e)

  pub leg_stopped : (j : Stop) → r.outcome ≡ Stopped j → (z : Ended)
      → z ≡ record { stop = j; finished = limit - r.left; loads = l; copied = k; book = book; pcs = r.pcs } → course s z g m swap ≡ run instruction limit c₀
  leg_stopped j e z is =
      rw is (left_stopped limit c₀ here (limit - r.left) leg_on (short _ e (λ z. z)) r.outcome (last _ e (λ z. z)).1 j e)

  module _ (va : ℕ) (e : r.outcome ≡ Missing va) where
    pub leg_never : 2 * (limit - r.left) + 2 ≤ l → ⊥
    leg_never = never limit c₀ here (limit - r.left) leg_on (short _ e (λ z. z)) r.outcome (last _ e (λ z. z)).1 va e

    -- the frame that a load takes
    pub leg_frame : frame s.frames book < 32
    leg_frame = omega (arith, frame_most _ _ leg_on.good.hand, leg_on.good.fit.frames_most)

    -- the page y is loaded
    module _ (y : VirtualPage) (is-page : y ≡ page_of va) where
      pub leg_ready : Ready s book (length m) (length swap) y
      leg_ready = record {
        fit = leg_on.good.fit;
        whole = leg_on.good.whole;
        taken = frame_most _ _ leg_on.good.hand;
        leaves = λ full. leg_on.good.seated.in_table _ (frame_used _ _ leg_on.good.hand full);
        comes = rw is-page (in_table limit c₀ here (limit - r.left) leg_on (short _ e (λ z. z)) r.outcome (last _ e (λ z. z)).1 va e);
      }

      pub leg_again : (b' : FrameBook) (main' swap' : List ℕ) → record { book = b'; memory = memory main' swap' } ≡ after_load s book (memory m swap) y
          → (dpc next : ℕ) → dpc ≡ r.pcs.dpc → next ≡ r.pcs.next → (l' : ℕ) → l' ≡ l + 1
          → (x : Bool) → x ≡ copies s.frames book → (k' : ℕ) → k' ≡ k + bool_byte x
          → Running limit c₀ (counted s b' g (record { dpc = dpc; next = next }) main' swap' l' k') (limit - r.left)
      unfolding load
      leg_again b' main' swap' q dpc next d e' l' one x is-copied k' more =
          let j : Stepped = record { book = b'; memory = memory main' swap' } in
          let q' : j ≡ after_load s book (memory m swap) (page_of va) = q ∙ ap (λ x. after_load s book (memory m swap) x) is-page in
          let n : counted s b' g (record { dpc = dpc; next = next }) main' swap' l' k' ≡ served here (page_of va) =
          ap₂ (λ d n. counted s b' g (record { dpc = d; next = n }) main' swap' l' k') d e'
          ∙ ap₂ (λ n z. counted s b' g r.pcs main' swap' n z) (one ∙ add-one l) (more ∙ ap (λ (n : ℕ). k + n) (byte_bit x ∙ ap bit is-copied))
          ∙ ap (λ (z : Stepped). counted s z.book g r.pcs z.memory.main z.memory.swap (suc l) (k + bit (copies s.frames book))) q' in
          rw n (loaded_on limit c₀ here (limit - r.left) leg_on (short _ e (λ z. z)) r.outcome (last _ e (λ z. z)).1 va e)
