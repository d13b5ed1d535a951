-- The frame book after a load, apart from memory: which frame took the page, what stays, the marks, and "the page loaded last is never the victim".
-- Only this file looks at hand, and the ring of bound, by `frame_full`: what others need of the next victim is `frame_most`, `frame_used`
-- and `seats`.
use mathlib.Core.Path.{◌≡◌, refl, sym, ap, ◌∙◌}
use Prim.Native.Nat.{ℕ, ◌+◌, ◌%◌, ◌<◌, ◌≤◌}
use native.Mathlib.Omega.{arith}
use native.Mathlib.Nat.{mod-lt, mod-eq_of_lt, mod_self}
use native.Mathlib.Decide.{dec_lt}
use borrow.Author.Tests.{lt-ltb, le-ltb}
use lib.ListN.{length, length-set}
use lib.Seq.{get_or-set_same, get_or-set_other}
use Rattle.model.specs.Pages.{virtual}
use Rattle.model.specs.Frames.{page_in, without_mark, frame, seat, grown, turned, advanced}
use Rattle.model.specs.declared.FrameBook.{FrameBook}
use Rattle.model.specs.declared.VirtualPage.{VirtualPage}
use Rattle.laws.specs.Good.{Booked, Hand}

-- ---- the two cases: a frame is free, or none is
pub frame_free : (a : ℕ) (b : FrameBook) → b.used < a → frame a b ≡ b.used
frame_free a b q = rw (lt-ltb _ _ q)

pub frame_full : (a : ℕ) (b : FrameBook) → a ≤ b.used → frame a b ≡ b.hand
frame_full a b q = rw (le-ltb _ _ q)

pub advanced_free : (a : ℕ) (b : FrameBook) (y : VirtualPage) → b.used < a → advanced a b y ≡ grown (seat b (frame a b) y)
unfolding advanced
advanced_free a b y q = rw (advanced, lt-ltb _ _ q)

pub advanced_full : (a : ℕ) (b : FrameBook) (y : VirtualPage) → a ≤ b.used → advanced a b y ≡ turned a (frame a b) (seat b (frame a b) y)
unfolding advanced
advanced_full a b y q = rw (advanced, le-ltb _ _ q)

-- ---- the frame that the next load takes
pub frame_most : (a : ℕ) (b : FrameBook) → Hand a b → frame a b < a
frame_most a b h = pick (dec_lt b.used a)
  where
    pick : Dec (b.used < a) → frame a b < a
    pick (yes q) = rw (frame_free a b q) q
    pick (no n) = rw (frame_full a b (omega (arith, n))) h.most

-- where none is free it is in use
pub frame_used : (a : ℕ) (b : FrameBook) → Hand a b → a ≤ b.used → frame a b < b.used
frame_used a b h q = omega (arith, q, frame_most a b h)

-- book b' is book b with page y in frame f, and the next load takes another
pub record Seats (a : ℕ) (b : FrameBook) (y : VirtualPage) (b' : FrameBook) (f : ℕ) : Type 0 where
  pub booked : Booked a b'
  pub hand : Hand a b'
  pub put : page_in b' f ≡ y
  pub stay : (i : ℕ) → (i ≡ f → ⊥) → page_in b' i ≡ page_in b i
  pub in_use : f < b'.used
  pub grown_by : b.used ≤ b'.used
  pub before : (i : ℕ) → i < b'.used → (i ≡ f → ⊥) → i < b.used
  pub marks : b'.marks ≡ without_mark b.marks f
  pub moves : frame a b' ≡ f → ⊥

module _ (a : ℕ) (two : 2 ≤ a) (most : a ≤ 32) (b : FrameBook) (y : VirtualPage) (g : Booked a b) (h : Hand a b) where
  -- B with y in the frame, whatever the numbers beside it become
  array' : length (seat b (frame a b) y).held ≡ 32
  array' = length-set b.held (frame a b) y ∙ g.array

  put' : page_in (seat b (frame a b) y) (frame a b) ≡ y
  put' = get_or-set_same b.held (frame a b) y (virtual 0) (omega (arith, frame_most a b h, most, g.array))

  stay' : (i : ℕ) → (i ≡ frame a b → ⊥) → page_in (seat b (frame a b) y) i ≡ page_in b i
  stay' i n = get_or-set_other b.held (frame a b) i y (virtual 0) n

  seats_free : b.used < a → Seats a b y (grown (seat b (frame a b) y)) (frame a b)
  seats_free q = record {
    booked = record { array = array'; used_most = omega (arith, q) };
    hand = record { still = λ r. h.still q; most = h.most };
    put = put';
    stay = stay';
    in_use = omega (arith, frame_free a b q);
    grown_by = omega arith;
    before = λ i r n. omega (arith, r, n, frame_free a b q);
    marks = refl;
    moves = λ e. moves (dec_lt (b.used + 1) a) (e ∙ frame_free a b q);
  }
    where
      moves : Dec (b.used + 1 < a) → frame a (grown (seat b (frame a b) y)) ≡ b.used → ⊥
      moves (yes r) e = omega (arith, sym (frame_free a (grown (seat b (frame a b) y)) r) ∙ e)
      moves (no r) e =
          let z : b.hand ≡ b.used = sym (frame_full a (grown (seat b (frame a b) y)) (omega (arith, r))) ∙ e in
          omega (arith, z, h.still q, two, r)

  seats_full : a ≤ b.used → Seats a b y (turned a (frame a b) (seat b (frame a b) y)) (frame a b)
  seats_full q = record {
    booked = record { array = array'; used_most = g.used_most };
    hand = record { still = λ r. absurd (omega (arith, q, r)); most = mod-lt (frame a b + 1) (omega (arith, two)) };
    put = put';
    stay = stay';
    in_use = frame_used a b h q;
    grown_by = omega arith;
    before = λ i r n. r;
    marks = refl;
    moves = λ e. moves (dec_lt (frame a b + 1) a) (sym (frame_full a (turned a (frame a b) (seat b (frame a b) y)) q) ∙ e);
  }
    where
      moves : Dec (frame a b + 1 < a) → (frame a b + 1) % a ≡ frame a b → ⊥
      moves (yes r) e = omega (arith, sym (mod-eq_of_lt r) ∙ e)
      moves (no r) e =
          let z : frame a b + 1 ≡ a = omega (arith, r, frame_most a b h) in
          omega (arith, sym (mod_self a) ∙ ap (λ (k : ℕ). k % a) (sym z) ∙ e, z, two)

  pub seats : Seats a b y (advanced a b y) (frame a b)
  seats = pick (dec_lt b.used a)
    where
      pick : Dec (b.used < a) → Seats a b y (advanced a b y) (frame a b)
      pick (yes q) = rw (advanced_free a b y q) (seats_free q)
      pick (no n) =
          let q : a ≤ b.used = omega (arith, n) in
          rw (advanced_full a b y q) (seats_full q)
