-- One load of the handler, of a page that is in swap: the book and the table stay in step, the page is valid afterwards and its frame
-- has no mark, only the victim goes, bits 11–1 of every entry stay, and no flat byte, no right and no register changes.
use mathlib.Core.Path.{◌≡◌, sym, ap, ap₂, subst⁻¹, ◌∙◌}
use mathlib.Core.Bool.{true, false, true≢false}
use Prim.Native.Nat.{ℕ, ◌+◌, ◌*◌, ◌<◌, ◌≤◌}
use native.Mathlib.Omega.{arith}
use native.Mathlib.Decide.{dec_lt, ℕ_discrete}
use lib.ListN.{length}
use Rattle.model.specs.Pages.{page_of, virtual, frame_at}
use Rattle.model.specs.Table.{entry, ppx, valid, kept}
use Rattle.model.specs.Frames.{page_in, marked, frame, advanced}
use Rattle.model.specs.State.{Memory, State}
use Rattle.model.specs.Translate.{flat_byte}
use Rattle.model.specs.Handler.{loaded, load}
use Rattle.model.specs.Flat.{Flat, flat}
use Rattle.model.specs.declared.Shape.{Shape}
use Rattle.model.specs.declared.FrameBook.{FrameBook}
use Rattle.model.specs.declared.VirtualPage.{VirtualPage}
use Rattle.laws.specs.Good.{Fit, SwapLong, Hand, Seated, Clean, Good}
use Rattle.laws.specs.Entries.{Place, SameKept}
use Rattle.laws.proofs.Choice.{below_same}
use Rattle.laws.proofs.Entries.{ppx_brought, ppx_out, valid_brought, valid_out, kept_brought, kept_out, same_rights}
use Rattle.laws.proofs.Moves.{page_discrete}
use Rattle.laws.proofs.Seats.{Seats, frame_free, frame_most, frame_used, seats}
use Rattle.laws.proofs.Handler.{Loads, strange, moved}
use Rattle.laws.proofs.Cleaned.{cleared, others, cleaned}
-- the two cases of the definitions
pub use Rattle.laws.proofs.Seats.{advanced_free, advanced_full}
pub use Rattle.laws.proofs.Handler.{loaded_free, loaded_full}

-- ---- one load: page y is in the table and not valid
pub record PageLoaded (s : Shape) (b : FrameBook) (m : Memory) (y : VirtualPage) : Type 0 where
  pub main_long : length (loaded s b m y).main ≡ length m.main
  pub swap_long : length (loaded s b m y).swap ≡ length m.swap
  pub seated : Seated s (advanced s.frames b y) (loaded s b m y).main
  pub hand : Hand s.frames (advanced s.frames b y)
  pub clean : Clean s (advanced s.frames b y) (loaded s b m y)
  pub cleared : marked (advanced s.frames b y).marks (frame s.frames b) ≡ false
  pub others : (i : ℕ) → (i ≡ frame s.frames b → ⊥) → marked (advanced s.frames b y).marks i ≡ marked b.marks i
  pub stays : (z : VirtualPage) → z.0 < s.ptl → (z ≡ y → ⊥) → (s.frames ≤ b.used → z ≡ page_in b (frame s.frames b) → ⊥)
      → entry s (loaded s b m y).main z ≡ entry s m.main z
  pub came : Place (s.abase + frame s.frames b) true (entry s (loaded s b m y).main y)
  pub left : s.frames ≤ b.used → Place 0 false (entry s (loaded s b m y).main (page_in b (frame s.frames b)))
  pub bytes : (va : ℕ) → (page_of va).0 < s.ptl → flat_byte s (loaded s b m y) va ≡ flat_byte s m va
  pub bits : (z : VirtualPage) → z.0 < s.ptl → kept (entry s (loaded s b m y).main z) ≡ kept (entry s m.main z)
  pub put : page_in (advanced s.frames b y) (frame s.frames b) ≡ y
  pub in_use : frame s.frames b < (advanced s.frames b y).used
  -- "the page loaded last is never the victim"
  pub moves : frame s.frames (advanced s.frames b y) ≡ frame s.frames b → ⊥

module _ (s : Shape) (b : FrameBook) (m : Memory) (h : Fit s (length m.main)) (w : SwapLong s (length m.swap)) (g : Seated s b m.main) (hand : Hand s.frames b)
    (y : VirtualPage) (hy : y.0 < s.ptl) (hv : valid (entry s m.main y) ≡ false) where
  nowhere : (i : ℕ) → i < b.used → y ≡ page_in b i → ⊥
  nowhere = strange s b m h w g y hy hv

  -- ---- the book and the table afterwards
  module _ (b' : FrameBook) (m' : Memory) (f : ℕ) (hf : f < s.frames) (fresh : b.used < s.frames → f ≡ b.used) (l : Loads s b m y m' f)
      (t : Seats s.frames b y b' f) where
    -- the entry of a page that stays
    still : (i : ℕ) → i < b.used → (i ≡ f → ⊥) → entry s m'.main (page_in b i) ≡ entry s m.main (page_in b i)
    still i q n =
        l.stays (page_in b i) (g.in_table i q) (λ e. nowhere i q (sym e))
        (λ r e. n (g.differ i f q (omega (arith, r, hf)) e))

    valid_new : valid (entry s m'.main y) ≡ true
    valid_new = ap valid l.new ∙ valid_brought (frame_at s f) (entry s m.main y)

    named_new : (ppx (entry s m'.main y)).0 ≡ s.abase + f
    named_new =
        ap (λ (k : ℕ). (ppx k).0) l.new
        ∙ ppx_brought (frame_at s f) (entry s m.main y) (omega (arith, h.frames_in, h.pages_most, t.in_use, t.booked.used_most))

    valid_gone : s.frames ≤ b.used → valid (entry s m'.main (page_in b f)) ≡ false
    valid_gone r = ap valid (l.gone r) ∙ valid_out (entry s m.main (page_in b f))

    -- by cases: the frame, or another
    at_frame : (P : ℕ → VirtualPage → Type 0) → P f y → ((i : ℕ) → i < b.used → (i ≡ f → ⊥) → P i (page_in b i))
        → (i : ℕ) → i < b'.used → P i (page_in b' i)
    at_frame P pf pi i q = pick (ℕ_discrete i f)
      where
        pick : Dec (i ≡ f) → P i (page_in b' i)
        pick (yes e) = subst⁻¹ (λ (z : ℕ). P z (page_in b' z)) e (subst⁻¹ (P f) t.put pf)
        pick (no n) = subst⁻¹ (P i) (t.stay i n) (pi i (t.before i q n) n)

    only' : (x : VirtualPage) → x.0 < s.ptl → valid (entry s m'.main x) ≡ true → (i : ℕ) × (i < b'.used) × (page_in b' i ≡ x)
    only' x hx v = pick (page_discrete x y)
      where
        victim : s.frames ≤ b.used → x ≡ page_in b f → ⊥
        victim r e = true≢false (sym v ∙ ap (λ z. valid (entry s m'.main z)) e ∙ valid_gone r)

        elsewhere : (u : (i : ℕ) × (i < b.used) × (page_in b i ≡ x)) → Dec (b.used < s.frames) → u.0 ≡ f → ⊥
        elsewhere u (yes r) e = omega (arith, e, fresh r, u.1)
        elsewhere u (no r) e = victim (omega (arith, r)) (sym u.2 ∙ ap (page_in b) e)

        pick : Dec (x ≡ y) → (i : ℕ) × (i < b'.used) × (page_in b' i ≡ x)
        pick (yes e) = (f, t.in_use, t.put ∙ sym e)
        pick (no n) =
            let u : (i : ℕ) × (i < b.used) × (page_in b i ≡ x) = g.only x hx (ap valid (sym (l.stays x hx n victim)) ∙ v) in
            (u.0, omega (arith, u.1, t.grown_by), t.stay u.0 (elsewhere u (dec_lt b.used s.frames)) ∙ u.2)

    differ' : (i j : ℕ) → i < b'.used → j < b'.used → page_in b' i ≡ page_in b' j → i ≡ j
    differ' i j q r e = pick (ℕ_discrete i f) (ℕ_discrete j f)
      where
        pick : Dec (i ≡ f) → Dec (j ≡ f) → i ≡ j
        pick (yes a) (yes c) = a ∙ sym c
        pick (yes a) (no c) = absurd (nowhere j (t.before j r c) (sym (ap (page_in b') a ∙ t.put) ∙ e ∙ t.stay j c))
        pick (no a) (yes c) = absurd (nowhere i (t.before i q a) (sym (ap (page_in b') c ∙ t.put) ∙ sym e ∙ t.stay i a))
        pick (no a) (no c) = g.differ i j (t.before i q a) (t.before j r c) (sym (t.stay i a) ∙ e ∙ t.stay j c)

    seated' : Seated s b' m'.main
    seated' = record {
      booked = t.booked;
      in_table = at_frame (λ i z. z.0 < s.ptl) hy (λ i q n. g.in_table i q);
      differ = differ';
      rest = λ i q r. t.stay i (λ e. omega (arith, e, t.in_use, q)) ∙ g.rest i (omega (arith, t.grown_by, q)) r;
      here = at_frame (λ i z. valid (entry s m'.main z) ≡ true) valid_new (λ i q n. ap valid (still i q n) ∙ g.here i q);
      frame_of = at_frame (λ i z. (ppx (entry s m'.main z)).0 ≡ s.abase + i)
          named_new (λ i q n. ap (λ (k : ℕ). (ppx k).0) (still i q n) ∙ g.frame_of i q);
      only = only';
    }

    -- it "changes only ppx and v" in both entries
    bits' : (z : VirtualPage) → z.0 < s.ptl → kept (entry s m'.main z) ≡ kept (entry s m.main z)
    bits' z hz = pick (page_discrete z y) (page_discrete z (page_in b f)) (dec_lt b.used s.frames)
      where
        pick : Dec (z ≡ y) → Dec (z ≡ page_in b f) → Dec (b.used < s.frames)
            → kept (entry s m'.main z) ≡ kept (entry s m.main z)
        pick (yes e) d c =
            ap (λ x. kept (entry s m'.main x)) e ∙ ap kept l.new ∙ kept_brought (frame_at s f) (entry s m.main y)
            ∙ ap (λ x. kept (entry s m.main x)) (sym e)
        pick (no n) (yes e) (no c) =
            ap (λ x. kept (entry s m'.main x)) e ∙ ap kept (l.gone (omega (arith, c))) ∙ kept_out (entry s m.main (page_in b f))
            ∙ ap (λ x. kept (entry s m.main x)) (sym e)
        pick (no n) (yes e) (yes c) = ap kept (l.stays z hz n (λ q r. omega (arith, c, q)))
        pick (no n) (no d) c = ap kept (l.stays z hz n (λ q r. d r))

  pub loads : Clean s b m → PageLoaded s b m y
  loads clean = record {
    main_long = l.main_long;
    swap_long = l.swap_long;
    seated = seated' b' m' f hf fresh l t;
    hand = t.hand;
    clean = cleaned s b m y b' m' f t g hf l clean;
    cleared = cleared s b m y b' m' f t;
    others = others s b m y b' m' f t;
    stays = l.stays;
    came = record { names = named_new b' m' f hf fresh l t; there = valid_new b' m' f hf fresh l t };
    left = λ r. record {
      names = ap (λ (k : ℕ). (ppx k).0) (l.gone r) ∙ ppx_out (entry s m.main (page_in b f));
      there = valid_gone b' m' f hf fresh l t r;
    };
    bytes = l.bytes;
    bits = bits' b' m' f hf fresh l t;
    put = t.put;
    in_use = t.in_use;
    moves = t.moves;
  }
    where
      b' : FrameBook
      b' = advanced s.frames b y

      m' : Memory
      m' = loaded s b m y

      f : ℕ
      f = frame s.frames b

      hf : f < s.frames
      hf = frame_most s.frames b hand

      fresh : b.used < s.frames → f ≡ b.used
      fresh = frame_free s.frames b

      l : Loads s b m y m' f
      l = moved s b m h w g y hy hv hf clean

      t : Seats s.frames b y b' f
      t = seats s.frames h.frames_least h.frames_most b y g.booked hand

-- ---- a whole state
module _ (p : State) (g : Good p) (y : VirtualPage) (hy : y.0 < p.machine.shape.ptl) (hv : valid (entry p.machine.shape p.memory.main y) ≡ false) where
  one_load : PageLoaded p.machine.shape p.machine.book p.memory y
  one_load = loads p.machine.shape p.machine.book p.memory g.fit g.whole g.seated g.hand y hy hv g.clean

  -- "y's entry gets ppx abase+f and v 1", and the victim's "ppx 0 and v 0"
  pub load_came : Place (p.machine.shape.abase + frame p.machine.shape.frames p.machine.book) true
      (entry p.machine.shape (load p y).memory.main y)
  unfolding load
  load_came = one_load.came

  pub load_left : p.machine.shape.frames ≤ p.machine.book.used
      → Place 0 false (entry p.machine.shape (load p y).memory.main (page_in p.machine.book (frame p.machine.shape.frames p.machine.book)))
  unfolding load
  load_left = one_load.left

  -- the mark is "cleared by a load", and no other
  pub load_cleared : marked (load p y).machine.book.marks (frame p.machine.shape.frames p.machine.book) ≡ false
  unfolding load
  load_cleared = one_load.cleared

  pub load_others : (f : ℕ) → (f ≡ frame p.machine.shape.frames p.machine.book → ⊥)
      → marked (load p y).machine.book.marks f ≡ marked p.machine.book.marks f
  unfolding load
  load_others = one_load.others

  -- "the page loaded last is never the victim"
  pub load_remains : p.machine.shape.frames ≤ (load p y).machine.book.used
      → y ≡ page_in (load p y).machine.book (frame p.machine.shape.frames (load p y).machine.book) → ⊥
  unfolding load
  load_remains full q =
      one_load.moves (one_load.seated.differ _ _ (frame_used p.machine.shape.frames _ one_load.hand full) one_load.in_use (sym q ∙ sym one_load.put))

  pub load_good : Good (load p y)
  unfolding load
  load_good = record {
    fit = subst⁻¹ (λ (n : ℕ). Fit p.machine.shape n) one_load.main_long g.fit;
    whole = one_load.swap_long ∙ g.whole;
    seated = one_load.seated;
    hand = one_load.hand;
    clean = one_load.clean;
    zero = g.zero;
  }

  -- "changes only ppx and v": bits 11–1 of every entry stay
  pub load_kept : SameKept p (load p y)
  unfolding load
  load_kept = one_load.bits

  pub load_flat : flat (load p y) ≡ flat p
  unfolding load flat
  load_flat =
      ap₂ {C = Flat} (λ bytes rights. record { gpr = p.machine.gpr; pcs = p.machine.pcs; bytes = bytes; rights = rights })
      (below_same (4096 * p.machine.shape.ptl) _ _ (λ va q. one_load.bytes va (omega (arith, q))))
      (below_same p.machine.shape.ptl _ _ (λ x q. same_rights _ _ (one_load.bits (virtual x) q)))
