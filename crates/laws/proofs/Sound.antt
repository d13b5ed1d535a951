-- The tests `fits` and `sound` pass exactly where a machine is `Good`: what one call accepts is good, and what a call keeps good the
-- next one does not refuse.
use mathlib.Core.Path.{◌≡◌, refl, sym, ap, ◌∙◌}
use mathlib.Core.Bool.{Bool, true, false, ◌||◌, not, false≢true, true≢false}
use mathlib.Core.List.{List}
use Prim.Native.Nat.{ℕ, zero, suc, ◌+◌, ◌*◌, ◌<◌, ◌≤◌}
use native.Mathlib.Omega.{arith}
use native.Mathlib.Nat.{not-suc-le-zero}
use native.Mathlib.Decide.{dec_lt, ℕ_discrete}
use lib.Dec.{eqb, ltb}
use lib.ListN.{length, get_or}
use borrow.Author.Tests.{leb-true, ltb-true, eqb-true, le-leb, lt-ltb, le-ltb, eq-eqb, ne_eqb, not-true}
use Rattle.model.specs.Choice.{passes}
use Rattle.model.specs.Bytes.{same}
use Rattle.model.specs.Pages.{virtual, swap_of, swap_page}
use Rattle.model.specs.Table.{entry, valid}
use Rattle.model.specs.Frames.{page_in, marked, among, resident}
use Rattle.model.specs.Sound.{shape_tests, fits, zero_from, entry_right, hand_right, clean, book_tests, sound}
use Rattle.model.specs.State.{Memory, State}
use Rattle.model.specs.declared.Shape.{Shape}
use Rattle.model.specs.declared.FrameBook.{FrameBook}
use Rattle.model.specs.declared.VirtualPage.{VirtualPage}
use Rattle.laws.specs.Good.{Fit, SwapLong, Hand, Seated, Clean, Good}
use Rattle.laws.proofs.Choice.{and_left, and_right, and_both, or_left, or_right, or_second, every_at, every_from, pass, pass_none, pass_more}
use Rattle.laws.proofs.Bytes.{same_equal, equal_same}
use Rattle.laws.proofs.Seated.{same_page_lem}

-- ---- a page is found among frames exactly where one of them holds it
pub found : (b : FrameBook) (n : ℕ) (y : VirtualPage) → among b n y ≡ true → (i : ℕ) × (i < n) × (page_in b i ≡ y)
unfolding among
found b zero y e = absurd (false≢true e)
found b (suc n) y e = pick (eqb (page_in b n).0 y.0) refl e (found b n y)
  where
    pick : (c : Bool) → eqb (page_in b n).0 y.0 ≡ c → (c || among b n y) ≡ true
        → (among b n y ≡ true → (i : ℕ) × (i < n) × (page_in b i ≡ y)) → (i : ℕ) × (i < suc n) × (page_in b i ≡ y)
    pick true q r ih = (n, omega arith, same_page_lem (eqb-true _ _ q))
    pick false q r ih = let t : (i : ℕ) × (i < n) × (page_in b i ≡ y) = ih r in (t.0, omega (arith, t.1), t.2)

pub found_back : (b : FrameBook) (n : ℕ) (y : VirtualPage) (i : ℕ) → i < n → page_in b i ≡ y → among b n y ≡ true
unfolding among
found_back b zero y i q e = absurd (not-suc-le-zero q)
found_back b (suc n) y i q e = pick (ℕ_discrete i n) (λ r. found_back b n y i r e)
  where
    pick : Dec (i ≡ n) → (i < n → among b n y ≡ true) → (eqb (page_in b n).0 y.0 || among b n y) ≡ true
    pick (yes d) ih = or_left _ _ (eq-eqb _ _ (ap (λ (x : VirtualPage). x.0) (ap (page_in b) (sym d) ∙ e)))
    pick (no d) ih = or_right (eqb (page_in b n).0 y.0) _ (ih (omega (arith, d)))

-- ---- the shape
pub fit_of : (s : Shape) (m : Memory) → fits s m ≡ true → Fit s (length m.main) × SwapLong s (length m.swap)
unfolding fits
fit_of s m e = (
  record {
    pages_least = leb-true _ _ (t 0);
    pages_most = leb-true _ _ (t 1);
    frames_least = leb-true _ _ (t 2);
    frames_most = leb-true _ _ (t 3);
    abase_least = leb-true _ _ (t 4);
    frames_in = leb-true _ _ (t 5);
    ptl_least = leb-true _ _ (t 6);
    ptl_most = leb-true _ _ (t 7);
    pto_aligned = eqb-true _ _ (t 8);
    table_in = omega (arith, leb-true (s.pto + 4 * s.ptl) (4096 * s.abase) (t 9));
    sbase_most = leb-true _ _ (t 10);
    main_long = eqb-true _ _ (t 11);
  },
  eqb-true _ _ (t 12),
)
  where
    t : (i : ℕ) → get_or (shape_tests s m) i true ≡ true
    t = pass (shape_tests s m) e

pub fits_of : (s : Shape) (m : Memory) → Fit s (length m.main) → SwapLong s (length m.swap) → fits s m ≡ true
unfolding fits
fits_of s m f w =
    pass_more _ _ (le-leb _ _ f.pages_least) (pass_more _ _ (le-leb _ _ f.pages_most)
    (pass_more _ _ (le-leb _ _ f.frames_least) (pass_more _ _ (le-leb _ _ f.frames_most)
    (pass_more _ _ (le-leb _ _ f.abase_least) (pass_more _ _ (le-leb _ _ f.frames_in)
    (pass_more _ _ (le-leb _ _ f.ptl_least) (pass_more _ _ (le-leb _ _ f.ptl_most)
    (pass_more _ _ (eq-eqb _ _ f.pto_aligned) (pass_more _ _ (le-leb (s.pto + 4 * s.ptl) (4096 * s.abase) (omega (arith, f.table_in)))
    (pass_more _ _ (le-leb _ _ f.sbase_most)
    (pass_more _ _ (eq-eqb _ _ f.main_long) (pass_more _ _ (eq-eqb _ _ w) pass_none))))))))))))

-- ---- a page is resident exactly where its entry is valid
pub resident_valid : (s : Shape) (b : FrameBook) (main : List ℕ) → Seated s b main → (x : VirtualPage) → x.0 < s.ptl
    → resident b x ≡ valid (entry s main x)
unfolding resident
resident_valid s b main g x q = pick (valid (entry s main x)) refl (among b b.used x) refl
  where
    pick : (c : Bool) → valid (entry s main x) ≡ c → (d : Bool) → among b b.used x ≡ d → among b b.used x ≡ valid (entry s main x)
    pick true v d r = let t : (i : ℕ) × (i < b.used) × (page_in b i ≡ x) = g.only x q v in found_back b b.used x t.0 t.1 t.2 ∙ sym v
    pick false v true r =
        let t : (i : ℕ) × (i < b.used) × (page_in b i ≡ x) = found b b.used x r in
        r ∙ sym (g.here t.0 t.1) ∙ ap (λ z. valid (entry s main z)) t.2
    pick false v false r = r ∙ sym v

-- ---- the book, the table and the pages
module _ (s : Shape) (b : FrameBook) (m : Memory) where
  module _ (e : passes (book_tests s b m) ≡ true) where
    t : (i : ℕ) → get_or (book_tests s b m) i true ≡ true
    t = pass (book_tests s b m) e

    seated_of : length b.held ≡ 32 → Seated s b m.main
    unfolding resident
    seated_of len = record {
      booked = record { array = len; used_most = leb-true _ _ (t 0) };
      in_table = λ i q. ltb-true _ _ (every_at b.used _ (t 1) i q);
      differ = differ;
      rest = λ i q r. same_page_lem (eqb-true _ _ (or_second _ _ (every_at 32 _ (t 3) i r) (le-ltb _ _ q)));
      here = λ i q. and_left _ _ (every_at b.used _ (t 4) i q);
      frame_of = λ i q. eqb-true _ _ (and_right (valid (entry s m.main (page_in b i))) _ (every_at b.used _ (t 4) i q));
      only = λ x q v. found b b.used x (or_second _ _ (every_at s.ptl _ (t 5) x.0 q) (ap not v));
    }
      where
        differs : (i j : ℕ) → i < j → j < b.used → page_in b i ≡ page_in b j → ⊥
        differs i j q r d =
            true≢false (sym (eq-eqb _ _ (ap (λ (x : VirtualPage). x.0) d)) ∙ not-true _ (every_at j _ (every_at b.used _ (t 2) j r) i q))

        differ : (i j : ℕ) → i < b.used → j < b.used → page_in b i ≡ page_in b j → i ≡ j
        differ i j q r d = pick (dec_lt i j) (dec_lt j i)
          where
            pick : Dec (i < j) → Dec (j < i) → i ≡ j
            pick (yes a) c = absurd (differs i j a r d)
            pick (no a) (yes c) = absurd (differs j i c q (sym d))
            pick (no a) (no c) = omega (arith, a, c)

    hand_of : 2 ≤ s.frames → Hand s.frames b
    hand_of two = record {
      still = λ q. eqb-true _ _ (rw (lt-ltb b.used s.frames q) at (t 6));
      most = most (dec_lt b.used s.frames);
    }
      where
        most : Dec (b.used < s.frames) → b.hand < s.frames
        most (yes q) = omega (arith, eqb-true b.hand 0 (rw (lt-ltb b.used s.frames q) at (t 6)))
        most (no q) = ltb-true _ _ (rw (le-ltb b.used s.frames (omega (arith, q))) at (t 6))

    clean_of : Clean s b m
    clean_of = record {
      equal = λ i q u. same_equal _ _ (or_second _ _ (every_at b.used _ (t 8) i q) u);
      unused = ltb-true _ _ (t 7);
    }

  tests_of : Seated s b m.main → Hand s.frames b → Clean s b m → passes (book_tests s b m) ≡ true
  tests_of g h c =
      pass_more _ _ (le-leb _ _ g.booked.used_most)
      (pass_more _ _ (every_from b.used _ (λ i q. lt-ltb _ _ (g.in_table i q)))
      (pass_more _ _ (every_from b.used _ (λ j r. every_from j _ (λ i q. ap not (ne_eqb _ _ (λ d. differs i j q r (same_page_lem d))))))
      (pass_more _ _ (every_from 32 _ (λ i q. rest i q (dec_lt i b.used)))
      (pass_more _ _ (every_from b.used _ (λ i q. and_both _ _ (g.here i q) (eq-eqb _ _ (g.frame_of i q))))
      (pass_more _ _ (every_from s.ptl _ (λ x q. only x q (valid (entry s m.main (virtual x))) refl))
      (pass_more _ _ (hand (dec_lt b.used s.frames))
      (pass_more _ _ (lt-ltb _ _ c.unused)
      (pass_more _ _ (every_from b.used _ (λ i q. equal i q (marked b.marks i) refl)) pass_none))))))))
    where
      differs : (i j : ℕ) → i < j → j < b.used → page_in b i ≡ page_in b j → ⊥
      differs i j q r d = omega (arith, g.differ i j (omega arith) r d)

      rest : (i : ℕ) → i < 32 → Dec (i < b.used) → zero_from b i ≡ true
      rest i q (yes d) = or_left _ _ (lt-ltb _ _ d)
      rest i q (no d) = or_right (ltb i b.used) _ (eq-eqb _ _ (ap (λ (x : VirtualPage). x.0) (g.rest i (omega (arith, d)) q)))

      only : (x : ℕ) → x < s.ptl → (v : Bool) → valid (entry s m.main (virtual x)) ≡ v → entry_right s b m.main (virtual x) ≡ true
      only x q true v = or_right (not (valid (entry s m.main (virtual x)))) _ (resident_valid s b m.main g (virtual x) q ∙ v)
      only x q false v = or_left _ _ (ap not v)

      hand : Dec (b.used < s.frames) → hand_right s.frames b ≡ true
      hand (yes q) = rw (lt-ltb b.used s.frames q) (eq-eqb _ _ (h.still q))
      hand (no q) = rw (le-ltb b.used s.frames (omega (arith, q))) (lt-ltb _ _ h.most)

      equal : (i : ℕ) → i < b.used → (d : Bool) → marked b.marks i ≡ d → clean s b m i ≡ true
      equal i q true d = or_left _ _ d
      equal i q false d =
          or_right (marked b.marks i) _
          (ap (λ l. same l (swap_page m.swap (swap_of s (page_in b i)))) (c.equal i q d) ∙ equal_same (swap_page m.swap (swap_of s (page_in b i))))

-- ---- the whole machine
pub good_of : (p : State) → length p.machine.book.held ≡ 32 → fits p.machine.shape p.memory ≡ true
    → sound p.machine p.memory ≡ true → Good p
unfolding sound passes
good_of p len f e =
    let shaped : Fit p.machine.shape (length p.memory.main) × SwapLong p.machine.shape (length p.memory.swap)
    = fit_of p.machine.shape p.memory f in
    let t : passes (book_tests p.machine.shape p.machine.book p.memory) ≡ true = and_right (eqb (get_or p.machine.gpr 0 0) 0) _ e in
    record {
      fit = shaped.0;
      whole = shaped.1;
      seated = seated_of p.machine.shape p.machine.book p.memory t len;
      hand = hand_of p.machine.shape p.machine.book p.memory t shaped.0.frames_least;
      clean = clean_of p.machine.shape p.machine.book p.memory t;
      zero = eqb-true _ _ (and_left _ _ e);
    }

pub sound_of : (p : State) → Good p → (fits p.machine.shape p.memory ≡ true) × (sound p.machine p.memory ≡ true)
unfolding sound
sound_of p g = (
  fits_of p.machine.shape p.memory g.fit g.whole,
  pass_more _ _ (eq-eqb _ _ g.zero) (tests_of p.machine.shape p.machine.book p.memory g.seated g.hand g.clean),
)
