-- The ways out of the code over the frame book: a law for each, over plain variables.
use mathlib.Core.Path.{◌≡◌, sym, ap, ap₂, ◌∙◌}
use mathlib.Core.Bool.{Bool, true, false, ◌&&◌, not}
use mathlib.Core.List.{List, map}
use Prim.Native.Nat.{ℕ, ◌+◌, ◌%◌, ◌≤◌, ◌<◌}
use native.Mathlib.Nat.{add-zero}
use native.Mathlib.Numerals.{add-one}
use native.Mathlib.Omega.{arith}
use borrow.Author.Tests.{lt-ltb, le-ltb, eq-eqb, ne_eqb}
use lib.Dec.{ltb, eqb}
use lib.ListN.{get_or, take, drop, get_or-map}
use lib.Seq.{get_or-take, get_or-drop}
use Rattle.model.specs.Choice.{every_below}
use Rattle.model.specs.Pages.{virtual}
use Rattle.model.specs.Frames.{page_in, marked, without_mark, remarked, frame, seat, grown, turned, advanced, copies}
use Rattle.model.specs.Sound.{all_different, zero_from, hand_right}
use Rattle.model.specs.declared.FrameBook.{FrameBook}
use Rattle.model.specs.declared.VirtualPage.{VirtualPage}
use Rattle.laws.proofs.Choice.{or_left, every_from, every_not}
use Rattle.laws.proofs.Seats.{advanced_free, advanced_full}
use Rattle.book.specs.Numbers.{book_of}

-- ---- after a load, by the frame f that the code takes and the marks n that it leaves
module _ (a : ℕ) (b : FrameBook) (y : VirtualPage) (f : ℕ) (hf : f ≡ frame a b) (n : ℕ) (hn : n ≡ without_mark b.marks f) where
  pub grows : b.used < a → grown (remarked (seat b f y) n) ≡ advanced a b y
  grows q =
      ap (λ (m : ℕ). grown (remarked (seat b f y) m)) hn
      ∙ ap (λ (k : ℕ). grown (seat b k y)) hf
      ∙ sym (advanced_free a b y q)

  -- k is where the hand goes, before it goes round
  pub turns : a ≤ b.used → (k : ℕ) → k ≡ f + 1 → record { used = b.used; hand = k % a; held = (seat b f y).held; marks = n } ≡ advanced a b y
  turns q k e =
      ap₂ (λ (i m : ℕ). record { used = b.used; hand = i % a; held = (seat b f y).held; marks = m }) e hn
      ∙ ap (λ (i : ℕ). turned a i (seat b i y)) hf
      ∙ sym (advanced_full a b y q)

-- ---- whether a load copies
pub keeps : (a : ℕ) (b : FrameBook) → b.used < a → false ≡ copies a b
keeps a b q = simp (lt-ltb _ _ q)

pub copied : (a : ℕ) (b : FrameBook) → a ≤ b.used → (f : ℕ) → f ≡ frame a b → marked b.marks f ≡ copies a b
copied a b q f e = ap (marked b.marks) e ∙ simp (le-ltb _ _ q)

-- ---- B by its numbers
pub page_number : (held : List ℕ) (i : ℕ) → (get_or (map virtual held) i (virtual 0)).0 ≡ get_or held i 0
page_number held i = ap (λ (x : VirtualPage). x.0) (get_or-map virtual held i 0)

module _ (used : ℕ) (held : List ℕ) where
  abbrev b : FrameBook
  b = book_of used 0 held 0

  same_number : (i j : ℕ) → eqb (page_in b i).0 (page_in b j).0 ≡ eqb (get_or held i 0) (get_or held j 0)
  same_number i j = ap₂ eqb (page_number held i) (page_number held j)

  pub pair_differs : (i j : ℕ) → (get_or held i 0 ≡ get_or held j 0 → ⊥) → not (eqb (page_in b i).0 (page_in b j).0) ≡ true
  pair_differs i j n = ap not (same_number i j ∙ ne_eqb _ _ n)

  pub pair_equal : (i j : ℕ) → i < j → j < used → get_or held i 0 ≡ get_or held j 0 → false ≡ all_different b
  pair_equal i j q r e = sym (every_not used _ j r (every_not j _ i q (ap not (same_number i j ∙ eq-eqb _ _ e))))

  -- ---- "B is 0 from b on": of the words from b on none was looked at, and one more
  pub zero_before : true ≡ every_below (used + 0) (λ k. zero_from b k)
  zero_before = simp add-zero (sym (every_from used _ (λ i q. or_left _ _ (lt-ltb _ _ q))))

  pub zero_next : (i n : ℕ) → i < n → (z : Bool) → z ≡ every_below (used + i) (λ k. zero_from b k)
      → (z && eqb (get_or (take n (drop used held)) i 0) 0) ≡ every_below (used + (i + 1)) (λ k. zero_from b k)
  unfolding every_below
  zero_next i n q z e =
      let next : used + (i + 1) ≡ (used + i) + 1 = omega arith in
      rw (next, add-one, e, get_or-take n (drop used held) i 0 q, get_or-drop used held i 0) (simp (le-ltb (used + i) used (omega arith), page_number held (used + i)))

-- ---- the hand
module _ (a used hand : ℕ) (held : List ℕ) (marks : ℕ) where
  pub hand_free : used < a → eqb hand 0 ≡ hand_right a (book_of used hand held marks)
  hand_free h = simp (lt-ltb _ _ h)

  pub hand_full : a ≤ used → ltb hand a ≡ hand_right a (book_of used hand held marks)
  hand_full h = simp (le-ltb _ _ h)
