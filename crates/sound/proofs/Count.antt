-- Valid entries counted in place of looked up: as each B[i] is seated and all are different, there are b valid entries exactly where no
-- other entry is valid.
use mathlib.Core.Path.{◌≡◌, refl, sym, ap, ◌∙◌}
use mathlib.Core.Bool.{Bool, true, false, ◌||◌, not, false≢true, true≢false}
use mathlib.Core.List.{List}
use Prim.Native.Nat.{ℕ, zero, suc, ◌+◌, ◌%◌, ◌≤◌, ◌<◌}
use native.Mathlib.Nat.{not-suc-le-zero}
use native.Mathlib.Numerals.{add-one}
use native.Mathlib.Decide.{ℕ_discrete}
use native.Mathlib.Omega.{arith}
use lib.Dec.{eqb}
use borrow.Author.Tests.{eq-eqb, ne_eqb, eqb-true, ltb-true, not-true}
use Rattle.std.specs.Prelude.{if◌then◌else◌}
use Rattle.model.specs.Pages.{virtual}
use Rattle.model.specs.Table.{entry, valid}
use Rattle.model.specs.Frames.{page_in, among, resident}
use Rattle.model.specs.Sound.{held_in_table, all_different, frames_seated, entry_right, table_only}
use Rattle.model.specs.declared.Shape.{Shape}
use Rattle.model.specs.declared.FrameBook.{FrameBook}
use Rattle.model.specs.declared.VirtualPage.{VirtualPage}
use Rattle.laws.proofs.Choice.{same_test, never, and_left, or_left, or_right, or_second, every_at, every_from}
use Rattle.laws.proofs.Sound.{found}
use Rattle.sound.specs.Count.{count_below, valid_below}

pub count_none : (f : ℕ → Bool) → count_below 0 f ≡ 0
unfolding count_below
count_none f = refl

pub count_next : (f : ℕ → Bool) (n : ℕ) → count_below (n + 1) f ≡ count_below n f + (if f n then 1 else 0)
unfolding count_below
count_next f n = rw add-one refl

-- ---- the entries of the table, one after the other
module _ (s : Shape) (main : List ℕ) (x n : ℕ) (h : n ≡ valid_below s main x) where
  pub valid_next : (y : VirtualPage) → y ≡ virtual x → (e : ℕ) → e ≡ entry s main y → n + e % 2 ≡ valid_below s main (x + 1)
  valid_next y is e he = sym (count_next (λ k. valid (entry s main (virtual k))) x ∙ rw (← h, ← is, ← he) (one (ℕ_discrete (e % 2) 1)))
    where
      one : Dec (e % 2 ≡ 1) → n + (if eqb (e % 2) 1 then 1 else 0) ≡ n + e % 2
      one (yes d) = rw (eq-eqb _ _ d, d) refl
      one (no d) = rw (ne_eqb _ _ d) (omega (arith, d))

  pub valid_all : x ≤ s.ptl → s.ptl ≤ x → n ≡ valid_below s main s.ptl
  valid_all q r = let all : x ≡ s.ptl = omega arith in h ∙ ap (valid_below s main) all

-- ---- a test that passes wherever another does
module _ (f g : ℕ → Bool) where
  abbrev Under : ℕ → Type 0
  Under n = (x : ℕ) → x < n → f x ≡ true → g x ≡ true

  count_less : (n : ℕ) → Under n → count_below n f ≤ count_below n g
  unfolding count_below
  count_less zero u = omega arith
  count_less (suc n) u = pick (f n) (g n) (u n (omega arith)) (count_less n (λ x q. u x (omega arith)))
    where
      pick : (a b : Bool) → (a ≡ true → b ≡ true) → count_below n f ≤ count_below n g
          → count_below n f + (if a then 1 else 0) ≤ count_below n g + (if b then 1 else 0)
      pick false b h le = omega (arith, le)
      pick true true h le = omega (arith, le)
      pick true false h le = absurd (false≢true (h refl))

  count_same : (n : ℕ) → ((x : ℕ) → x < n → f x ≡ g x) → count_below n f ≡ count_below n g
  unfolding count_below
  count_same zero e = refl
  count_same (suc n) e = rw (count_same n (λ x q. e x (omega arith)), e n (omega arith)) refl

  -- as many pass: then they are the same
  count_back : (n : ℕ) → Under n → count_below n f ≡ count_below n g → (x : ℕ) → x < n → g x ≡ true → f x ≡ true
  unfolding count_below
  count_back zero u e x q v = absurd (not-suc-le-zero q)
  count_back (suc n) u e x q v =
      let below : Under n = λ y r. u y (omega arith) in
      pick (f n) (g n) refl refl (count_less n below) (λ d r. count_back n below d x r v) (ℕ_discrete x n)
    where
      before : (x < n → f x ≡ true) → (x ≡ n → f x ≡ true) → Dec (x ≡ n) → f x ≡ true
      before earlier here (yes is) = here is
      before earlier here (no is) = earlier (omega (arith, q, is))

      pick : (a b : Bool) → f n ≡ a → g n ≡ b → count_below n f ≤ count_below n g → (count_below n f ≡ count_below n g → x < n → f x ≡ true)
          → Dec (x ≡ n) → f x ≡ true
      pick true true fa gb less ih is = before (ih (omega (arith, rw (fa, gb) at e))) (λ i. ap f i ∙ fa) is
      pick false false fa gb less ih is =
          before (ih (omega (arith, rw (fa, gb) at e))) (λ i. absurd (false≢true (sym gb ∙ ap g (sym i) ∙ v))) is
      pick true false fa gb less ih is = absurd (false≢true (sym gb ∙ u n (omega arith) fa))
      pick false true fa gb less ih is = absurd (omega (arith, less, rw (fa, gb) at e))

  -- ---- either of two tests that never pass together
  count_or : (n : ℕ) → ((x : ℕ) → f x ≡ true → g x ≡ false) → count_below n (λ x. f x || g x) ≡ count_below n f + count_below n g
  unfolding count_below
  count_or zero d = refl
  count_or (suc n) d = pick (f n) (g n) (d n) (count_or n d)
    where
      pick : (a b : Bool) → (a ≡ true → b ≡ false) → count_below n (λ x. f x || g x) ≡ count_below n f + count_below n g
          → count_below n (λ x. f x || g x) + (if a || b then 1 else 0)
          ≡ count_below n f + (if a then 1 else 0) + (count_below n g + (if b then 1 else 0))
      pick true true h e = absurd (true≢false (h refl))
      pick true false h e = omega (arith, e)
      pick false b h e = omega (arith, e)

-- ---- no number, and one
count_never : (n : ℕ) → count_below n (λ x. false) ≡ 0
unfolding count_below
count_never zero = refl
count_never (suc n) = rw (count_never n) refl

count_not_yet : (k n : ℕ) → n ≤ k → count_below n (λ x. eqb k x) ≡ 0
unfolding count_below
count_not_yet k zero q = refl
count_not_yet k (suc n) q = rw (count_not_yet k n (omega arith), ne_eqb k n (λ e. omega (arith, e))) refl

count_one : (k n : ℕ) → k < n → count_below n (λ x. eqb k x) ≡ 1
unfolding count_below
count_one k zero q = absurd (not-suc-le-zero q)
count_one k (suc n) q = pick (count_one k n) (ℕ_discrete k n)
  where
    pick : (k < n → count_below n (λ x. eqb k x) ≡ 1) → Dec (k ≡ n) → count_below n (λ x. eqb k x) + (if eqb k n then 1 else 0) ≡ 1
    pick ih (yes e) = rw (eq-eqb k n e, count_not_yet k n (omega (arith, e))) refl
    pick ih (no e) = rw (ne_eqb k n e, ih (omega (arith, q, e))) refl

-- ---- the pages of B
abbrev number : VirtualPage → ℕ
number x = x.0

module _ (b : FrameBook) (n : ℕ) where
  -- different pages below n: there are as many of them
  count_among : (k : ℕ) → ((i : ℕ) → i < k → (page_in b i).0 < n) → ((i j : ℕ) → i < j → j < k → (page_in b i).0 ≡ (page_in b j).0 → ⊥)
      → count_below n (λ x. among b k (virtual x)) ≡ k
  unfolding among
  count_among zero t d = count_never n
  count_among (suc k) t d =
      count_or (λ x. eqb (page_in b k).0 x) (λ x. among b k (virtual x)) n apart
      ∙ rw (count_one (page_in b k).0 n (t k (omega arith)), count_among k (λ i q. t i (omega arith)) (λ i j q r. d i j q (omega arith))) (omega arith)
    where
      apart : (x : ℕ) → eqb (page_in b k).0 x ≡ true → among b k (virtual x) ≡ false
      apart x e = sym (never (among b k (virtual x)) (λ a. clash (found b k (virtual x) a)))
        where
          clash : (i : ℕ) × (i < k) × (page_in b i ≡ virtual x) → ⊥
          clash h = d h.0 k h.1 (omega arith) (ap number h.2 ∙ sym (eqb-true _ _ e))

module _ (s : Shape) (b : FrameBook) (main : List ℕ)
    (t : held_in_table s.ptl b ≡ true) (d : all_different b ≡ true) (h : frames_seated s b main ≡ true) where
  abbrev held : ℕ → Bool
  held x = among b b.used (virtual x)

  abbrev here : ℕ → Bool
  here x = valid (entry s main (virtual x))

  held_here : (x : ℕ) → x < s.ptl → held x ≡ true → here x ≡ true
  held_here x q a =
      let f : (i : ℕ) × (i < b.used) × (page_in b i ≡ virtual x) = found b b.used (virtual x) a in
      ap (λ y. valid (entry s main y)) (sym f.2) ∙ and_left _ _ (every_at b.used _ h f.0 f.1)

  differs : (i j : ℕ) → i < j → j < b.used → (page_in b i).0 ≡ (page_in b j).0 → ⊥
  differs i j q r e = true≢false (sym (eq-eqb _ _ e) ∙ not-true _ (every_at j _ (every_at b.used _ d j r) i q))

  count_held : count_below s.ptl held ≡ b.used
  count_held = count_among b s.ptl b.used (λ i q. ltb-true _ _ (every_at b.used _ t i q)) differs

  pub only_these : valid_below s main s.ptl ≡ b.used → table_only s b main ≡ true
  unfolding resident
  only_these e = every_from s.ptl _ (λ x q. right x q (here x) refl)
    where
      right : (x : ℕ) → x < s.ptl → (c : Bool) → here x ≡ c → entry_right s b main (virtual x) ≡ true
      right x q true v = or_right (not (here x)) _ (count_back held here s.ptl held_here (count_held ∙ sym e) x q v)
      right x q false v = or_left _ _ (ap not v)

  pub not_only : (valid_below s main s.ptl ≡ b.used → ⊥) → table_only s b main ≡ false
  unfolding resident
  not_only n = sym (never (table_only s b main) (λ o. n (sym (count_same held here s.ptl (same o)) ∙ count_held)))
    where
      same : table_only s b main ≡ true → (x : ℕ) → x < s.ptl → held x ≡ here x
      same o x q = same_test (held x) (here x) (held_here x q) (λ v. or_second _ _ (every_at s.ptl _ o x q) (ap not v))
