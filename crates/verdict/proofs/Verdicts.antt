-- Each verdict by its ways out, in the order 1, 2, 4, 3.
use mathlib.Core.Path.{◌≡◌, refl, sym, ap, ◌∙◌}
use mathlib.Core.Bool.{Bool, true, false, and-false}
use mathlib.Core.List.{List, ◌∷◌}
use Prim.Native.Nat.{ℕ, ◌≤◌, ◌<◌}
use lib.Dec.{eqb}
use lib.ListN.{length, get_or}
use borrow.Author.Tests.{le-leb, lt-leb}
use Rattle.std.specs.Prelude.{Ok, Err}
use Rattle.model.specs.Answers.{Verdict}
use Rattle.model.specs.State.{state, memory}
use Rattle.model.specs.Choice.{passes}
use Rattle.model.specs.Sound.{fits, book_tests, sound}
use Rattle.model.specs.Calls.{unless, machine_verdict, run_verdict, permitted, transfer_verdict, reply_verdict}
use Rattle.model.specs.declared.Machine.{Machine}
use Rattle.model.specs.declared.Shape.{Shape}
use Rattle.model.specs.declared.Refusal.{Refusal}
use Rattle.model.specs.declared.Refusal.TheVariants.{Bound, Unsound, Rights, TooMuch}
use Rattle.laws.specs.Good.{Fit, SwapLong}
use Rattle.laws.proofs.Sound.{fit_of}
use Rattle.laws.proofs.Granted.{machine_granted, refused_first}
use Rattle.record.specs.Words.{numbers_of}
use Rattle.record.proofs.Words.{virtual_number}
use Rattle.book.specs.Numbers.{book_of}
use Rattle.sound.specs.Lean.{whole}
use Rattle.sound.specs.declared.Lean.{Lean}

-- ---- a test that fails refuses, and behind one that passes the rest decides
module _ (q : Bool) (r : Refusal) (after : Verdict) where
  pub failed : q ≡ false → Err r ≡ unless q r after
  failed e = rw e refl

  pub passed : q ≡ true → after ≡ unless q r after
  passed e = rw e refl

-- ---- refusals 1 and 2
module _ (m : Machine) (main swap : List ℕ) (f : Bool) (e : f ≡ fits m.shape (memory main swap)) where
  pub bound : f ≡ false → Err Bound ≡ machine_verdict (state m main swap) (Ok tt)
  unfolding machine_verdict
  bound n = simp (← e, n)

  module _ (y : f ≡ true) where
    pub fitted : Fit m.shape (length main) × SwapLong m.shape (length swap)
    fitted = fit_of m.shape (memory main swap) (sym e ∙ y)

    module _ (q : Bool) (g : q ≡ sound m (memory main swap)) where
      pub unsound : q ≡ false → Err Unsound ≡ machine_verdict (state m main swap) (Ok tt)
      unfolding machine_verdict
      unsound n = simp (← e, ← g, y, n)

      pub in_order : q ≡ true → Ok tt ≡ machine_verdict (state m main swap) (Ok tt)
      unfolding machine_verdict
      in_order n = simp (← e, ← g, y, n)

-- ---- the machine m, handed in parts: l and the words of B
module _ (m : Machine) (main swap : List ℕ) (l : Lean) (hl : l ≡ record { shape = m.shape; used = m.book.used; hand = m.book.hand; marks = m.book.marks; zero = get_or m.gpr 0 0 })
    (held : List ℕ) (hh : held ≡ numbers_of m.book.held) where
  same_book : book_of m.book.used m.book.hand (numbers_of m.book.held) m.book.marks ≡ m.book
  same_book = ap (λ h. record { used = m.book.used; hand = m.book.hand; held = h; marks = m.book.marks }) (virtual_number m.book.held)

  of_whole : (v : Verdict) → v ≡ machine_verdict (state (whole l held) main swap) (Ok tt) → v ≡ machine_verdict (state m main swap) (Ok tt)
  unfolding machine_verdict sound
  of_whole v e =
      e ∙ rw (hl, hh) (ap (λ b. unless (fits m.shape (memory main swap)) Bound
      (unless (passes (eqb (get_or m.gpr 0 0) 0 ∷ book_tests m.shape b (memory main swap))) Unsound (Ok tt))) same_book)

  -- what it refuses stays refused, whatever stands behind it
  pub still_refused : (r : Refusal) → Err r ≡ machine_verdict (state (whole l held) main swap) (Ok tt) → (after : Verdict)
      → Err r ≡ machine_verdict (state m main swap) after
  unfolding machine_verdict
  still_refused r e after =
      sym (refused_first (fits m.shape (memory main swap)) (sound m (memory main swap)) Bound Unsound r after (sym (of_whole _ e)))

  -- and where it refuses nothing, what stands behind it decides
  module _ (e : Ok tt ≡ machine_verdict (state (whole l held) main swap) (Ok tt)) where
    is_fit : fits m.shape (memory main swap) ≡ true
    is_fit = (machine_granted (state m main swap) (Ok tt) (sym (of_whole _ e))).0

    is_sound : sound m (memory main swap) ≡ true
    is_sound = (machine_granted (state m main swap) (Ok tt) (sym (of_whole _ e))).1

    pub onward : (after : Verdict) → after ≡ machine_verdict (state m main swap) after
    unfolding machine_verdict
    onward after = simp (is_fit, is_sound)

    pub fit : Fit m.shape (length main)
    fit = (fit_of m.shape (memory main swap) is_fit).0

-- ---- refusal 4 of a run of the machine m, handed in parts
module _ (m : Machine) (main swap : List ℕ) (n : ℕ) (l : Lean) (held : List ℕ) (e : Ok tt ≡ machine_verdict (state (whole l held) main swap) (Ok tt))
    (hl : l ≡ record { shape = m.shape; used = m.book.used; hand = m.book.hand; marks = m.book.marks; zero = get_or m.gpr 0 0 }) (hh : held ≡ numbers_of m.book.held) where
  pub short_run : n ≤ 1000000 → run_verdict (state m main swap) n ≡ Ok tt
  unfolding run_verdict
  short_run q = simp (le-leb n 1000000 q) (sym (onward m main swap l hl held hh e (Ok tt)))

  pub long_run : 1000000 < n → run_verdict (state m main swap) n ≡ Err TooMuch
  unfolding run_verdict
  long_run q = simp (lt-leb n 1000000 q) (sym (onward m main swap l hl held hh e (Err TooMuch)))

pub ruleset runs = (short_run, long_run)

-- ---- refusals 4 and 3 of a transfer
module _ (writing : Bool) (s : Shape) (main : List ℕ) (va n : ℕ) where
  pub too_much : 256 < n → Err TooMuch ≡ transfer_verdict writing s main va n
  too_much h = simp (lt-leb _ _ h)

  module _ (h : n ≤ 256) (q : Bool) (e : q ≡ permitted writing s main va n) where
    pub no_right : q ≡ false → Err Rights ≡ transfer_verdict writing s main va n
    no_right k = simp (le-leb _ _ h, ← e, k)

    pub has_right : q ≡ true → Ok tt ≡ transfer_verdict writing s main va n
    has_right k = simp (le-leb _ _ h, ← e, k)

pub ruleset transfers = (too_much, no_right, has_right)

-- ---- refusal 4 of a reply
module _ (i : ℕ) where
  pub by_most : 1 ≤ i → i ≤ 31 → reply_verdict i ≡ Ok tt
  unfolding reply_verdict
  by_most h k = simp (le-leb _ _ h, le-leb _ _ k)

  pub below_least : i < 1 → reply_verdict i ≡ Err TooMuch
  unfolding reply_verdict
  below_least h = simp (lt-leb _ _ h)

  pub above_most : 31 < i → reply_verdict i ≡ Err TooMuch
  unfolding reply_verdict
  above_most h = simp (lt-leb _ _ h, and-false)

pub ruleset replies = (by_most, below_least, above_most)
