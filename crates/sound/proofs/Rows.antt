-- The tests of soundness as code runs them, one after the other.
use mathlib.Core.Path.{◌≡◌, refl, sym}
use mathlib.Core.Bool.{Bool, true, false, ◌&&◌, and-true}
use mathlib.Core.List.{◌∷◌, List}
use Prim.Native.Nat.{ℕ, ◌≤◌, ◌<◌}
use borrow.Author.Tests.{eq-eqb, ne_eqb, le-leb, lt-leb}
use lib.Dec.{eqb}
use lib.ListN.{get_or}
use Rattle.model.specs.Choice.{passes}
use Rattle.model.specs.Sound.{book_tests, sound, held_in_table, all_different, rest_zero, frames_seated, hand_right, marks_right, frames_clean}
use Rattle.model.specs.State.{Memory}
use Rattle.model.specs.declared.Machine.{Machine}
use Rattle.book.specs.Numbers.{book_of}
use Rattle.sound.specs.Lean.{whole}
use Rattle.sound.specs.declared.Lean.{Lean}
use native.Mathlib.Omega.{arith}
use Rattle.laws.proofs.Choice.{and_left, and_right, pass_not}
use Rattle.sound.specs.Count.{valid_below}
use Rattle.sound.proofs.Count.{only_these, not_only}

module _ (r : Machine) (m : Memory) where
  -- the i-th test fails
  pub unsound : (i : ℕ) → get_or (eqb (get_or r.gpr 0 0) 0 ∷ book_tests r.shape r.book m) i true ≡ false → false ≡ sound r m
  unfolding sound
  unsound i e = sym (pass_not _ i e)

  pub gpr_not : (get_or r.gpr 0 0 ≡ 0 → ⊥) → false ≡ sound r m
  gpr_not n = unsound 0 (ne_eqb _ _ n)

  pub used_not : r.shape.frames < r.book.used → false ≡ sound r m
  used_not h = unsound 1 (lt-leb _ _ h)

  -- the two tests of one pass over B
  abbrev held : Bool
  held = held_in_table r.shape.ptl r.book

  abbrev placed : Bool
  placed = frames_seated r.shape r.book m.main

  pub seats_not : (held && placed) ≡ false → false ≡ sound r m
  seats_not e = pick held refl
    where
      pick : (c : Bool) → held ≡ c → false ≡ sound r m
      pick true q = unsound 5 (rw q at e)
      pick false q = unsound 2 q

  -- those before the count pass
  module _ (d : all_different r.book ≡ true) (h : (held && placed) ≡ true) where
    pub count_not : (valid_below r.shape m.main r.shape.ptl ≡ r.book.used → ⊥) → false ≡ sound r m
    count_not n = unsound 6 (not_only r.shape r.book m.main (and_left _ _ h) d (and_right held _ h) n)

    -- all before the last pass
    pub sound_so_far : get_or r.gpr 0 0 ≡ 0 → r.book.used ≤ r.shape.frames → rest_zero r.book ≡ true
        → valid_below r.shape m.main r.shape.ptl ≡ r.book.used → hand_right r.shape.frames r.book ≡ true
        → marks_right r.book ≡ true → frames_clean r.shape r.book m ≡ sound r m
    unfolding sound passes
    sound_so_far z u n e k q =
        let t = and_left held _ h in
        let s = and_right held _ h in
        simp (eq-eqb _ _ z, le-leb _ _ u, t, d, n, s, only_these r.shape r.book m.main t d s e, k, q, and-true)

-- ---- the ways out of the machine with these parts, by what its tests come to
module _ (l : Lean) (words : List ℕ) (m : Memory) where
  pub zero_wrong : 0 < l.zero → false ≡ sound (whole l words) m
  zero_wrong h = gpr_not (whole l words) m (λ e. omega (arith, h, e))

  pub used_wrong : l.shape.frames < l.used → false ≡ sound (whole l words) m
  used_wrong h = used_not (whole l words) m h

  pub count_wrong : all_different (book_of l.used l.hand words l.marks) ≡ true
      → (held_in_table l.shape.ptl (book_of l.used l.hand words l.marks) && frames_seated l.shape (book_of l.used l.hand words l.marks) m.main) ≡ true
      → (valid_below l.shape m.main l.shape.ptl ≡ l.used → ⊥) → false ≡ sound (whole l words) m
  count_wrong d h n = count_not (whole l words) m d h n

pub ruleset unsound_ways = (zero_wrong, used_wrong, count_wrong)
