-- Each test of a call tells its row of the table of refusals.
use mathlib.Core.Path.{◌≡◌, refl}
use mathlib.Core.Logic.{◌⊎◌, inl, inr}
use mathlib.Core.Bool.{Bool, true, false, ◌&&◌}
use mathlib.Core.List.{List}
use Prim.Native.Nat.{ℕ, ◌+◌, ◌<◌, ◌≤◌}
use native.Mathlib.Omega.{arith}
use lib.Dec.{eqb, leb, ltb}
use lib.ListN.{length}
use borrow.Author.Tests.{leb-true, leb-false, ltb-true, ltb-false, eqb-true, eqb-false, le-leb}
use Rattle.model.specs.Choice.{every_below}
use Rattle.model.specs.Pages.{page_of}
use Rattle.model.specs.Table.{entry}
use Rattle.model.specs.State.{Memory, State}
use Rattle.model.specs.Sound.{fits, sound}
use Rattle.model.specs.Translate.{has}
use Rattle.model.specs.Calls.{permitted, viewable}
use Rattle.model.specs.Image.{trailer, ptl_of, frames_of, known, well_formed, room}
use Rattle.model.specs.declared.VirtualPage.{VirtualPage}
use Rattle.laws.specs.Good.{Good}
use Rattle.laws.specs.Formed.{Formed}
use Rattle.laws.proofs.Choice.{and_left, and_right, and_both, every_at, some_fails}
use Rattle.laws.proofs.Sound.{fit_of, fits_of, good_of, sound_of}
use Rattle.laws.proofs.Host.{legal_granted}
use Rattle.laws.proofs.Formed.{known_of, formed_of, well_formed_of, roomy_of, room_of}
use Rattle.demands.specs.Refusals.{◌when◌, ◌unless◌}
use Rattle.demands.specs.Conditions.{Fits, right, Denied, SomeDenied, Register, UnknownImage, MemoryFits}
use Rattle.demands.proofs.Decide.{Tells, tells_unless}

-- ---- 1 and 2
pub fits_told : (p : State) → Tells (fits p.machine.shape p.memory) (1 unless Fits p)
fits_told p = tells_unless (fit_of p.machine.shape p.memory) (λ f. fits_of p.machine.shape p.memory f.0 f.1)

pub sound_told : (p : State) → length p.machine.book.held ≡ 32 → fits p.machine.shape p.memory ≡ true
    → Tells (sound p.machine p.memory) (2 unless Good p)
sound_told p len f = tells_unless (good_of p len f) (λ g. (sound_of p g).1)

-- ---- 3
-- page x is one of n, and its right is a bit
pub page_told : (x n bit : ℕ) → bit < 2 → Tells (ltb x n && eqb bit 1) (3 when ((n ≤ x) ⊎ (bit ≡ 0)))
page_told x n bit small = record { fails = fails; passes = passes }
  where
    fails : (ltb x n && eqb bit 1) ≡ false → (n ≤ x) ⊎ (bit ≡ 0)
    fails q = pick (ltb x n) refl
      where
        pick : (b : Bool) → ltb x n ≡ b → (n ≤ x) ⊎ (bit ≡ 0)
        pick true t = inr (omega (arith, eqb-false bit 1 (rw t at q), small))
        pick false t = inl (ltb-false _ _ t)

    passes : (ltb x n && eqb bit 1) ≡ true → ¬ ((n ≤ x) ⊎ (bit ≡ 0))
    passes q (inl out) = omega (arith, ltb-true x n (and_left _ _ q), out)
    passes q (inr lacks) = omega (arith, eqb-true bit 1 (and_right (ltb x n) _ q), lacks)

-- a test of each of the n bytes of a transfer
pub some_told : (n : ℕ) (test : ℕ → Bool) (denied : ℕ → Type 0) → ((i : ℕ) → Tells (test i) (3 when denied i))
    → Tells (every_below n test) (3 when ((i : ℕ) × (i < n) × denied i))
some_told n test denied t = record {
  fails = λ q. let s : (i : ℕ) × (i < n) × (test i ≡ false) = some_fails n test q in (s.0, s.1, (t s.0).fails s.2);
  passes = λ q d. (t d.0).passes (every_at n test q d.0 d.1) d.2;
}

-- the right of an entry
has_right : (writing : Bool) (e : ℕ) → has writing e ≡ eqb (right writing e) 1
has_right true e = refl
has_right false e = refl

right_bit : (writing : Bool) (e : ℕ) → right writing e < 2
right_bit true e = omega arith
right_bit false e = omega arith

module _ (writing : Bool) (p : State) where
  denied_told : (x : VirtualPage)
      → Tells (ltb x.0 p.machine.shape.ptl && has writing (entry p.machine.shape p.memory.main x)) (3 when Denied writing p x)
  denied_told x =
      let e : ℕ = entry p.machine.shape p.memory.main x in
      rw (has_right writing e) (page_told x.0 p.machine.shape.ptl (right writing e) (right_bit writing e))

  pub some_denied_told : (va n : ℕ) → Tells (permitted writing p.machine.shape p.memory.main va n) (3 when SomeDenied writing p va n)
  unfolding permitted
  some_denied_told va n =
      some_told n _ _ (λ i. rw (legal_granted p.machine.shape p.memory.main writing (va + i)) (denied_told (page_of (va + i))))

pub view_told : (p : State) (x : VirtualPage) → Tells (viewable p.machine.shape p.memory.main x) (3 when Denied false p x)
unfolding viewable
view_told p x = denied_told false p x

-- ---- 4
-- what is too long is longer than `most`
pub too_long_told : (most n : ℕ) (too_long : Type 0) → (most < n → too_long) → (too_long → most < n) → Tells (leb n most) (4 when too_long)
too_long_told most n too_long to back = record {
  fails = λ q. to (leb-false n most q);
  passes = λ q h. omega (arith, leb-true n most q, back h);
}

pub register_told : (i : ℕ) → Tells (leb 1 i && leb i 31) (4 unless Register i)
register_told i = tells_unless
    (λ q. (leb-true 1 i (and_left _ _ q), leb-true i 31 (and_right (leb 1 i) _ q)))
    (λ h. and_both _ _ (le-leb 1 i h.0) (le-leb i 31 h.1))

-- ---- 5
pub unknown_told : (l : List ℕ) → Tells (known l) (5 when UnknownImage l)
unfolding known
unknown_told l = record { fails = fails; passes = passes }
  where
    fails : (leb 24 (length l) && eqb (trailer l 5) 1) ≡ false → UnknownImage l
    fails q = pick (leb 24 (length l)) refl
      where
        pick : (b : Bool) → leb 24 (length l) ≡ b → UnknownImage l
        pick true t = inr (eqb-false _ _ (rw t at q))
        pick false t = inl (leb-false _ _ t)

    passes : known l ≡ true → ¬ UnknownImage l
    passes q (inl short) = omega (arith, (known_of l q).long, short)
    passes q (inr other) = other (known_of l q).edition

-- ---- 6 and 7
pub rule_told : (l : List ℕ) → Tells (well_formed l) (6 unless Formed l)
rule_told l = tells_unless (formed_of l) (well_formed_of l)

pub room_told : (l : List ℕ) (m : Memory) → Tells (room (frames_of l) (ptl_of l) (length m.main) (length m.swap)) (7 unless MemoryFits l m)
room_told l m = tells_unless (roomy_of _ _ _ _) (room_of _ _ _ _)
