-- Each test of a call on the plain engine tells its row of the table of refusals.
use mathlib.Core.Path.{◌≡◌, refl}
use mathlib.Core.Bool.{Bool, true, false, ◌&&◌}
use mathlib.Core.List.{List}
use Prim.Native.Nat.{ℕ, ◌+◌, ◌*◌, ◌<◌}
use native.Mathlib.Omega.{arith}
use lib.Dec.{eqb, ltb}
use lib.ListN.{length, get_or}
use borrow.Author.Tests.{eqb-true, eq-eqb}
use Rattle.model.specs.Pages.{page_of}
use Rattle.model.specs.Flat.{grants}
use Rattle.model.specs.declared.VirtualPage.{VirtualPage}
use Rattle.laws.proofs.Choice.{and_left, and_right, and_both}
use Rattle.plainmodel.specs.State.{PlainState}
use Rattle.plainmodel.specs.Calls.{fits, sound, permitted, viewable}
use Rattle.plainmodel.specs.Load.{room}
use Rattle.plainlaws.specs.Good.{PlainFit, PlainSound}
use Rattle.plainlaws.proofs.Granted.{fit_of, fits_of, sound_facts, sound_of, legal_allow}
use Rattle.demands.specs.Refusals.{◌when◌, ◌unless◌}
use Rattle.demands.specs.Plain1.{right, PlainDenied, SomePlainDenied, PlainRoomy}
use Rattle.demands.proofs.Decide.{Tells, tells_unless}
use Rattle.demands.proofs.Told.{page_told, some_told}

-- ---- 1 and 2
pub fits_told : (p : PlainState) → Tells (fits p) (1 unless PlainFit p)
fits_told p = tells_unless (fit_of p) (fits_of p)

pub sound_told : (p : PlainState) → Tells (sound p) (2 unless PlainSound p)
sound_told p = tells_unless (sound_facts p) (sound_of p)

-- ---- 3
-- the right of a rights byte
grants_right : (writing : Bool) (b : ℕ) → grants writing b ≡ eqb (right writing b) 1
grants_right true b = refl
grants_right false b = refl

right_bit : (writing : Bool) (b : ℕ) → right writing b < 2
right_bit true b = omega arith
right_bit false b = omega arith

module _ (writing : Bool) (rights : List ℕ) where
  denied_told : (x : VirtualPage)
      → Tells (ltb x.0 (length rights) && grants writing (get_or rights x.0 0)) (3 when PlainDenied writing rights x)
  denied_told x = rw (grants_right writing (get_or rights x.0 0)) (page_told x.0 (length rights) _ (right_bit writing _))

  pub some_denied_told : (va n : ℕ) → Tells (permitted writing rights va n) (3 when SomePlainDenied writing rights va n)
  unfolding permitted
  some_denied_told va n = some_told n _ _ (λ i. rw (legal_allow rights writing (va + i)) (denied_told (page_of (va + i))))

pub view_told : (rights : List ℕ) (x : VirtualPage) → Tells (viewable rights x) (3 when PlainDenied false rights x)
unfolding viewable
view_told rights x = denied_told false rights x

-- ---- 7
pub room_told : (ptl bytes_length rights_length : ℕ) → Tells (room ptl bytes_length rights_length) (7 unless PlainRoomy ptl bytes_length rights_length)
unfolding room
room_told ptl bytes_length rights_length = tells_unless
    (λ q. record { bytes_long = eqb-true _ _ (and_left _ _ q); rights_long = eqb-true _ _ (and_right (eqb bytes_length (4096 * ptl)) _ q) })
    (λ r. and_both _ _ (eq-eqb _ _ r.bytes_long) (eq-eqb _ _ r.rights_long))
