-- A load takes and leaves b, hand and B whatever the marks are: `bare` of the book goes along with it.
use mathlib.Core.Path.{◌≡◌, refl, sym, ap}
use mathlib.Core.Bool.{Bool, true, false, ◌||◌}
use Prim.Native.Nat.{ℕ, zero, suc}
use lib.Dec.{eqb}
use Rattle.std.specs.Prelude.{if◌then◌else◌}
use Rattle.model.specs.Frames.{page_in, remarked, free, frame, seat, grown, turned, advanced, among, resident}
use Rattle.model.specs.declared.FrameBook.{FrameBook}
use Rattle.model.specs.declared.VirtualPage.{VirtualPage}
use Rattle.laws.proofs.Marks.{clear_none}
use Rattle.demands.specs.Brought.{bare}

bare_among : (b : FrameBook) (n : ℕ) (y : VirtualPage) → among (bare b) n y ≡ among b n y
unfolding among
bare_among b zero y = refl
bare_among b (suc n) y = ap (λ z. eqb (page_in b n).0 y.0 || z) (bare_among b n y)

pub bare_resident : (b : FrameBook) (y : VirtualPage) → resident (bare b) y ≡ resident b y
unfolding resident
bare_resident b y = bare_among b b.used y

pub bare_advanced : (a : ℕ) (b : FrameBook) (y : VirtualPage) → bare (advanced a b y) ≡ advanced a (bare b) y
unfolding advanced
bare_advanced a b y = by (free a b)
  where
    by : (x : Bool) → bare (if x then grown (seat b (frame a b) y) else turned a (frame a b) (seat b (frame a b) y))
        ≡ (if x then grown (seat (bare b) (frame a b) y) else turned a (frame a b) (seat (bare b) (frame a b) y))
    by true = ap (remarked (grown (seat b (frame a b) y))) (sym (clear_none (frame a b)))
    by false = ap (remarked (turned a (frame a b) (seat b (frame a b) y))) (sym (clear_none (frame a b)))
