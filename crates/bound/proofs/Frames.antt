-- A page is in the list of a book's resident pages exactly when it is resident (`pages_resident`). The file ends in the order that the
-- model's frame book keeps, first-come: `keeps_first_come`.
use mathlib.Core.Path.{◌≡◌, refl, sym}
use mathlib.Core.Bool.{true, Bool-set}
use mathlib.Core.Logic.Or
use mathlib.Core.Logic.{◌↔◌, ∥∥₁_elim}
use mathlib.Core.List.Memᴰ
use mathlib.Core.List.{List, [], ◌∷◌, mem-append, mem-cons_self, mem-cons_of_mem, mem-cast, not-mem-nil}
use Prim.Native.Nat.{ℕ, zero, suc, ◌≤◌, ◌<◌}
use native.Mathlib.Nat.{not-suc-le-zero, le_of_suc-le-suc}
use native.Mathlib.Numerals.{add-one}
use native.Mathlib.Decide.{dec_lt}
use native.Mathlib.Omega.{arith}
use lib.Dec.{eqb}
use lib.ListN.{length, take, get_or}
use lib.Seq.{take-suc, take-suc-set, take-set-lt, length-take-le}
use Rattle.model.specs.Pages.{virtual}
use Rattle.model.specs.Frames.{page_in, advanced, among, resident}
use Rattle.model.specs.declared.FrameBook.{FrameBook}
use Rattle.model.specs.declared.VirtualPage.{VirtualPage}
use Rattle.laws.specs.Good.{Booked, Hand}
use Rattle.laws.proofs.Choice.{or_right}
use Rattle.laws.proofs.Sound.{found, found_back}
use Rattle.laws.proofs.Seats.{frame_free, frame_full, advanced_free, advanced_full}
use Rattle.bound.specs.Pages.{◌∈◌}
use Rattle.bound.specs.Orders.{first_come, fetch}
use Rattle.bound.specs.Frames.{pages, Keeps}
use Rattle.bound.proofs.Ring.{ring_iff, ring_fill, ring_turn}

-- ---- among the first n of a list, and among the first n frames
in_take : (n i : ℕ) (l : List VirtualPage) → i < n → n ≤ length l → get_or l i (virtual 0) ∈ take n l
in_take zero i l h f = absurd (not-suc-le-zero h)
in_take (suc n) i [] h f = absurd (not-suc-le-zero f)
in_take (suc n) zero (x ∷ l) h f = mem-cons_self
in_take (suc n) (suc i) (x ∷ l) h f = mem-cons_of_mem x (in_take n i l (le_of_suc-le-suc h) (le_of_suc-le-suc f))

take-among : (b : FrameBook) (y : VirtualPage) (n : ℕ) → n ≤ length b.held → y ∈ take n b.held → among b n y ≡ true
unfolding among
take-among b y zero h i = absurd (not-mem-nil i)
take-among b y (suc n) h i =
    Or.elim (Bool-set _ true) ((mem-append {s = take n b.held}).0 (rw (take-suc b.held n (virtual 0) h) at i))
    (λ j. or_right (eqb (page_in b n).0 y.0) _ (take-among b y n (omega arith) j))
    (λ j. ∥∥₁_elim j (Bool-set _ true) (λ m. found_back b (suc n) y n (omega arith) (sym (Memᴰ.eq_of_singleton m))))

-- ---- a book with a frames
module _ (a : ℕ) (few : a ≤ 32) (b : FrameBook) (g : Booked a b) where
  room : a ≤ length b.held
  room = omega (arith, few, g.array)

  pub pages_resident : (y : VirtualPage) → (y ∈ pages b) ↔ (resident b y ≡ true)
  unfolding resident
  pages_resident y = (
    λ i. take-among b y b.used (omega (arith, room, g.used_most)) ((ring_iff b.hand (take b.used b.held) y).0 i),
    λ e.
        let t : (i : ℕ) × (i < b.used) × (page_in b i ≡ y) = found b b.used y e in
        (ring_iff b.hand (take b.used b.held) y).1
        (mem-cast (sym t.2) (in_take b.used t.0 b.held t.1 (omega (arith, room, g.used_most)))),
  )

  advanced_pages : Hand a b → (y : VirtualPage) → pages (advanced a b y) ≡ fetch a y (pages b)
  advanced_pages h y = pick (dec_lt b.used a)
    where
      pick : Dec (b.used < a) → pages (advanced a b y) ≡ fetch a y (pages b)
      pick (yes q) =
          let l : length (take b.used b.held) ≡ b.used = length-take-le b.used b.held (omega (arith, room)) in
          rw (advanced_free a b y q, frame_free a b q, h.still q, add-one, take-suc-set b.held b.used y (omega (arith, room)))
          (ring_fill a y (take b.used b.held) (omega arith))
      pick (no n) =
          let q : a ≤ b.used = omega (arith, n) in
          let f : b.used ≡ a = omega (arith, q, g.used_most) in
          rw (advanced_full a b y q, frame_full a b q, f, take-set-lt a b.held b.hand y h.most)
          (ring_turn a b.hand y (take a b.held) (length-take-le a b.held room) h.most)

pub keeps_first_come : Keeps first_come
keeps_first_come = record { touched = λ b p i. refl; loaded = advanced_pages }
