-- The marks after a load: that of the frame that it fills is cleared, since the frame has what swap has, and all others stay. So "an
-- unmarked resident page equals its swap page" again, and "marks of unused frames are clear".
use mathlib.Core.Path.{◌≡◌, sym, ap, subst⁻¹, ◌∙◌}
use mathlib.Core.Bool.{false}
use Prim.Native.Nat.{ℕ, ◌<◌}
use native.Mathlib.Omega.{arith}
use native.Mathlib.Decide.{ℕ_discrete}
use Rattle.model.specs.Pages.{frame_at, swap_of, main_page, swap_page}
use Rattle.model.specs.Frames.{page_in, marked}
use Rattle.model.specs.State.{Memory}
use Rattle.model.specs.declared.Shape.{Shape}
use Rattle.model.specs.declared.FrameBook.{FrameBook}
use Rattle.model.specs.declared.VirtualPage.{VirtualPage}
use Rattle.laws.specs.Good.{Seated, Clean}
use Rattle.laws.proofs.Marks.{clear_here, clear_other, clear_most, more_most}
use Rattle.laws.proofs.Seats.{Seats}
use Rattle.laws.proofs.Handler.{Loads}

-- page y came into frame f: book b became b', and memory m became m'
module _ (s : Shape) (b : FrameBook) (m : Memory) (y : VirtualPage) (b' : FrameBook) (m' : Memory) (f : ℕ) (t : Seats s.frames b y b' f) where
  pub cleared : marked b'.marks f ≡ false
  cleared = ap (λ (k : ℕ). marked k f) t.marks ∙ clear_here b.marks f

  pub others : (i : ℕ) → (i ≡ f → ⊥) → marked b'.marks i ≡ marked b.marks i
  others i n = ap (λ (k : ℕ). marked k i) t.marks ∙ clear_other b.marks f i n

  pub cleaned : Seated s b m.main → f < s.frames → Loads s b m y m' f → Clean s b m → Clean s b' m'
  cleaned g hf l c = record {
    equal = λ i q u. pick i q u (ℕ_discrete i f);
    unused = rw t.marks (more_most b.used b'.used _ t.grown_by (clear_most b.used b.marks f c.unused));
  }
    where
      pick : (i : ℕ) → i < b'.used → marked b'.marks i ≡ false → Dec (i ≡ f)
          → main_page m'.main (frame_at s i) ≡ swap_page m'.swap (swap_of s (page_in b' i))
      pick i q u (yes e) =
          subst⁻¹ (λ (z : ℕ). main_page m'.main (frame_at s z) ≡ swap_page m'.swap (swap_of s (page_in b' z))) e
          (l.filled ∙ ap (λ x. swap_page m'.swap (swap_of s x)) (sym t.put))
      pick i q u (no n) =
          let r : i < b.used = t.before i q n in
          l.frames i (omega (arith, r, g.booked.used_most)) n
          ∙ c.equal i r (sym (others i n) ∙ u)
          ∙ sym (l.backed (page_in b i) (g.in_table i r) (λ k e. n (g.differ i f r (omega (arith, k, hf)) e)))
          ∙ ap (λ x. swap_page m'.swap (swap_of s x)) (sym (t.stay i n))
