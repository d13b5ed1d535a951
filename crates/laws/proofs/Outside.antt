-- "All other bytes stay": outside the frames a load changes main memory only in the entries of the page that comes and of the one that
-- leaves, and swap only in the page that is copied back.
use mathlib.Core.Path.{◌≡◌, ap, ◌∙◌}
use mathlib.Core.Bool.{Bool, true, not}
use Prim.Native.Nat.{ℕ, ◌+◌, ◌*◌, ◌<◌, ◌≤◌}
use native.Mathlib.Omega.{arith}
use native.Mathlib.Decide.{dec_lt}
use borrow.Author.Tests.{le-ltb}
use lib.ListN.{length, get_or}
use Rattle.model.specs.Bytes.{page, with_page}
use Rattle.model.specs.Pages.{entry_at, swap_of}
use Rattle.model.specs.Frames.{page_in, marked, free, frame, copies}
use Rattle.model.specs.State.{Memory}
use Rattle.model.specs.Handler.{out, into, loaded}
use Rattle.model.specs.declared.Shape.{Shape}
use Rattle.model.specs.declared.FrameBook.{FrameBook}
use Rattle.model.specs.declared.VirtualPage.{VirtualPage}
use Rattle.laws.specs.Good.{Fit, SwapLong, Hand, Seated}
use Rattle.laws.specs.Named.{Off}
use Rattle.laws.proofs.Choice.{and_both}
use Rattle.laws.proofs.Bytes.{with_page_other}
use Rattle.laws.proofs.Table.{byte_other}
use Rattle.laws.proofs.Moves.{frame_fits, coming, out_fit, out_whole, out_swap_off}
use Rattle.laws.proofs.Seats.{frame_most}
use Rattle.laws.proofs.Handler.{loaded_free, loaded_full}

-- ---- each move
module _ (s : Shape) (m : Memory) (h : Fit s (length m.main)) (w : SwapLong s (length m.swap)) (f : ℕ) (x : VirtualPage) (hf : f < s.frames)
    (hx : x.0 < s.ptl) (i : ℕ) where
  out_off : (c : Bool) → Off (entry_at s x) 4 i → get_or (out s m c f x).main i 0 ≡ get_or m.main i 0
  unfolding out
  out_off c o = byte_other s m.main x _ i o

  into_off : Off (4096 * s.abase) (4096 * s.frames) i → Off (entry_at s x) 4 i → get_or (into s m f x).main i 0 ≡ get_or m.main i 0
  unfolding into
  into_off o r =
      byte_other s (with_page m.main (s.abase + f) (page m.swap (swap_of s x).0)) x _ i r
      ∙ with_page_other m.main (s.abase + f) (page m.swap (swap_of s x).0) (frame_fits s m h w f hf) (coming s m h w f x hf hx) i
      (λ z. omega (arith, z, hf, o (omega (arith, z))))

-- ---- a load
-- where a frame is free swap stays as it is
load_swap_free : (s : Shape) (b : FrameBook) (m : Memory) (y : VirtualPage) → b.used < s.frames → (loaded s b m y).swap ≡ m.swap
unfolding into
load_swap_free s b m y q = ap (λ k. k.swap) (loaded_free s b m y q)

module _ (s : Shape) (b : FrameBook) (m : Memory) (h : Fit s (length m.main)) (w : SwapLong s (length m.swap)) (g : Seated s b m.main) (hand : Hand s.frames b)
    (y : VirtualPage) (hy : y.0 < s.ptl) (i : ℕ) where
  -- the frame that is taken, and its page
  f : ℕ
  f = frame s.frames b

  hf : f < s.frames
  unfolding f
  hf = frame_most s.frames b hand

  leaves : s.frames ≤ b.used → (page_in b f).0 < s.ptl
  leaves q = g.in_table f (omega (arith, q, hf))

  pub load_off : Off (4096 * s.abase) (4096 * s.frames) i → Off (entry_at s y) 4 i → (s.frames ≤ b.used → Off (entry_at s (page_in b (frame s.frames b))) 4 i)
      → get_or (loaded s b m y).main i 0 ≡ get_or m.main i 0
  unfolding f
  load_off o r v = pick (dec_lt b.used s.frames)
    where
      pick : Dec (b.used < s.frames) → get_or (loaded s b m y).main i 0 ≡ get_or m.main i 0
      pick (yes q) = ap (λ k. get_or k.main i 0) (loaded_free s b m y q) ∙ into_off s m h w f y hf hy i o r
      pick (no n) =
          let q : s.frames ≤ b.used = omega (arith, n) in
          let x : VirtualPage = page_in b f in
          let c : Bool = marked b.marks f in
          ap (λ k. get_or k.main i 0) (loaded_full s b m y q)
          ∙ into_off s (out s m c f x) (out_fit s m h w c f x hf (leaves q)) (out_whole s m h w c f x hf (leaves q)) f y hf hy i o r
          ∙ out_off s m h w f x hf (leaves q) i c (v q)

  pub load_swap_off : (copies s.frames b ≡ true → Off (4096 * (swap_of s (page_in b (frame s.frames b))).0) 4096 i)
      → get_or (loaded s b m y).swap i 0 ≡ get_or m.swap i 0
  unfolding into f
  load_swap_off v = pick (dec_lt b.used s.frames)
    where
      pick : Dec (b.used < s.frames) → get_or (loaded s b m y).swap i 0 ≡ get_or m.swap i 0
      pick (yes q) = ap (λ l. get_or l i 0) (load_swap_free s b m y q)
      pick (no n) =
          let q : s.frames ≤ b.used = omega (arith, n) in
          ap (λ k. get_or k.swap i 0) (loaded_full s b m y q)
          ∙ out_swap_off s m h w (marked b.marks f) f (page_in b f) hf (leaves q) i
          (λ e. v (and_both (not (free s.frames b)) (marked b.marks f) (ap not (le-ltb b.used s.frames q)) e))
