-- The memories after the handler loaded a page that is in swap: lengths, entries, pages, and no flat byte changes.
use mathlib.Core.Path.{◌≡◌, refl, sym, ap, subst⁻¹, ◌∙◌}
use mathlib.Core.Bool.{Bool, true, false, true≢false}
use Prim.Native.Nat.{ℕ, ◌+◌, ◌<◌, ◌≤◌}
use native.Mathlib.Omega.{arith}
use native.Mathlib.Decide.{dec_lt}
use borrow.Author.Tests.{lt-ltb, le-ltb}
use lib.ListN.{length}
use Rattle.model.specs.Pages.{page_of, frame_at, swap_of, main_page, swap_page}
use Rattle.model.specs.Table.{entry, ppx, valid, put_out, brought_to}
use Rattle.model.specs.Frames.{page_in, marked, frame}
use Rattle.model.specs.State.{Memory}
use Rattle.model.specs.Translate.{flat_byte}
use Rattle.model.specs.Handler.{out, into, loaded}
use Rattle.model.specs.declared.Shape.{Shape}
use Rattle.model.specs.declared.FrameBook.{FrameBook}
use Rattle.model.specs.declared.VirtualPage.{VirtualPage}
use Rattle.laws.specs.Good.{Fit, SwapLong, Seated, Clean}
use Rattle.laws.proofs.Seated.{in_frames, apart}
use Rattle.laws.proofs.Entries.{valid_out}
use Rattle.laws.proofs.Moves.{page_discrete, out_main_long, out_swap_long, out_fit, out_whole, out_same, out_other, out_frame, out_swap_page, out_flat, into_main_long, into_swap_long, into_same, into_other, into_frame, into_frames, into_flat}
use Rattle.laws.proofs.Seats.{frame_free}

-- ---- the two cases: a frame is free, or none is
pub loaded_free : (s : Shape) (b : FrameBook) (m : Memory) (y : VirtualPage) → b.used < s.frames → loaded s b m y ≡ into s m (frame s.frames b) y
unfolding loaded
loaded_free s b m y q = rw (loaded, lt-ltb _ _ q)

pub loaded_full : (s : Shape) (b : FrameBook) (m : Memory) (y : VirtualPage) → s.frames ≤ b.used
    → loaded s b m y
    ≡ into s (out s m (marked b.marks (frame s.frames b)) (frame s.frames b) (page_in b (frame s.frames b))) (frame s.frames b) y
unfolding loaded
loaded_full s b m y q = rw (loaded, le-ltb _ _ q)

-- ---- the memories after page y came into frame f
pub record Loads (s : Shape) (b : FrameBook) (m : Memory) (y : VirtualPage) (m' : Memory) (f : ℕ) : Type 0 where
  pub main_long : length m'.main ≡ length m.main
  pub swap_long : length m'.swap ≡ length m.swap
  pub new : entry s m'.main y ≡ brought_to (frame_at s f) (entry s m.main y)
  pub gone : s.frames ≤ b.used → entry s m'.main (page_in b f) ≡ put_out (entry s m.main (page_in b f))
  pub stays : (z : VirtualPage) → z.0 < s.ptl → (z ≡ y → ⊥) → (s.frames ≤ b.used → z ≡ page_in b f → ⊥)
      → entry s m'.main z ≡ entry s m.main z
  pub filled : main_page m'.main (frame_at s f) ≡ swap_page m'.swap (swap_of s y)
  pub frames : (i : ℕ) → i < s.frames → (i ≡ f → ⊥) → main_page m'.main (frame_at s i) ≡ main_page m.main (frame_at s i)
  pub backed : (z : VirtualPage) → z.0 < s.ptl → (s.frames ≤ b.used → z ≡ page_in b f → ⊥)
      → swap_page m'.swap (swap_of s z) ≡ swap_page m.swap (swap_of s z)
  pub bytes : (va : ℕ) → (page_of va).0 < s.ptl → flat_byte s m' va ≡ flat_byte s m va

module _ (s : Shape) (b : FrameBook) (m : Memory) (h : Fit s (length m.main)) (w : SwapLong s (length m.swap)) (g : Seated s b m.main)
    (y : VirtualPage) (hy : y.0 < s.ptl) (hv : valid (entry s m.main y) ≡ false) where
  -- y is in no frame
  pub strange : (i : ℕ) → i < b.used → y ≡ page_in b i → ⊥
  strange i q e = true≢false (sym (g.here i q) ∙ ap (λ z. valid (entry s m.main z)) (sym e) ∙ hv)

  -- into a frame f that is not in use
  loads_free : b.used < s.frames → (f : ℕ) → f < s.frames → b.used ≤ f → Loads s b m y (into s m f y) f
  unfolding into
  loads_free q f hf new = record {
    main_long = into_main_long s m h w f y hf hy;
    swap_long = into_swap_long s m h w f y hf hy;
    new = into_same s m h w f y hf hy;
    gone = λ r. absurd (omega (arith, q, r));
    stays = λ z hz n k. into_other s m h w f y hf hy z hz n;
    filled = into_frame s m h w f y hf hy;
    frames = into_frames s m h w f y hf hy;
    backed = λ z hz k. refl;
    bytes = into_flat s m h w f y hf hy hv (λ z hz v. ((in_frames s b m.main g z hz v).0, λ e. vacant z hz v e));
  }
    where
      vacant : (z : VirtualPage) → z.0 < s.ptl → valid (entry s m.main z) ≡ true → (ppx (entry s m.main z)).0 ≡ s.abase + f → ⊥
      vacant z hz v e =
          let t : (i : ℕ) × (i < b.used) × (page_in b i ≡ z) = g.only z hz v in
          let c : s.abase + t.0 ≡ s.abase + f
          = sym (ap (λ x. (ppx (entry s m.main x)).0) (sym t.2) ∙ g.frame_of t.0 t.1) ∙ e in
          omega (arith, c, t.1, new)

  -- into a frame f in use, which its page leaves, copied to swap or the same there
  loads_full : s.frames ≤ b.used → (c : Bool) (f : ℕ) → f < s.frames
      → (c ≡ false → main_page m.main (frame_at s f) ≡ swap_page m.swap (swap_of s (page_in b f)))
      → Loads s b m y (into s (out s m c f (page_in b f)) f y) f
  unfolding into
  loads_full q c f hf clean = record {
    main_long = into_main_long s m₁ fit₁ whole₁ f y hf hy ∙ out_main_long s m h w c f x hf hx;
    swap_long = into_swap_long s m₁ fit₁ whole₁ f y hf hy ∙ out_swap_long s m h w c f x hf hx;
    new = into_same s m₁ fit₁ whole₁ f y hf hy ∙ ap (brought_to (frame_at s f)) (other y (strange f inf));
    gone = λ r. into_other s m₁ fit₁ whole₁ f y hf hy x hx (λ e. strange f inf (sym e)) ∙ same;
    stays = λ z hz n k. into_other s m₁ fit₁ whole₁ f y hf hy z hz n ∙ other z (k q);
    filled = into_frame s m₁ fit₁ whole₁ f y hf hy;
    frames = λ i r n. into_frames s m₁ fit₁ whole₁ f y hf hy i r n ∙ out_frame s m h w c f x hf hx i r;
    backed = λ z hz k. out_swap_page s m h w c f x hf hx z hz (k q);
    bytes = λ va hva.
        into_flat s m₁ fit₁ whole₁ f y hf hy (ap valid (other y (strange f inf)) ∙ hv) vacant va hva
        ∙ out_flat s m h w c f x hf hx (g.here f inf) (g.frame_of f inf) (λ z hz v. (in_frames s b m.main g z hz v).0) clean va hva;
  }
    where
      x : VirtualPage
      x = page_in b f

      inf : f < b.used
      inf = omega (arith, q, hf)

      hx : x.0 < s.ptl
      hx = g.in_table f inf

      m₁ : Memory
      m₁ = out s m c f x

      fit₁ : Fit s (length m₁.main)
      fit₁ = out_fit s m h w c f x hf hx

      whole₁ : SwapLong s (length m₁.swap)
      whole₁ = out_whole s m h w c f x hf hx

      same : entry s m₁.main x ≡ put_out (entry s m.main x)
      same = out_same s m h w c f x hf hx

      other : (z : VirtualPage) → (z ≡ x → ⊥) → entry s m₁.main z ≡ entry s m.main z
      other = out_other s m h w c f x hf hx

      vacant : (z : VirtualPage) → z.0 < s.ptl → valid (entry s m₁.main z) ≡ true
          → (s.abase ≤ (ppx (entry s m₁.main z)).0) × ((ppx (entry s m₁.main z)).0 ≡ s.abase + f → ⊥)
      vacant z hz v = pick (page_discrete z x)
        where
          pick : Dec (z ≡ x) → (s.abase ≤ (ppx (entry s m₁.main z)).0) × ((ppx (entry s m₁.main z)).0 ≡ s.abase + f → ⊥)
          pick (yes e) =
              absurd (true≢false (sym v ∙ ap (λ k. valid (entry s m₁.main k)) e ∙ ap valid same ∙ valid_out (entry s m.main x)))
          pick (no e) =
              let c : entry s m₁.main z ≡ entry s m.main z = other z e in
              let v' : valid (entry s m.main z) ≡ true = ap valid (sym c) ∙ v in (
                subst⁻¹ (λ (k : ℕ). s.abase ≤ (ppx k).0) c (in_frames s b m.main g z hz v').0,
                λ d. e (apart s b m.main g z x hz hx v' (g.here f inf) (ap (λ (k : ℕ). (ppx k).0) (sym c) ∙ d ∙ sym (g.frame_of f inf))),
              )

  pub moved : frame s.frames b < s.frames → Clean s b m → Loads s b m y (loaded s b m y) (frame s.frames b)
  moved hf clean = pick (dec_lt b.used s.frames)
    where
      pick : Dec (b.used < s.frames) → Loads s b m y (loaded s b m y) (frame s.frames b)
      pick (yes q) = rw (loaded_free s b m y q) (loads_free q (frame s.frames b) hf (omega (arith, frame_free s.frames b q)))
      pick (no n) =
          let q : s.frames ≤ b.used = omega (arith, n) in
          let f : ℕ = frame s.frames b in
          rw (loaded_full s b m y q) (loads_full q (marked b.marks f) f hf (clean.equal f (omega (arith, q, hf))))
