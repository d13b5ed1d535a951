-- The two moves of a load: the page in a frame leaves it (`out`), copied to swap or not, and a page comes into a frame (`into`). The
-- lengths, the entries and the pages after each; and the flat memory stays as it is.
use mathlib.Core.Path.{◌≡◌, refl, sym, ap, subst⁻¹, ◌∙◌}
use mathlib.Core.Bool.{Bool, true, false}
use mathlib.Core.List.{List}
use Prim.Native.Nat.{ℕ, ◌+◌, ◌*◌, ◌^◌, ◌<◌, ◌≤◌}
use native.Mathlib.Omega.{arith}
use native.Mathlib.Nat.{mod-lt}
use native.Mathlib.Decide.{ℕ_discrete}
use lib.Dec.{lit<}
use lib.ListN.{length, get_or}
use lib.Seq.{ext_get_or}
use Rattle.model.specs.Bytes.{page, with_page}
use Rattle.model.specs.Pages.{page_of, offset, frame_at, main_at, swap_of, swap_at, main_page, swap_page}
use Rattle.model.specs.Table.{entry, ppx, valid, put_out, brought_to}
use Rattle.model.specs.State.{Memory}
use Rattle.model.specs.Translate.{flat_byte}
use Rattle.model.specs.Handler.{out, into}
use Rattle.model.specs.declared.Shape.{Shape}
use Rattle.model.specs.declared.VirtualPage.{VirtualPage}
use Rattle.laws.specs.Good.{Fit, SwapLong}
use Rattle.laws.specs.Named.{Off}
use Rattle.laws.proofs.Choice.{chosen}
use Rattle.laws.proofs.Bytes.{length-page, get_or-page, length-with_page, with_page_same, with_page_other}
use Rattle.laws.proofs.Seated.{same_page_lem}
use Rattle.laws.proofs.Entries.{ppx_brought, valid_brought, brought_fits, valid_out, out_fits}
use Rattle.laws.proofs.Table.{entry_same, entry_other, entry_page, byte_above, length-entry, flat_here, flat_away, flat_same}

pub page_discrete : (x y : VirtualPage) → Dec (x ≡ y)
page_discrete x y = pick (ℕ_discrete x.0 y.0)
  where
    pick : Dec (x.0 ≡ y.0) → Dec (x ≡ y)
    pick (yes e) = yes (same_page_lem e)
    pick (no n) = no (λ e. n (ap (λ z. z.0) e))

-- a byte of another page
page_other : (l : List ℕ) (p q : ℕ) (b : List ℕ) (k : ℕ) → 4096 * p + 4096 ≤ length l → length b ≡ 4096 → k < 4096 → (q ≡ p → ⊥)
    → get_or (with_page l p b) (4096 * q + k) 0 ≡ get_or l (4096 * q + k) 0
page_other l p q b k h e r n = with_page_other l p b h e (4096 * q + k) (λ z. omega (arith, n, z))

-- two pages are the same where their bytes are
pub page_same : (l l' : List ℕ) (p p' : ℕ) → 4096 * p + 4096 ≤ length l → 4096 * p' + 4096 ≤ length l'
    → ((k : ℕ) → k < 4096 → get_or l (4096 * p + k) 0 ≡ get_or l' (4096 * p' + k) 0) → page l p ≡ page l' p'
page_same l l' p p' h h' e =
    ext_get_or 0 (page l p) (page l' p') (length-page l p h ∙ sym (length-page l' p' h'))
    (λ k q.
    let r : k < 4096 = omega (arith, q, length-page l p h) in
    get_or-page l p k r ∙ e k r ∙ sym (get_or-page l' p' k r))

small_offset : (va : ℕ) → offset va < 4096
small_offset va = mod-lt va (lit< tt)

module _ (s : Shape) (m : Memory) (h : Fit s (length m.main)) (w : SwapLong s (length m.swap)) where
  pub frame_fits : (f : ℕ) → f < s.frames → 4096 * (s.abase + f) + 4096 ≤ length m.main
  frame_fits f hf = omega (arith, h.main_long, h.frames_in)

  pub swap_fits : (x : VirtualPage) → x.0 < s.ptl → 4096 * (swap_of s x).0 + 4096 ≤ length m.swap
  swap_fits x hx = omega (arith, w)

  -- ---- page x leaves frame f, and is copied to swap or not
  module _ (c : Bool) (f : ℕ) (x : VirtualPage) (hf : f < s.frames) (hx : x.0 < s.ptl) where
    pub leaving : length (page m.main (s.abase + f)) ≡ 4096
    leaving = length-page m.main (s.abase + f) (frame_fits f hf)

    pub out_main_long : length (out s m c f x).main ≡ length m.main
    unfolding out
    out_main_long = length-entry s m.main x (put_out (entry s m.main x))

    pub out_swap_long : length (out s m c f x).swap ≡ length m.swap
    unfolding out
    out_swap_long =
        chosen (λ (l : List ℕ). length l ≡ length m.swap) c {y = m.swap}
        (λ e. length-with_page m.swap (swap_of s x).0 _ (swap_fits x hx) (length-page _ _ (omega (arith, h.main_long, h.frames_in, w)))) (λ e. refl)

    pub out_fit : Fit s (length (out s m c f x).main)
    out_fit = subst⁻¹ (λ (n : ℕ). Fit s n) out_main_long h

    pub out_whole : SwapLong s (length (out s m c f x).swap)
    out_whole = out_swap_long ∙ w

    pub out_same : entry s (out s m c f x).main x ≡ put_out (entry s m.main x)
    unfolding out
    out_same = entry_same s m.main h x (put_out (entry s m.main x)) hx (out_fits (entry s m.main x))

    pub out_other : (z : VirtualPage) → (z ≡ x → ⊥) → entry s (out s m c f x).main z ≡ entry s m.main z
    unfolding out
    out_other z n = entry_other s m.main x (put_out (entry s m.main x)) z (λ e. n (same_page_lem e))

    -- a byte of swap that is not in the page that is copied
    pub out_swap_off : (i : ℕ) → (c ≡ true → Off (4096 * (swap_of s x).0) 4096 i) → get_or (out s m c f x).swap i 0 ≡ get_or m.swap i 0
    unfolding out
    out_swap_off i o =
        chosen (λ l. get_or l i 0 ≡ get_or m.swap i 0) c
        (λ e. with_page_other m.swap (swap_of s x).0 _ (swap_fits x hx) (length-page _ _ (omega (arith, h.main_long, h.frames_in, w))) i (o e))
        (λ e. refl)

    out_swap_other : (z : VirtualPage) → (z ≡ x → ⊥) → (k : ℕ) → k < 4096
        → get_or (out s m c f x).swap (4096 * (swap_of s z).0 + k) 0 ≡ get_or m.swap (4096 * (swap_of s z).0 + k) 0
    out_swap_other z n k q =
        let d : z.0 ≡ x.0 → ⊥ = λ e. n (same_page_lem e) in
        out_swap_off (4096 * (swap_of s z).0 + k) (λ e r. omega (arith, q, r, d))

    -- a byte of page x in swap, which has that of the frame also where it is not copied
    out_swap_byte : (c ≡ false → main_page m.main (frame_at s f) ≡ swap_page m.swap (swap_of s x))
        → (k : ℕ) → k < 4096 → get_or (out s m c f x).swap (4096 * (swap_of s x).0 + k) 0 ≡ get_or m.main (4096 * (s.abase + f) + k) 0
    unfolding out
    out_swap_byte same k q =
        chosen (λ l. get_or l (4096 * (swap_of s x).0 + k) 0 ≡ get_or (page m.main (s.abase + f)) k 0) c
        (λ e. with_page_same m.swap (swap_of s x).0 (page m.main (s.abase + f)) (swap_fits x hx) leaving k q)
        (λ e. sym (get_or-page m.swap (swap_of s x).0 k q) ∙ ap (λ l. get_or l k 0) (sym (same e)))
        ∙ get_or-page m.main (s.abase + f) k q

    -- the page of every frame, and of every other page in swap
    pub out_frame : (i : ℕ) → i < s.frames → main_page (out s m c f x).main (frame_at s i) ≡ main_page m.main (frame_at s i)
    unfolding out
    out_frame i q =
        page_same (out s m c f x).main m.main (s.abase + i) (s.abase + i) (omega (arith, out_main_long, frame_fits i q)) (frame_fits i q)
        (λ k r. byte_above s m.main h x (put_out (entry s m.main x)) (4096 * (s.abase + i) + k) hx (omega arith))

    pub out_swap_page : (z : VirtualPage) → z.0 < s.ptl → (z ≡ x → ⊥) → swap_page (out s m c f x).swap (swap_of s z) ≡ swap_page m.swap (swap_of s z)
    out_swap_page z hz n =
        page_same (out s m c f x).swap m.swap (swap_of s z).0 (swap_of s z).0 (omega (arith, out_swap_long, swap_fits z hz)) (swap_fits z hz)
        (out_swap_other z n)

    pub out_flat : valid (entry s m.main x) ≡ true → (ppx (entry s m.main x)).0 ≡ s.abase + f
        → ((z : VirtualPage) → z.0 < s.ptl → valid (entry s m.main z) ≡ true → s.abase ≤ (ppx (entry s m.main z)).0)
        → (c ≡ false → main_page m.main (frame_at s f) ≡ swap_page m.swap (swap_of s x))
        → (va : ℕ) → (page_of va).0 < s.ptl → flat_byte s (out s m c f x) va ≡ flat_byte s m va
    unfolding out
    out_flat hv hp above same va hva = pick (page_discrete (page_of va) x)
      where
        pick : Dec (page_of va ≡ x) → flat_byte s (out s m c f x) va ≡ flat_byte s m va
        pick (yes q) =
            flat_away s (out s m c f x) va (ap (λ z. valid (entry s (out s m c f x).main z)) q ∙ ap valid out_same ∙ valid_out (entry s m.main x))
            ∙ ap (λ z. get_or (out s m c f x).swap (swap_at (swap_of s z) (offset va)) 0) q
            ∙ out_swap_byte same (offset va) (small_offset va)
            ∙ ap (λ (i : ℕ). get_or m.main (4096 * i + offset va) 0) (sym (ap (λ z. (ppx (entry s m.main z)).0) q ∙ hp))
            ∙ sym (flat_here s m va (ap (λ z. valid (entry s m.main z)) q ∙ hv))
        pick (no q) =
            flat_same s m (out s m c f x) va (out_other (page_of va) q)
            (λ v. byte_above s m.main h x (put_out (entry s m.main x)) (main_at (ppx (entry s m.main (page_of va))) (offset va)) hx
            (omega (arith, above (page_of va) hva v)))
            (λ v. out_swap_other (page_of va) q (offset va) (small_offset va))

  -- ---- page y comes into frame f
  module _ (f : ℕ) (y : VirtualPage) (hf : f < s.frames) (hy : y.0 < s.ptl) where
    pub coming : length (page m.swap (swap_of s y).0) ≡ 4096
    coming = length-page m.swap (swap_of s y).0 (swap_fits y hy)

    -- main memory between the copy and the entry
    copied : List ℕ
    copied = with_page m.main (s.abase + f) (page m.swap (swap_of s y).0)

    copied_long : length copied ≡ length m.main
    unfolding copied
    copied_long = length-with_page m.main (s.abase + f) (page m.swap (swap_of s y).0) (frame_fits f hf) coming

    copied_fit : Fit s (length copied)
    copied_fit = subst⁻¹ (λ (n : ℕ). Fit s n) copied_long h

    copied_entry : (z : VirtualPage) → z.0 < s.ptl → entry s copied z ≡ entry s m.main z
    unfolding copied
    copied_entry z hz = entry_page s m.main h (s.abase + f) (page m.swap (swap_of s y).0) z hz (omega arith) (frame_fits f hf) coming

    small_frame : s.abase + f < 2 ^ 20
    small_frame = omega (arith, h.frames_in, h.pages_most)

    pub into_main_long : length (into s m f y).main ≡ length m.main
    unfolding into copied
    into_main_long = length-entry s copied y (brought_to (frame_at s f) (entry s copied y)) ∙ copied_long

    pub into_swap_long : length (into s m f y).swap ≡ length m.swap
    unfolding into
    into_swap_long = refl

    pub into_same : entry s (into s m f y).main y ≡ brought_to (frame_at s f) (entry s m.main y)
    unfolding into copied
    into_same =
        entry_same s copied copied_fit y (brought_to (frame_at s f) (entry s copied y)) hy (brought_fits (frame_at s f) (entry s copied y) small_frame)
        ∙ ap (brought_to (frame_at s f)) (copied_entry y hy)

    pub into_other : (z : VirtualPage) → z.0 < s.ptl → (z ≡ y → ⊥) → entry s (into s m f y).main z ≡ entry s m.main z
    unfolding into copied
    into_other z hz n =
        entry_other s copied y (brought_to (frame_at s f) (entry s copied y)) z (λ e. n (same_page_lem e)) ∙ copied_entry z hz

    -- a byte at or behind the frames
    into_byte : (i : ℕ) → 4096 * s.abase ≤ i → get_or (into s m f y).main i 0 ≡ get_or copied i 0
    unfolding into copied
    into_byte i a = byte_above s copied copied_fit y (brought_to (frame_at s f) (entry s copied y)) i hy a

    -- the page of the frame, and of every other frame
    pub into_frame : main_page (into s m f y).main (frame_at s f) ≡ swap_page m.swap (swap_of s y)
    unfolding copied
    into_frame =
        page_same (into s m f y).main m.swap (s.abase + f) (swap_of s y).0 (omega (arith, into_main_long, frame_fits f hf)) (swap_fits y hy)
        (λ k q.
        into_byte (4096 * (s.abase + f) + k) (omega arith)
        ∙ with_page_same m.main (s.abase + f) (page m.swap (swap_of s y).0) (frame_fits f hf) coming k q
        ∙ get_or-page m.swap (swap_of s y).0 k q)

    pub into_frames : (i : ℕ) → i < s.frames → (i ≡ f → ⊥) → main_page (into s m f y).main (frame_at s i) ≡ main_page m.main (frame_at s i)
    unfolding copied
    into_frames i q n =
        page_same (into s m f y).main m.main (s.abase + i) (s.abase + i) (omega (arith, into_main_long, frame_fits i q)) (frame_fits i q)
        (λ k r.
        into_byte (4096 * (s.abase + i) + k) (omega arith)
        ∙ page_other m.main (s.abase + f) (s.abase + i) (page m.swap (swap_of s y).0) k (frame_fits f hf) coming r (λ e. n (omega (arith, e))))

    -- no valid entry names the frame
    pub into_flat : valid (entry s m.main y) ≡ false
        → ((z : VirtualPage) → z.0 < s.ptl → valid (entry s m.main z) ≡ true
        → (s.abase ≤ (ppx (entry s m.main z)).0) × ((ppx (entry s m.main z)).0 ≡ s.abase + f → ⊥))
        → (va : ℕ) → (page_of va).0 < s.ptl → flat_byte s (into s m f y) va ≡ flat_byte s m va
    unfolding into copied
    into_flat hv vacant va hva = pick (page_discrete (page_of va) y)
      where
        pick : Dec (page_of va ≡ y) → flat_byte s (into s m f y) va ≡ flat_byte s m va
        pick (yes q) =
            let e : entry s (into s m f y).main (page_of va) ≡ brought_to (frame_at s f) (entry s m.main y)
            = ap (λ z. entry s (into s m f y).main z) q ∙ into_same in
            flat_here s (into s m f y) va (ap valid e ∙ valid_brought (frame_at s f) (entry s m.main y))
            ∙ ap (λ (i : ℕ). get_or (into s m f y).main (4096 * i + offset va) 0)
            (ap (λ (k : ℕ). (ppx k).0) e ∙ ppx_brought (frame_at s f) (entry s m.main y) small_frame)
            ∙ into_byte (4096 * (s.abase + f) + offset va) (omega arith)
            ∙ with_page_same m.main (s.abase + f) (page m.swap (swap_of s y).0) (frame_fits f hf) coming (offset va) (small_offset va)
            ∙ get_or-page m.swap (swap_of s y).0 (offset va) (small_offset va)
            ∙ ap (λ z. get_or m.swap (swap_at (swap_of s z) (offset va)) 0) (sym q)
            ∙ sym (flat_away s m va (ap (λ z. valid (entry s m.main z)) q ∙ hv))
        pick (no q) =
            flat_same s m (into s m f y) va (into_other (page_of va) hva q)
            (λ v. into_byte (main_at (ppx (entry s m.main (page_of va))) (offset va)) (omega (arith, (vacant (page_of va) hva v).0))
            ∙ page_other m.main (s.abase + f) (ppx (entry s m.main (page_of va))).0 (page m.swap (swap_of s y).0) (offset va)
            (frame_fits f hf) coming (small_offset va) (vacant (page_of va) hva v).1)
            (λ v. refl)
