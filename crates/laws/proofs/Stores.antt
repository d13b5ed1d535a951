-- A store by an access of the paged machine is that store in the flat memory. The rights stay, and so does main memory outside the
-- frames. With the mark of its frame set, what has no mark is as in swap (`clean_kept`).
use mathlib.Core.Path.{◌≡◌, refl, sym, ap, ap₂, subst, ◌∙◌}
use mathlib.Core.Bool.{true, true≢false}
use mathlib.Core.List.{List}
use Prim.Native.Nat.{ℕ, ◌+◌, ◌-◌, ◌*◌, ◌/◌, ◌<◌, ◌≤◌}
use native.Mathlib.Omega.{arith}
use native.Mathlib.Decide.{dec_lt, ℕ_discrete}
use lib.ListN.{length, get_or}
use lib.Seq.{ext_get_or}
use Rattle.model.specs.Words.{aligned}
use Rattle.model.specs.Bytes.{store}
use Rattle.model.specs.Pages.{virtual, page_of, offset, entry_at, main_at, main_page, main_page_of, frame_at, frame_in}
use Rattle.model.specs.Table.{entry, ppx, valid}
use Rattle.model.specs.Frames.{page_in, marked, with_mark, remarked}
use Rattle.model.specs.State.{Memory}
use Rattle.model.specs.Translate.{translate, flat_byte}
use Rattle.model.specs.Attempt.{Width, size}
use Rattle.model.specs.Flat.{rights_byte, flat_bytes, flat_rights}
use Rattle.model.specs.declared.Shape.{Shape}
use Rattle.model.specs.declared.FrameBook.{FrameBook}
use Rattle.model.specs.declared.VirtualPage.{VirtualPage}
use Rattle.model.specs.declared.Access.TheVariants.{At}
use Rattle.laws.specs.Good.{Fit, Seated, Clean, Safe}
use Rattle.laws.proofs.Choice.{length-below, below_same}
use Rattle.laws.specs.Named.{Off}
use Rattle.laws.proofs.Bytes.{number_same, store_other, store_same, length-store, length-page, get_or-page}
use Rattle.laws.proofs.Marks.{mark_here, mark_other, mark_most}
use Rattle.laws.proofs.Seated.{same_page_lem, in_frames, apart}
use Rattle.laws.proofs.Table.{flat_here, flat_same}
use Rattle.laws.proofs.Access.{Through, through, ends, within, bytes_at}

abbrev stored : Memory → Width → ℕ → ℕ → Memory
stored m width i v = record { main = store (size width) m.main i v; swap = m.swap }

module _ (s : Shape) (main : List ℕ) (h : Safe s main) (width : Width) (va i v : ℕ)
    (a : aligned (size width) va ≡ true) (q : translate s main true va ≡ At i) where
  -- the store stays in its frame
  in_frame : (4096 * s.abase ≤ i) × (i + size width ≤ 4096 * (s.abase + s.frames))
  in_frame =
      let t : Through s main true va i = through s main true va i q in
      let f : (s.abase ≤ (ppx (entry s main (page_of va))).0) × ((ppx (entry s main (page_of va))).0 < s.abase + s.frames)
      = h.framed (page_of va) t.inside t.here in
      (omega (arith, t.at), omega (arith, t.at, ends width va a))

  pub store_off : (j : ℕ) → Off (4096 * s.abase) (4096 * s.frames) j → get_or (store (size width) main i v) j 0 ≡ get_or main j 0
  store_off j o = store_other (size width) main i v j 0 (λ r. omega (arith, in_frame, o (omega (arith, in_frame))))

  pub entry_kept : (x : VirtualPage) → x.0 < s.ptl → entry s (store (size width) main i v) x ≡ entry s main x
  unfolding entry
  entry_kept x r =
      number_same 4 (store (size width) main i v) main (entry_at s x) (entry_at s x)
      (λ k l. store_off (entry_at s x + k) (λ z. absurd (omega (arith, z, h.fit.table_in))))

  pub rights_kept : flat_rights s (store (size width) main i v) ≡ flat_rights s main
  rights_kept = below_same s.ptl _ _ (λ x r. ap rights_byte (entry_kept (virtual x) r))

module _ (s : Shape) (b : FrameBook) (m : Memory) (fit : Fit s (length m.main)) (g : Seated s b m.main)
    (width : Width) (va i v : ℕ) (a : aligned (size width) va ≡ true) (q : translate s m.main true va ≡ At i) where
  t : Through s m.main true va i
  t = through s m.main true va i q

  f : Safe s m.main
  f = record { fit = fit; framed = in_frames s b m.main g }

  -- a byte of main memory that another address names
  untouched : (j : ℕ) → (page_of j).0 < s.ptl → valid (entry s m.main (page_of j)) ≡ true → Off va (size width) j
      → get_or (store (size width) m.main i v) (main_at (ppx (entry s m.main (page_of j))) (offset j)) 0
      ≡ get_or m.main (main_at (ppx (entry s m.main (page_of j))) (offset j)) 0
  untouched j h here far = store_other (size width) m.main i v _ 0 (pick (ℕ_discrete (page_of j).0 (page_of va).0))
    where
      pick : Dec ((page_of j).0 ≡ (page_of va).0) → Off i (size width) (main_at (ppx (entry s m.main (page_of j))) (offset j))
      pick (yes e) r =
          let c : (ppx (entry s m.main (page_of j))).0 ≡ (ppx (entry s m.main (page_of va))).0 = ap (λ x. (ppx (entry s m.main x)).0) (same_page_lem e) in
          omega (arith, t.at, far (omega (arith, t.at)))
      pick (no n) r =
          let c : (ppx (entry s m.main (page_of j))).0 ≡ (ppx (entry s m.main (page_of va))).0 → ⊥
          = λ d. n (ap (λ (x : VirtualPage). x.0) (apart s b m.main g (page_of j) (page_of va) h t.inside here t.here d)) in
          omega (arith, c, t.at, ends width va a)

  -- a byte that is not stored, and one that is
  elsewhere : (j : ℕ) → j < 4096 * s.ptl → Off va (size width) j → flat_byte s (stored m width i v) j ≡ get_or (store (size width) (flat_bytes s m) va v) j 0
  elsewhere j h far =
      flat_same s m (stored m width i v) j (entry_kept s m.main f width va i v a q (page_of j) (omega arith)) (λ here. untouched j (omega arith) here far) (λ away. refl)
      ∙ sym (store_other (size width) (flat_bytes s m) va v j 0 far ∙ bytes_at s m j h)

  there : (k : ℕ) → k < size width → flat_byte s (stored m width i v) (va + k) ≡ get_or (store (size width) (flat_bytes s m) va v) (va + k) 0
  there k h =
      let w : (page_of (va + k) ≡ page_of va) × (offset (va + k) ≡ offset va + k) = within s m width va k a h in
      let c : entry s (stored m width i v).main (page_of (va + k)) ≡ entry s m.main (page_of va)
      = ap (entry s (stored m width i v).main) w.0 ∙ entry_kept s m.main f width va i v a q (page_of va) t.inside in
      flat_here s (stored m width i v) (va + k) (ap valid c ∙ t.here)
      ∙ ap₂ (λ (x y : ℕ). get_or (store (size width) m.main i v) (main_at (ppx x) y) 0) c w.1
      ∙ ap (λ (x : ℕ). get_or (store (size width) m.main i v) x 0) (omega (arith, t.at))
      ∙ store_same (size width) m.main (flat_bytes s m) i va v k 0 h
      (omega (arith, in_frame s m.main f width va i v a q, fit.frames_in, fit.main_long))
      (omega (arith, ends width va a, t.inside, length-below (4096 * s.ptl) (λ z. flat_byte s m z)))

  pub bytes_kept : flat_bytes s (record { main = store (size width) m.main i v; swap = m.swap }) ≡ store (size width) (flat_bytes s m) va v
  bytes_kept =
      ext_get_or 0 (flat_bytes s (stored m width i v)) (store (size width) (flat_bytes s m) va v)
      (simp (length-store, length-below))
      (λ j h. let l : j < 4096 * s.ptl = simp length-below at h in
      bytes_at s (stored m width i v) j l ∙ pick j l (dec_lt j va) (dec_lt j (va + size width)))
    where
      pick : (j : ℕ) → j < 4096 * s.ptl → Dec (j < va) → Dec (j < va + size width)
          → flat_byte s (stored m width i v) j ≡ get_or (store (size width) (flat_bytes s m) va v) j 0
      pick j l (no n) (yes r) =
          subst (λ (z : ℕ). flat_byte s (stored m width i v) z ≡ get_or (store (size width) (flat_bytes s m) va v) z 0) (omega (arith, n)) (there (j - va) (omega (arith, n)))
      pick j l (yes r) d = elsewhere j l (λ z. omega (arith, z))
      pick j l (no n) (no r) = elsewhere j l (λ z. omega (arith, r))

  -- ---- the frame that is stored to
  abbrev f₀ : ℕ
  f₀ = frame_in s (main_page_of i)

  in_use : (k : ℕ) × (k < b.used) × (i / 4096 ≡ s.abase + k)
  in_use =
      let r : (k : ℕ) × (k < b.used) × (page_in b k ≡ page_of va) = g.only (page_of va) t.inside t.here in
      let e : (ppx (entry s m.main (page_of va))).0 ≡ s.abase + r.0 = ap (λ x. (ppx (entry s m.main x)).0) (sym r.2) ∙ g.frame_of r.0 r.1 in
      (r.0, r.1, omega (arith, e, t.at))

  -- the pages in the others stay
  other_frame : (j : ℕ) → j < b.used → (j ≡ f₀ → ⊥) → main_page (store (size width) m.main i v) (frame_at s j) ≡ main_page m.main (frame_at s j)
  other_frame j h n =
      ext_get_or 0 _ _ (long (store (size width) m.main i v) (length-store (size width) m.main i v) ∙ sym (long m.main refl))
      (λ k q. let l : k < 4096 = omega (arith, q, long (store (size width) m.main i v) (length-store (size width) m.main i v)) in
      get_or-page _ _ k l ∙ store_other (size width) m.main i v _ 0 (λ z. omega (arith, z, n, l, in_use.2, t.at, ends width va a)) ∙ sym (get_or-page _ _ k l))
    where
      long : (l : List ℕ) → length l ≡ length m.main → length (main_page l (frame_at s j)) ≡ 4096
      long l e = length-page l (s.abase + j) (omega (arith, e, h, g.booked.used_most, fit.main_long, fit.frames_in))

  pub clean_kept : Clean s b m → Clean s (remarked b (with_mark b.marks f₀)) (stored m width i v)
  clean_kept c = record {
    equal = λ j h e. let n : j ≡ f₀ → ⊥ = λ z. true≢false (sym (mark_here b.marks f₀) ∙ ap (marked (with_mark b.marks f₀)) (sym z) ∙ e) in
        other_frame j h n ∙ c.equal j h (sym (mark_other b.marks f₀ j n) ∙ e);
    unused = mark_most b.used b.marks f₀ c.unused (omega (arith, in_use.1, in_use.2));
  }
