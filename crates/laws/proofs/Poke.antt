-- One byte that the host writes: it goes where the flat memory has it, in a frame or in swap (`poke_flat`); the table stays, and so does
-- main memory outside the frames (`poke_kept`). It marks the frame of its page (`mark_for_lem`), and what has no mark stays as in swap
-- (`poke_clean`).
use mathlib.Core.Path.{◌≡◌, refl, sym, ap, subst⁻¹, ◌∙◌}
use mathlib.Core.Logic.{◌↔◌, ◌⊎◌, inl, inr, ⊎_elim}
use mathlib.Core.Bool.{Bool, true, false, true≢false}
use mathlib.Core.List.{List}
use Prim.Native.Nat.{ℕ, ◌+◌, ◌*◌, ◌^◌, ◌<◌, ◌≤◌}
use native.Mathlib.Omega.{arith}
use native.Mathlib.Decide.{ℕ_discrete}
use lib.ListN.{length, get_or, set, length-set}
use lib.Seq.{get_or-set_same, get_or-set_other, ext_get_or}
use borrow.Author.Tests.{eq-eqb, ne_eqb}
use Rattle.model.specs.Words.{field}
use Rattle.model.specs.Pages.{virtual, page_of, offset, frame_at, main_at, frame_in, swap_of, swap_at, main_page, swap_page}
use Rattle.model.specs.Table.{entry, ppx, valid}
use Rattle.model.specs.Frames.{page_in, marked, with_mark, remarked}
use Rattle.model.specs.State.{Memory}
use Rattle.model.specs.Translate.{flat_byte}
use Rattle.model.specs.Flat.{rights_byte, flat_bytes, flat_rights}
use Rattle.model.specs.Calls.{poke, mark_for}
use Rattle.model.specs.declared.Shape.{Shape}
use Rattle.model.specs.declared.FrameBook.{FrameBook}
use Rattle.model.specs.declared.VirtualPage.{VirtualPage}
use Rattle.laws.specs.Good.{Fit, SwapLong, Seated, Clean, Safe}
use Rattle.laws.proofs.Choice.{chosen, length-below, below_same}
use Rattle.laws.proofs.Marks.{mark_here, mark_other, mark_most}
use Rattle.laws.specs.Named.{Off}
use Rattle.laws.proofs.Entries.{same_place}
use Rattle.laws.proofs.Seated.{same_page_lem, in_frames, apart, seated_over}
use Rattle.laws.proofs.Table.{entry_off, flat_here, flat_away, flat_same}
use Rattle.laws.proofs.Access.{bytes_at}
use Rattle.laws.proofs.Moves.{page_same, frame_fits, swap_fits}

-- ---- what a host write keeps
pub record Kept (s : Shape) (m m' : Memory) : Type 0 where
  pub main_long : length m'.main ≡ length m.main
  pub swap_long : length m'.swap ≡ length m.swap
  pub off : (j : ℕ) → Off (4096 * s.abase) (4096 * s.frames) j → get_or m'.main j 0 ≡ get_or m.main j 0

module _ (s : Shape) (m m' : Memory) (fit : Fit s (length m.main)) (k : Kept s m m') where
  pub kept_entry : (x : VirtualPage) → x.0 < s.ptl → entry s m'.main x ≡ entry s m.main x
  kept_entry = entry_off s m.main m'.main fit k.off

  pub kept_rights : flat_rights s m'.main ≡ flat_rights s m.main
  kept_rights = below_same s.ptl _ _ (λ x h. ap rights_byte (kept_entry (virtual x) h))

  pub kept_fit : Fit s (length m'.main)
  kept_fit = subst⁻¹ (λ (n : ℕ). Fit s n) k.main_long fit

  pub kept_seated : (b : FrameBook) → Seated s b m.main → Seated s b m'.main
  kept_seated b g = seated_over s b m.main m'.main (λ x h. same_place (kept_entry x h)) g

  -- a valid entry still names a frame
  pub kept_safe : Safe s m.main → Safe s m'.main
  kept_safe safe = record {
    fit = kept_fit;
    framed = λ x h v.
        subst⁻¹ (λ (e : ℕ). (s.abase ≤ (ppx e).0) × ((ppx e).0 < s.abase + s.frames)) (kept_entry x h)
        (safe.framed x h (ap valid (sym (kept_entry x h)) ∙ v));
  }

-- ---- one byte
module _ (s : Shape) (m : Memory) (va x : ℕ) where
  -- where the page is in a frame, and where it is in swap
  abbrev in_main : ℕ
  in_main = main_at (ppx (entry s m.main (page_of va))) (offset va)

  abbrev in_swap : ℕ
  in_swap = swap_at (swap_of s (page_of va)) (offset va)

  pub poke_here : valid (entry s m.main (page_of va)) ≡ true → poke s m va x ≡ record { main = set m.main in_main x; swap = m.swap }
  unfolding poke
  poke_here v = rw (poke, v)

  pub poke_away : valid (entry s m.main (page_of va)) ≡ false → poke s m va x ≡ record { main = m.main; swap = set m.swap in_swap x }
  unfolding poke
  poke_away v = rw (poke, v)

  -- the two cases
  by_page : (P : Memory → Type 0)
      → (valid (entry s m.main (page_of va)) ≡ true → P (record { main = set m.main in_main x; swap = m.swap }))
      → (valid (entry s m.main (page_of va)) ≡ false → P (record { main = m.main; swap = set m.swap in_swap x }))
      → P (poke s m va x)
  by_page P here away = pick (valid (entry s m.main (page_of va))) refl
    where
      pick : (c : Bool) → valid (entry s m.main (page_of va)) ≡ c → P (poke s m va x)
      pick true v = subst⁻¹ P (poke_here v) (here v)
      pick false v = subst⁻¹ P (poke_away v) (away v)

  module _ (safe : Safe s m.main) (inside : (page_of va).0 < s.ptl) where
    framed : valid (entry s m.main (page_of va)) ≡ true → (4096 * s.abase ≤ in_main) × (in_main < 4096 * (s.abase + s.frames))
    framed v =
        let f : (s.abase ≤ (ppx (entry s m.main (page_of va))).0) × ((ppx (entry s m.main (page_of va))).0 < s.abase + s.frames)
        = safe.framed (page_of va) inside v in
        (omega arith, omega arith)

    pub poke_kept : Kept s m (poke s m va x)
    poke_kept =
        by_page (Kept s m)
        (λ v. record {
          main_long = length-set m.main in_main x;
          swap_long = refl;
          off = λ j o. get_or-set_other m.main in_main j x 0 (λ e. omega (arith, framed v, o (omega (arith, framed v))));
        })
        (λ v. record { main_long = refl; swap_long = length-set m.swap in_swap x; off = λ j o. refl })

-- ---- its mark
-- the frame of va's page, where it is in one
module _ (s : Shape) (b : FrameBook) (main : List ℕ) (g : Seated s b main) (va : ℕ) (inside : (page_of va).0 < s.ptl) (marks : ℕ) where
  abbrev its : ℕ
  its = frame_in s (ppx (entry s main (page_of va)))

  seat : valid (entry s main (page_of va)) ≡ true → (its < b.used) × (page_in b its ≡ page_of va)
  seat v =
      let t : (i : ℕ) × (i < b.used) × (page_in b i ≡ page_of va) = g.only (page_of va) inside v in
      let e : its ≡ t.0 = omega (arith, ap (λ x. (ppx (entry s main x)).0) (sym t.2) ∙ g.frame_of t.0 t.1) in
      (omega (arith, e, t.1), ap (page_in b) e ∙ t.2)

  pub mark_for_lem : (f : ℕ) → f < b.used → (marked (mark_for s main va marks) f ≡ true) ↔ ((marked marks f ≡ true) ⊎ (page_of va ≡ page_in b f))
  unfolding mark_for
  mark_for_lem f q =
      chosen (λ k. (marked k f ≡ true) ↔ ((marked marks f ≡ true) ⊎ (page_of va ≡ page_in b f))) (valid (entry s main (page_of va)))
      (λ v. here v (ℕ_discrete f its))
      (λ v. (λ h. inl h, ⊎_elim (λ h. h) (λ e. absurd (true≢false (sym (g.here f q) ∙ ap (λ x. valid (entry s main x)) (sym e) ∙ v)))))
    where
      here : valid (entry s main (page_of va)) ≡ true → Dec (f ≡ its)
          → (marked (with_mark marks its) f ≡ true) ↔ ((marked marks f ≡ true) ⊎ (page_of va ≡ page_in b f))
      here v (yes e) = (λ h. inr (sym (seat v).1 ∙ ap (page_in b) (sym e)), λ h. ap (marked (with_mark marks its)) e ∙ mark_here marks its)
      here v (no n) = (
        λ h. inl (sym (mark_other marks its f n) ∙ h),
        ⊎_elim (λ h. mark_other marks its f n ∙ h) (λ e. absurd (n (g.differ f its q (seat v).0 (sym e ∙ sym (seat v).1)))),
      )

  pub mark_for_most : marks < 2 ^ b.used → mark_for s main va marks < 2 ^ b.used
  unfolding mark_for
  mark_for_most h =
      chosen (λ k. k < 2 ^ b.used) (valid (entry s main (page_of va))) (λ v. mark_most b.used marks its h (seat v).0) (λ v. h)

module _ (s : Shape) (b : FrameBook) (m : Memory) (fit : Fit s (length m.main)) (whole : SwapLong s (length m.swap)) (g : Seated s b m.main)
    (va x : ℕ) (inside : (page_of va).0 < s.ptl) where
  safe : Safe s m.main
  safe = record { fit = fit; framed = in_frames s b m.main g }

  abbrev at_main : ℕ
  at_main = in_main s m va x

  abbrev at_swap : ℕ
  at_swap = in_swap s m va x

  table_kept : (y : VirtualPage) → y.0 < s.ptl → entry s (poke s m va x).main y ≡ entry s m.main y
  table_kept = kept_entry s m (poke s m va x) fit (poke_kept s m va x safe inside)

  -- the byte itself, and another
  poke_same : flat_byte s (poke s m va x) va ≡ x
  poke_same =
      by_page s m va x (λ m'. entry s m'.main (page_of va) ≡ entry s m.main (page_of va) → flat_byte s m' va ≡ x)
      (λ v e. flat_here s _ va (ap valid e ∙ v) ∙ ap (λ (k : ℕ). get_or (set m.main at_main x) (main_at (ppx k) (offset va)) 0) e
      ∙ get_or-set_same m.main at_main x 0 (omega (arith, framed s m va x safe inside v, fit.frames_in, fit.main_long)))
      (λ v e. flat_away s _ va (ap valid e ∙ v) ∙ get_or-set_same m.swap at_swap x 0 (omega (arith, whole, inside)))
      (table_kept (page_of va) inside)

  poke_other : (j : ℕ) → j < 4096 * s.ptl → (j ≡ va → ⊥) → flat_byte s (poke s m va x) j ≡ flat_byte s m j
  poke_other j h n =
      by_page s m va x (λ m'. entry s m'.main (page_of j) ≡ entry s m.main (page_of j) → flat_byte s m' j ≡ flat_byte s m j)
      (λ v e. flat_same s m _ j e (λ w. get_or-set_other m.main at_main (main_at (ppx (entry s m.main (page_of j))) (offset j)) x 0 (main_apart v w)) (λ w. refl))
      (λ v e. flat_same s m _ j e (λ w. refl) (λ w. get_or-set_other m.swap at_swap (swap_at (swap_of s (page_of j)) (offset j)) x 0 (λ q. n (omega (arith, q)))))
      (table_kept (page_of j) (omega arith))
    where
      main_apart : valid (entry s m.main (page_of va)) ≡ true → valid (entry s m.main (page_of j)) ≡ true
          → main_at (ppx (entry s m.main (page_of j))) (offset j) ≡ at_main → ⊥
      main_apart v w q =
          let c : page_of j ≡ page_of va = apart s b m.main g (page_of j) (page_of va) (omega arith) inside w v (omega (arith, q)) in
          n (omega (arith, q, ap (λ (z : VirtualPage). z.0) c))

  pub poke_flat : flat_bytes s (poke s m va x) ≡ set (flat_bytes s m) va x
  poke_flat =
      ext_get_or 0 (flat_bytes s (poke s m va x)) (set (flat_bytes s m) va x) (simp (length-set, length-below))
      (λ j h. let l : j < 4096 * s.ptl = simp length-below at h in bytes_at s (poke s m va x) j l ∙ pick j l (ℕ_discrete j va))
    where
      pick : (j : ℕ) → j < 4096 * s.ptl → Dec (j ≡ va) → flat_byte s (poke s m va x) j ≡ get_or (set (flat_bytes s m) va x) j 0
      pick j l (yes e) =
          ap (flat_byte s (poke s m va x)) e ∙ poke_same
          ∙ sym (ap (λ (k : ℕ). get_or (set (flat_bytes s m) va x) k 0) e
          ∙ get_or-set_same (flat_bytes s m) va x 0 (omega (arith, inside, length-below (4096 * s.ptl) (λ z. flat_byte s m z))))
      pick j l (no n) = poke_other j l n ∙ sym (get_or-set_other (flat_bytes s m) va j x 0 n ∙ bytes_at s m j l)

  -- ---- what has no mark
  -- a page with no byte written
  frame_on : (i : ℕ) → i < b.used → (page_of va ≡ page_in b i → ⊥) → valid (entry s m.main (page_of va)) ≡ true
      → main_page (set m.main at_main x) (frame_at s i) ≡ main_page m.main (frame_at s i)
  frame_on i q n v =
      let here : 4096 * (s.abase + i) + 4096 ≤ length m.main = frame_fits s m fit whole i (omega (arith, g.booked.used_most)) in
      page_same (set m.main at_main x) m.main (s.abase + i) (s.abase + i) (omega (arith, here, length-set m.main at_main x)) here
      (λ k r. get_or-set_other m.main at_main (4096 * (s.abase + i) + k) x 0 (λ e.
      n (apart s b m.main g (page_of va) (page_in b i) inside (g.in_table i q) v (g.here i q) (omega (arith, e, r, g.frame_of i q)))))

  swap_on : (y : VirtualPage) → y.0 < s.ptl → (page_of va ≡ y → ⊥)
      → swap_page (set m.swap at_swap x) (swap_of s y) ≡ swap_page m.swap (swap_of s y)
  swap_on y q n =
      let here : 4096 * (swap_of s y).0 + 4096 ≤ length m.swap = swap_fits s m fit whole y q in
      page_same (set m.swap at_swap x) m.swap (swap_of s y).0 (swap_of s y).0 (omega (arith, here, length-set m.swap at_swap x)) here
      (λ k r. get_or-set_other m.swap at_swap (4096 * (swap_of s y).0 + k) x 0 (λ e. n (same_page_lem (omega (arith, e, r)))))

  pub poke_clean : (marks : ℕ) → Clean s (remarked b marks) m → Clean s (remarked b (mark_for s m.main va marks)) (poke s m va x)
  poke_clean marks c = record {
    equal = λ i q u.
        let is = mark_for_lem s b m.main g va inside marks i q in
        let n : page_of va ≡ page_in b i → ⊥ = λ e. true≢false (sym (is.1 (inr e)) ∙ u) in
        let e : main_page m.main (frame_at s i) ≡ swap_page m.swap (swap_of s (page_in b i))
        = c.equal i q (ne_eqb (field i 1 marks) 1 (λ d. true≢false (sym (is.1 (inl (eq-eqb (field i 1 marks) 1 d))) ∙ u))) in
        by_page s m va x (λ m'. main_page m'.main (frame_at s i) ≡ swap_page m'.swap (swap_of s (page_in b i)))
        (λ v. frame_on i q n v ∙ e) (λ v. e ∙ sym (swap_on (page_in b i) (g.in_table i q) n));
    unused = mark_for_most s b m.main g va inside marks c.unused;
  }
