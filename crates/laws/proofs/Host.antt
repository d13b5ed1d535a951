-- The host's transfers and the page view against the flat memory: a write is that store in the flat memory (`wrote`), a read hands out
-- the flat bytes (`read_flat`), a view the flat page (`view_flat`). A write marks the frames whose pages get a byte (`marks_for_lem`), which
-- are those of its first and its last (`marks_ends`); what has no mark stays as in swap (`clean_to`).
use mathlib.Core.Path.{◌≡◌, refl, sym, ap, subst, ◌∙◌}
use mathlib.Core.Logic.{◌↔◌, ◌⊎◌, inl, inr, ⊎_elim}
use mathlib.Core.Bool.{Bool, true, false, ◌&&◌}
use mathlib.Core.List.{List, [], ◌∷◌, ◌++◌}
use Prim.Native.Nat.{ℕ, zero, suc, ◌+◌, ◌-◌, ◌*◌, ◌<◌, ◌≤◌}
use native.Mathlib.Omega.{arith}
use native.Mathlib.Nat.{add-zero, add-suc, suc-add, not-suc-le-zero}
use native.Mathlib.Decide.{ℕ_discrete}
use lib.Dec.{ltb}
use lib.ListN.{length, take, drop}
use lib.Seq.{sets, sets-eq, paste-zero}
use borrow.Author.Tests.{ltb-true}
use Rattle.model.specs.Choice.{list_below}
use Rattle.std.specs.Prelude.{if◌then◌else◌}
use Rattle.model.specs.Bytes.{page}
use Rattle.model.specs.Pages.{page_of, offset, first_va, main_at, frame_in}
use Rattle.model.specs.Table.{entry, ppx, valid}
use Rattle.model.specs.Frames.{page_in, marked, with_mark, remarked}
use Rattle.model.specs.State.{Memory}
use Rattle.model.specs.Translate.{has, translate, legal, flat_byte}
use Rattle.model.specs.Flat.{flat_bytes}
use Rattle.model.specs.Calls.{permitted, bytes_from, poke, bytes_to, mark_for, marks_for, page_bytes}
use Rattle.model.specs.declared.Shape.{Shape}
use Rattle.model.specs.declared.FrameBook.{FrameBook}
use Rattle.model.specs.declared.VirtualPage.{VirtualPage}
use Rattle.model.specs.declared.Access.TheVariants.{Illegal, Fault, At}
use Rattle.laws.specs.Good.{Fit, SwapLong, Seated, Clean, Safe, InTable}
use Rattle.laws.specs.Demand2.{Gets}
use Rattle.laws.proofs.Choice.{and_left, every_at, length-below}
use Rattle.laws.proofs.Marks.{mark_twice}
use Rattle.laws.proofs.Seated.{same_page_lem, in_frames}
use Rattle.laws.proofs.Border.{below_part, page_from}
use Rattle.laws.proofs.Access.{bytes_at}
use Rattle.laws.proofs.Poke.{Kept, kept_entry, kept_fit, kept_safe, kept_seated, poke_kept, mark_for_lem, poke_flat, poke_clean}

-- ---- an access is legal exactly where its page is in the table and has the right
pub legal_granted : (s : Shape) (main : List ℕ) (w : Bool) (va : ℕ)
    → legal (translate s main w va) ≡ (ltb (page_of va).0 s.ptl && has w (entry s main (page_of va)))
unfolding translate
legal_granted s main w va =
    let e : ℕ = entry s main (page_of va) in
    by (ltb (page_of va).0 s.ptl) (has w e) (valid e) (main_at (ppx e) (offset va))
  where
    by : (inside holds here : Bool) (at : ℕ)
        → legal (if inside then (if holds then (if here then At at else Fault) else Illegal) else Illegal) ≡ (inside && holds)
    by true true true at = refl
    by true true false at = refl
    by true false here at = refl
    by false holds here at = refl

pub legal_inside : (s : Shape) (main : List ℕ) (w : Bool) (va : ℕ) → legal (translate s main w va) ≡ true → (page_of va).0 < s.ptl
legal_inside s main w va e = ltb-true _ _ (and_left _ _ (sym (legal_granted s main w va) ∙ e))

-- a transfer that is permitted lies in the table
pub permitted_inside : (w : Bool) (s : Shape) (main : List ℕ) (va n : ℕ) → permitted w s main va n ≡ true → InTable s va n
unfolding permitted
permitted_inside w s main va n e i q = legal_inside s main w (va + i) (every_at n _ e i q)

-- ---- a transfer to the machine
pub kept_to : (s : Shape) (m : Memory) → Safe s m.main → (va : ℕ) (bytes : List ℕ) → InTable s va (length bytes) → Kept s m (bytes_to s m va bytes)
unfolding bytes_to
kept_to s m safe va [] t = record { main_long = refl; swap_long = refl; off = λ j o. refl }
kept_to s m safe va (x ∷ xs) t =
    let k : Kept s m (poke s m va x) = poke_kept s m va x safe (omega (arith, t 0 (omega arith))) in
    let r : Kept s (poke s m va x) (bytes_to s (poke s m va x) (suc va) xs)
    = kept_to s (poke s m va x) (kept_safe s m (poke s m va x) safe.fit k safe) (suc va) xs (λ i q. omega (arith, t (suc i) (omega (arith, q)))) in
    record {
      main_long = r.main_long ∙ k.main_long;
      swap_long = r.swap_long ∙ k.swap_long;
      off = λ j o. r.off j o ∙ k.off j o;
    }

stored_to : (s : Shape) (b : FrameBook) (m : Memory) → Fit s (length m.main) → SwapLong s (length m.swap) → Seated s b m.main
    → (va : ℕ) (bytes : List ℕ) → InTable s va (length bytes) → flat_bytes s (bytes_to s m va bytes) ≡ sets (flat_bytes s m) va bytes
unfolding bytes_to
stored_to s b m fit whole g va [] t = refl
stored_to s b m fit whole g va (x ∷ xs) t =
    let first : (page_of va).0 < s.ptl = omega (arith, t 0 (omega arith)) in
    let k : Kept s m (poke s m va x) = poke_kept s m va x (record { fit = fit; framed = in_frames s b m.main g }) first in
    stored_to s b (poke s m va x) (kept_fit s m (poke s m va x) fit k) (k.swap_long ∙ whole) (kept_seated s m (poke s m va x) fit k b g) (suc va) xs
    (λ i q. omega (arith, t (suc i) (omega (arith, q))))
    ∙ ap (λ l. sets l (suc va) xs) (poke_flat s b m fit whole g va x first)

pub record Wrote (s : Shape) (m : Memory) (va : ℕ) (bytes : List ℕ) (m' : Memory) : Type 0 where
  pub kept : Kept s m m'
  pub stored : flat_bytes s m' ≡ sets (flat_bytes s m) va bytes

pub wrote : (s : Shape) (b : FrameBook) (m : Memory) → Fit s (length m.main) → SwapLong s (length m.swap) → Seated s b m.main
    → (va : ℕ) (bytes : List ℕ) → InTable s va (length bytes) → Wrote s m va bytes (bytes_to s m va bytes)
wrote s b m fit whole g va bytes t = record {
  kept = kept_to s m (record { fit = fit; framed = in_frames s b m.main g }) va bytes t;
  stored = stored_to s b m fit whole g va bytes t;
}

-- stored byte by byte, or put in the place of as many; no byte is stored at any address
pub sets_put : (s : Shape) (m : Memory) (va : ℕ) (bytes : List ℕ) → InTable s va (length bytes)
    → sets (flat_bytes s m) va bytes ≡ take va (flat_bytes s m) ++ bytes ++ drop (va + length bytes) (flat_bytes s m)
sets_put s m va [] t = paste-zero (flat_bytes s m) va []
sets_put s m va (x ∷ xs) t =
    sets-eq (x ∷ xs) (flat_bytes s m) va
    (omega (arith, t (length xs) (omega arith), length-below (4096 * s.ptl) (λ z. flat_byte s m z)))

-- ---- the marks
-- a page gets the first of n + 1 bytes, or one of those behind it
gets_more : (va n : ℕ) (x : VirtualPage) → Gets va (suc n) x ↔ ((page_of va ≡ x) ⊎ Gets (suc va) n x)
gets_more va n x = (
  to,
  ⊎_elim (λ e. (0, omega arith, ap page_of (add-zero va) ∙ e))
      (λ t. (suc t.0, omega (arith, t.1), ap page_of (add-suc va t.0 ∙ sym (suc-add va t.0)) ∙ t.2)),
)
  where
    to : Gets va (suc n) x → (page_of va ≡ x) ⊎ Gets (suc va) n x
    to (zero, q, e) = inl (ap page_of (sym (add-zero va)) ∙ e)
    to (suc i, q, e) = inr (i, omega (arith, q), ap page_of (suc-add va i ∙ sym (add-suc va i)) ∙ e)

-- each frame that is used has its mark after n bytes from va on where it had it, or where its page gets one of them
pub marks_for_lem : (s : Shape) (b : FrameBook) (main : List ℕ) → Seated s b main → (va n : ℕ) → InTable s va n → (marks f : ℕ) → f < b.used
    → (marked (marks_for s main va n marks) f ≡ true) ↔ ((marked marks f ≡ true) ⊎ Gets va n (page_in b f))
unfolding marks_for
marks_for_lem s b main g va zero t marks f q = (λ h. inl h, ⊎_elim (λ h. h) (λ e. absurd (not-suc-le-zero e.1)))
marks_for_lem s b main g va (suc n) t marks f q =
    let one = mark_for_lem s b main g va (omega (arith, t 0 (omega arith))) marks f q in
    let more = marks_for_lem s b main g (suc va) n (λ i r. omega (arith, t (suc i) (omega (arith, r)))) (mark_for s main va marks) f q in
    let gets = gets_more va n (page_in b f) in (
      λ h. ⊎_elim (λ a. ⊎_elim (λ e. inl e) (λ e. inr (gets.1 (inl e))) (one.0 a)) (λ e. inr (gets.1 (inr e))) (more.0 h),
      ⊎_elim (λ h. more.1 (inl (one.1 (inl h)))) (λ e. more.1 (⊎_elim (λ d. inl (one.1 (inr d))) (λ d. inr d) (gets.0 e))),
    )

module _ (s : Shape) where
  mark_entry : (main main' : List ℕ) (va u marks : ℕ) → entry s main' (page_of u) ≡ entry s main (page_of va) → mark_for s main' u marks ≡ mark_for s main va marks
  unfolding mark_for
  mark_entry main main' va u marks = ap (λ (e : ℕ). if valid e then with_mark marks (frame_in s (ppx e)) else marks)

  -- where the entries are the same, so are the marks
  marks_same : (main main' : List ℕ) → ((x : VirtualPage) → x.0 < s.ptl → entry s main' x ≡ entry s main x)
      → (va n : ℕ) → InTable s va n → (marks : ℕ) → marks_for s main' va n marks ≡ marks_for s main va n marks
  unfolding marks_for
  marks_same main main' e va zero t marks = refl
  marks_same main main' e va (suc n) t marks =
      marks_same main main' e (suc va) n (λ i q. omega (arith, t (suc i) (omega (arith, q)))) (mark_for s main' va marks)
      ∙ ap (marks_for s main (suc va) n) (mark_entry main main' va va marks (e (page_of va) (omega (arith, t 0 (omega arith)))))

  module _ (main : List ℕ) where
    -- two bytes of one page
    mark_again : (va u marks : ℕ) → page_of u ≡ page_of va → mark_for s main u (mark_for s main va marks) ≡ mark_for s main va marks
    unfolding mark_for
    mark_again va u marks e =
        mark_entry main main va u (mark_for s main va marks) (ap (entry s main) e)
        ∙ twice (valid (entry s main (page_of va))) (frame_in s (ppx (entry s main (page_of va))))
      where
        twice : (c : Bool) (f : ℕ) → (if c then with_mark (if c then with_mark marks f else marks) f else (if c then with_mark marks f else marks)) ≡ (if c then with_mark marks f else marks)
        twice true f = mark_twice marks f
        twice false f = refl

    -- as many bytes as a page has lie in the pages of the first and of the last
    marks_both : (k : ℕ) → k < 4096 → (va marks : ℕ) → marks_for s main va (suc k) marks ≡ mark_for s main (va + k) (mark_for s main va marks)
    unfolding marks_for
    marks_both zero h va marks = sym (mark_again va (va + 0) marks (ap page_of (add-zero va)))
    marks_both (suc k) h va marks =
        marks_both k (omega (arith, h)) (suc va) (mark_for s main va marks)
        ∙ step (ℕ_discrete (page_of (suc va)).0 (page_of va).0)
        ∙ ap (λ u. mark_for s main u (mark_for s main va marks)) (suc-add va k ∙ sym (add-suc va k))
      where
        step : Dec ((page_of (suc va)).0 ≡ (page_of va).0)
            → mark_for s main (suc va + k) (mark_for s main (suc va) (mark_for s main va marks)) ≡ mark_for s main (suc va + k) (mark_for s main va marks)
        step (yes e) = ap (mark_for s main (suc va + k)) (mark_again va (suc va) marks (same_page_lem e))
        step (no n) =
            let e : page_of (suc va + k) ≡ page_of (suc va) = same_page_lem (omega (arith, h, n)) in
            mark_again (suc va) (suc va + k) (mark_for s main va marks) e
            ∙ sym (mark_entry main main (suc va) (suc va + k) (mark_for s main va marks) (ap (entry s main) e))

    pub marks_ends : (va n marks : ℕ) → 0 < n → n ≤ 4096 → marks_for s main va n marks ≡ mark_for s main (va + (n - 1)) (mark_for s main va marks)
    marks_ends va zero marks some most = absurd (not-suc-le-zero some)
    marks_ends va (suc k) marks some most = marks_both k (omega (arith, most)) va marks ∙ ap (λ (j : ℕ). mark_for s main (va + j) (mark_for s main va marks)) (omega arith)

pub clean_to : (s : Shape) (b : FrameBook) (m : Memory) → Fit s (length m.main) → SwapLong s (length m.swap) → Seated s b m.main
    → (va : ℕ) (bytes : List ℕ) → InTable s va (length bytes) → (marks : ℕ) → Clean s (remarked b marks) m
    → Clean s (remarked b (marks_for s m.main va (length bytes) marks)) (bytes_to s m va bytes)
unfolding bytes_to marks_for
clean_to s b m fit whole g va [] t marks c = c
clean_to s b m fit whole g va (x ∷ xs) t marks c =
    let first : (page_of va).0 < s.ptl = omega (arith, t 0 (omega arith)) in
    let k : Kept s m (poke s m va x) = poke_kept s m va x (record { fit = fit; framed = in_frames s b m.main g }) first in
    let u : InTable s (suc va) (length xs) = λ i q. omega (arith, t (suc i) (omega (arith, q))) in
    subst (λ (j : ℕ). Clean s (remarked b j) (bytes_to s (poke s m va x) (suc va) xs))
    (marks_same s m.main (poke s m va x).main (kept_entry s m (poke s m va x) fit k) (suc va) (length xs) u (mark_for s m.main va marks))
    (clean_to s b (poke s m va x) (kept_fit s m (poke s m va x) fit k) (k.swap_long ∙ whole) (kept_seated s m (poke s m va x) fit k b g) (suc va) xs u
    (mark_for s m.main va marks) (poke_clean s b m fit whole g va x first marks c))

-- ---- what is handed out
pub read_flat : (s : Shape) (m : Memory) (va n : ℕ) → InTable s va n → bytes_from s m va n ≡ take n (drop va (flat_bytes s m))
unfolding bytes_from list_below
read_flat s m va zero t = refl
read_flat s m va (suc n) t =
    let l : va + suc n ≤ 4096 * s.ptl = omega (arith, t n (omega arith)) in
    below_part (suc n) (λ i. flat_byte s m (va + i)) (flat_bytes s m) va (omega (arith, length-below (4096 * s.ptl) (λ z. flat_byte s m z)))
    (λ i q. sym (bytes_at s m (va + i) (omega (arith, l, q))))

module _ (s : Shape) (b : FrameBook) (m : Memory) (fit : Fit s (length m.main)) (whole : SwapLong s (length m.swap)) (g : Seated s b m.main)
    (x : VirtualPage) (inside : x.0 < s.ptl) where
  pub view_flat : page_bytes s m x ≡ page (flat_bytes s m) x.0
  unfolding page
  view_flat =
      page_from s m (record { fit = fit; framed = in_frames s b m.main g }) whole x inside
      ∙ read_flat s m (first_va x) 4096 (λ k h. omega (arith, inside, h))
