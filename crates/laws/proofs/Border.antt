-- Page borders. Bytes that no border parts lie in one page, and are one part of the memory where it is, "as its entry says": read
-- there (`main_from`, `swap_from`) and written there (`main_to`, `swap_to`); a page is the bytes from its first address on (`page_from`).
use mathlib.Core.Path.{◌≡◌, refl, sym, ap, ◌∙◌}
use mathlib.Core.Bool.{Bool, true, false}
use mathlib.Core.List.{List, [], ◌∷◌}
use Prim.Native.Nat.{ℕ, suc, ◌+◌, ◌*◌, ◌<◌, ◌≤◌}
use native.Mathlib.Nat.{add-zero, add-suc, suc-add}
use native.Mathlib.Omega.{arith}
use lib.ListN.{length, get_or, set, take, drop, length-take, length-drop}
use lib.Seq.{get_or-take, get_or-drop, sets, ext_get_or}
use Rattle.model.specs.Choice.{list_below}
use Rattle.model.specs.Bytes.{page}
use Rattle.model.specs.Pages.{virtual, page_of, offset, first_va, main_at, swap_of, swap_at}
use Rattle.model.specs.Table.{entry, ppx, valid}
use Rattle.model.specs.State.{Memory}
use Rattle.model.specs.Translate.{flat_byte}
use Rattle.model.specs.Calls.{bytes_from, poke, bytes_to, page_bytes}
use Rattle.model.specs.declared.Shape.{Shape}
use Rattle.model.specs.declared.VirtualPage.{VirtualPage}
use Rattle.laws.specs.Good.{Safe, SwapLong}
use Rattle.laws.proofs.Choice.{length-below, get_or-below}
use Rattle.laws.proofs.Table.{flat_here, flat_away}
use Rattle.laws.proofs.Poke.{Kept, kept_safe, kept_entry, poke_here, poke_away, poke_kept}

-- ---- the byte k behind va, in va's page
module _ (va k : ℕ) (one : offset va + k < 4096) where
  pub page_on : page_of (va + k) ≡ page_of va
  page_on = ap virtual (omega arith)

  pub offset_on : offset (va + k) ≡ offset va + k
  offset_on = omega arith

-- a list by its elements, which are n of l from i on
pub below_part : (n : ℕ) (f : ℕ → ℕ) (l : List ℕ) (i : ℕ) → i + n ≤ length l → ((k : ℕ) → k < n → f k ≡ get_or l (i + k) 0) → list_below n f ≡ take n (drop i l)
below_part n f l i long h =
    ext_get_or 0 (list_below n f) (take n (drop i l)) (simp (length-below, length-take, length-drop) (omega arith))
    (λ k q. let r : k < n = simp length-below at q in
    get_or-below n f k 0 r ∙ h k r ∙ sym (get_or-take n (drop i l) k 0 r ∙ get_or-drop i l k 0))

-- n bytes from va on, where the bytes of va's page are those of l from p on
from_part : (s : Shape) (m : Memory) (va n : ℕ) → offset va + n ≤ 4096 → (l : List ℕ) (p : ℕ)
    → ((u : ℕ) → page_of u ≡ page_of va → flat_byte s m u ≡ get_or l (p + offset u) 0)
    → (i : ℕ) → i ≡ p + offset va → i + n ≤ length l → bytes_from s m va n ≡ take n (drop i l)
unfolding bytes_from
from_part s m va n one l p is i at long =
    below_part n (λ k. flat_byte s m (va + k)) l i long
    (λ k q. let r : offset va + k < 4096 = omega arith in
    is (va + k) (page_on va k r) ∙ ap (λ j. get_or l j 0) (omega (arith, offset_on va k r)))

-- ---- bytes put in a memory, in main memory or in swap
abbrev put_at : Bool → Memory → ℕ → List ℕ → Memory
put_at true m i bytes = record { main = sets m.main i bytes; swap = m.swap }
put_at false m i bytes = record { main = m.main; swap = sets m.swap i bytes }

put_none : (c : Bool) (m : Memory) (i : ℕ) → m ≡ put_at c m i []
put_none true m i = refl
put_none false m i = refl

put_more : (c : Bool) (m : Memory) (i b : ℕ) (bs : List ℕ) → put_at c (put_at c m i (b ∷ [])) (suc i) bs ≡ put_at c m i (b ∷ bs)
put_more true m i b bs = refl
put_more false m i b bs = refl

-- bytes in page x, whose entry is e, where the page's bytes go to those from p on
module _ (s : Shape) (x : VirtualPage) (inside : x.0 < s.ptl) (e : ℕ) (c : Bool) (p : ℕ)
    (goes : (m : Memory) (u b : ℕ) → entry s m.main x ≡ e → page_of u ≡ x → poke s m u b ≡ put_at c m (p + offset u) (b ∷ [])) where
  to_part : (m : Memory) → Safe s m.main → entry s m.main x ≡ e → (va i : ℕ) (bytes : List ℕ)
      → ((k : ℕ) → k < length bytes → (page_of (va + k) ≡ x) × (i + k ≡ p + offset (va + k))) → bytes_to s m va bytes ≡ put_at c m i bytes
  unfolding bytes_to
  to_part m safe is va i [] on = put_none c m i
  to_part m safe is va i (b ∷ bs) on =
      let first : page_of va ≡ x = ap page_of (sym (add-zero va)) ∙ (on 0 (omega arith)).0 in
      let k : Kept s m (poke s m va b) = poke_kept s m va b safe (omega (arith, inside, ap (λ (y : VirtualPage). y.0) first)) in
      to_part (poke s m va b) (kept_safe s m (poke s m va b) safe.fit k safe) (kept_entry s m (poke s m va b) safe.fit k x inside ∙ is) (suc va) (suc i) bs
      (λ j q. let t = on (suc j) (omega (arith, q)) in (ap page_of (suc-add va j ∙ sym (add-suc va j)) ∙ t.0, omega (arith, t.1)))
      ∙ ap (λ (n : Memory). put_at c n (suc i) bs) (goes m va b is first ∙ ap (λ j. put_at c m j (b ∷ [])) (omega (arith, (on 0 (omega arith)).1)))
      ∙ put_more c m i b bs

-- ---- n bytes from va on, in one page of the table
module _ (s : Shape) (m : Memory) (safe : Safe s m.main) (whole : SwapLong s (length m.swap))
    (va n : ℕ) (inside : (page_of va).0 < s.ptl) (one : offset va + n ≤ 4096) (i : ℕ) where
  module _ (here : valid (entry s m.main (page_of va)) ≡ true) (at : i ≡ main_at (ppx (entry s m.main (page_of va))) (offset va)) where
    pub main_within : i + n ≤ length m.main
    main_within = omega (arith, at, (safe.framed (page_of va) inside here).1, safe.fit.frames_in, safe.fit.main_long)

    pub main_from : bytes_from s m va n ≡ take n (drop i m.main)
    main_from =
        from_part s m va n one m.main (4096 * (ppx (entry s m.main (page_of va))).0)
        (λ u e. flat_here s m u (ap (λ x. valid (entry s m.main x)) e ∙ here) ∙ ap (λ x. get_or m.main (main_at (ppx (entry s m.main x)) (offset u)) 0) e)
        i at main_within

    pub main_to : (bytes : List ℕ) → length bytes ≡ n → bytes_to s m va bytes ≡ record { main = sets m.main i bytes; swap = m.swap }
    main_to bytes long =
        to_part s (page_of va) inside (entry s m.main (page_of va)) true (4096 * (ppx (entry s m.main (page_of va))).0)
        (λ w u b same on. let e = ap (entry s w.main) on ∙ same in
        poke_here s w u b (ap valid e ∙ here) ∙ ap (λ k. record { main = set w.main (main_at (ppx k) (offset u)) b; swap = w.swap }) e)
        m safe refl va i bytes
        (λ k q. let r : offset va + k < 4096 = omega (arith, q, long) in (page_on va k r, omega (arith, at, offset_on va k r)))

  module _ (away : valid (entry s m.main (page_of va)) ≡ false) (at : i ≡ swap_at (swap_of s (page_of va)) (offset va)) where
    pub swap_within : i + n ≤ length m.swap
    swap_within = omega (arith, at, whole)

    pub swap_from : bytes_from s m va n ≡ take n (drop i m.swap)
    swap_from =
        from_part s m va n one m.swap (4096 * (swap_of s (page_of va)).0)
        (λ u e. flat_away s m u (ap (λ x. valid (entry s m.main x)) e ∙ away) ∙ ap (λ x. get_or m.swap (swap_at (swap_of s x) (offset u)) 0) e)
        i at swap_within

    pub swap_to : (bytes : List ℕ) → length bytes ≡ n → bytes_to s m va bytes ≡ record { main = m.main; swap = sets m.swap i bytes }
    swap_to bytes long =
        to_part s (page_of va) inside (entry s m.main (page_of va)) false (4096 * (swap_of s (page_of va)).0)
        (λ w u b same on. let e = ap (entry s w.main) on ∙ same in
        poke_away s w u b (ap valid e ∙ away) ∙ ap (λ y. record { main = w.main; swap = set w.swap (swap_at (swap_of s y) (offset u)) b }) on)
        m safe refl va i bytes
        (λ k q. let r : offset va + k < 4096 = omega (arith, q, long) in (page_on va k r, omega (arith, at, offset_on va k r)))

-- ---- a whole page
module _ (s : Shape) (m : Memory) (safe : Safe s m.main) (whole : SwapLong s (length m.swap)) (x : VirtualPage) (inside : x.0 < s.ptl) where
  first_page : page_of (first_va x) ≡ x
  first_page = ap virtual (omega arith)

  pub page_from : page_bytes s m x ≡ bytes_from s m (first_va x) 4096
  unfolding page_bytes page
  page_from = pick (valid (entry s m.main x)) refl
    where
      first : (page_of (first_va x)).0 < s.ptl
      first = omega (arith, inside)

      begins : offset (first_va x) + 4096 ≤ 4096
      begins = omega arith

      pick : (c : Bool) → valid (entry s m.main x) ≡ c → page_bytes s m x ≡ bytes_from s m (first_va x) 4096
      pick true v =
          rw v (sym (main_from s m safe whole (first_va x) 4096 first begins (4096 * (ppx (entry s m.main x)).0)
          (ap (λ y. valid (entry s m.main y)) first_page ∙ v) (rw first_page (omega arith))))
      pick false v =
          rw v (sym (swap_from s m safe whole (first_va x) 4096 first begins (4096 * (swap_of s x).0)
          (ap (λ y. valid (entry s m.main y)) first_page ∙ v) (omega arith)))
