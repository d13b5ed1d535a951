-- The machine that loading makes of an accepted image: the lengths of the sections and of both memories, the entries of its table; it
-- is good (`fresh_good`), and its flat machine has the image's pages and rights (`fresh_bytes`, `fresh_rights`).
use mathlib.Core.Path.{◌≡◌, refl, sym, ap, ◌∙◌}
use mathlib.Core.Bool.{false, true≢false}
use mathlib.Core.Logic.{inl, inr}
use mathlib.Core.List.{List, [], ◌∷◌, ◌++◌}
use Prim.Native.Nat.{ℕ, zero, suc, ◌+◌, ◌*◌, ◌<◌, ◌≤◌}
use native.Mathlib.Omega.{arith}
use native.Mathlib.Nat.{add-zero, zero-add, not-suc-le-zero, le_of_suc-le-suc}
use lib.Dec.{eqb}
use lib.ListN.{length, get_or, drop, length-append, length-take, length-drop, length-replicate, get_or-replicate}
use lib.Seq.{get_or-drop, ext_get_or}
use borrow.Author.Tests.{ne_eqb}
use Rattle.model.specs.Words.{low, field}
use Rattle.model.specs.Bytes.{number}
use Rattle.model.specs.Pages.{virtual, page_of, offset, swap_of, swap_at}
use Rattle.model.specs.Table.{entry, valid}
use Rattle.model.specs.Translate.{flat_byte}
use Rattle.model.specs.Flat.{rights_byte, flat_bytes, flat_rights}
use Rattle.model.specs.State.{Memory, State}
use Rattle.model.specs.Image.{invalid_entry, ptl_of, frames_of, rights_of, pages_of, meant, invalid_entries, fresh}
use Rattle.model.specs.declared.VirtualPage.{VirtualPage}
use Rattle.laws.specs.Good.{Fit, Hand, Seated, Good}
use Rattle.laws.specs.Formed.{SomeFrames, Formed, Accepted}
use Rattle.laws.proofs.Choice.{length-below, get_or-below}
use Rattle.laws.proofs.Bytes.{number_same}
use Rattle.laws.proofs.Table.{flat_away}

-- ---- an invalid entry by its rights byte: r and w are the byte's, v is 0
valid_invalid : (b : ℕ) → valid (invalid_entry b) ≡ false
valid_invalid b = let z : low 1 (invalid_entry b) ≡ 0 = omega arith in ap (λ (n : ℕ). eqb n 1) z

rights_bits : (r w : ℕ) → r < 2 → w < 2 → rights_byte (4 * r + 2 * w) ≡ r + 2 * w
rights_bits r w h k =
    let a : field 2 1 (4 * r + 2 * w) ≡ r = omega arith in
    let b : field 1 1 (4 * r + 2 * w) ≡ w = omega arith in
    omega arith

rights_invalid : (b : ℕ) → b ≤ 3 → rights_byte (invalid_entry b) ≡ b
rights_invalid b h = rights_bits (low 1 b) (field 1 1 b) (omega arith) (omega arith) ∙ omega arith

-- ---- the table
pub length_entries : (r : List ℕ) → length (invalid_entries r) ≡ 4 * length r
unfolding invalid_entries
length_entries [] = refl
length_entries (x ∷ r) = omega (arith, length_entries r)

number_drop : (n : ℕ) (l : List ℕ) (j i : ℕ) → number n (drop j l) i ≡ number n l (j + i)
number_drop n l j i =
    number_same n (drop j l) l i (j + i) (λ k q. let e : j + (i + k) ≡ j + i + k = omega arith in get_or-drop j l (i + k) 0 ∙ ap (λ (z : ℕ). get_or l z 0) e)

-- entry x, whatever comes behind the table
number_entries : (r tail : List ℕ) (x : ℕ) → x < length r → number 4 (invalid_entries r ++ tail) (4 * x) ≡ invalid_entry (get_or r x 0)
unfolding invalid_entries number
number_entries [] tail x h = absurd (not-suc-le-zero h)
number_entries (b ∷ r) tail zero h = add-zero (invalid_entry b)
number_entries (b ∷ r) tail (suc x) h =
    let e : 4 * suc x ≡ 4 + 4 * x = omega arith in
    ap (number 4 (invalid_entries (b ∷ r) ++ tail)) e
    ∙ sym (number_drop 4 (invalid_entries (b ∷ r) ++ tail) 4 (4 * x))
    ∙ number_entries r tail x (le_of_suc-le-suc h)

-- ---- frames: as written, or the 4 of a zero
pub meant_bounds : (n : ℕ) → SomeFrames n → (2 ≤ meant n) × (meant n ≤ 32)
meant_bounds n (inl e) = rw e (omega arith, omega arith)
meant_bounds n (inr h) = rw (ne_eqb n 0 (λ e. omega (arith, h.0, e))) h

-- ---- the sections
module _ (l : List ℕ) (f : Formed l) where
  pub length-rights : length (rights_of l) ≡ ptl_of l
  unfolding rights_of
  length-rights = simp (length-take, length-drop) (omega (arith, f.to_pages, f.within))

  pub length-pages : length (pages_of l) ≡ 4096 * ptl_of l
  unfolding pages_of
  length-pages = simp (length-take, length-drop) (omega (arith, f.to_pages, f.within))

-- ---- the fresh machine
module _ (l : List ℕ) (m : Memory) (a : Accepted l m) where
  abbrev p : State
  p = fresh l (length m.main)

  fresh_entry : (x : VirtualPage) → x.0 < ptl_of l → entry p.machine.shape p.memory.main x ≡ invalid_entry (get_or (rights_of l) x.0 0)
  unfolding fresh entry
  fresh_entry x h =
      ap (number 4 p.memory.main) (zero-add (4 * x.0))
      ∙ number_entries (rights_of l) _ x.0 (omega (arith, length-rights l a.formed))

  fresh_invalid : (x : VirtualPage) → x.0 < ptl_of l → valid (entry p.machine.shape p.memory.main x) ≡ false
  fresh_invalid x h = ap valid (fresh_entry x h) ∙ valid_invalid (get_or (rights_of l) x.0 0)

  pub fresh_main_long : length p.memory.main ≡ length m.main
  unfolding fresh
  fresh_main_long =
      simp (length-append, length_entries, length-replicate, length-rights l a.formed)
      (omega (arith, a.formed.ptl_most, a.roomy.pages_least))

  pub fresh_swap_long : length p.memory.swap ≡ length m.swap
  unfolding fresh
  fresh_swap_long = length-pages l a.formed ∙ sym a.roomy.swap_long

  fresh_fit : Fit p.machine.shape (length p.memory.main)
  unfolding fresh
  fresh_fit =
      let b = meant_bounds (frames_of l) a.formed.frames_known in
      record {
        pages_least = a.roomy.pages_least;
        pages_most = a.roomy.pages_most;
        frames_least = b.0;
        frames_most = b.1;
        abase_least = omega arith;
        frames_in = a.roomy.frames_in;
        ptl_least = a.formed.ptl_least;
        ptl_most = a.formed.ptl_most;
        pto_aligned = refl;
        table_in = omega (arith, a.formed.ptl_most);
        sbase_most = omega arith;
        main_long = fresh_main_long ∙ omega (arith, a.roomy.whole);
      }

  fresh_seated : Seated p.machine.shape p.machine.book p.memory.main
  unfolding fresh
  fresh_seated = record {
    booked = record { array = length-replicate 32 (virtual 0); used_most = omega arith };
    in_table = λ i q. absurd (not-suc-le-zero q);
    differ = λ i j q. absurd (not-suc-le-zero q);
    rest = λ i q r. get_or-replicate 32 i (virtual 0) (virtual 0) r;
    here = λ i q. absurd (not-suc-le-zero q);
    frame_of = λ i q. absurd (not-suc-le-zero q);
    only = λ x q v. absurd (true≢false (sym v ∙ fresh_invalid x q));
  }

  fresh_hand : Hand p.machine.shape.frames p.machine.book
  unfolding fresh
  fresh_hand = record { still = λ q. refl; most = omega (arith, (meant_bounds (frames_of l) a.formed.frames_known).0) }

  pub fresh_good : Good p
  unfolding fresh
  fresh_good = record {
    fit = fresh_fit;
    whole = fresh_swap_long ∙ a.roomy.swap_long ∙ ap (λ (k : ℕ). 4096 * k) (sym (zero-add (ptl_of l)));
    seated = fresh_seated;
    hand = fresh_hand;
    clean = record { equal = λ i q u. absurd (not-suc-le-zero q); unused = omega arith };
    zero = refl;
  }

  -- ---- its flat machine
  pub fresh_rights : flat_rights p.machine.shape p.memory.main ≡ rights_of l
  unfolding fresh
  fresh_rights =
      ext_get_or 0 _ (rights_of l) (length-below (ptl_of l) _ ∙ sym (length-rights l a.formed))
      (λ x q. let h : x < ptl_of l = omega (arith, length-below (ptl_of l) (λ x. rights_byte (entry p.machine.shape p.memory.main (virtual x)))) in
      get_or-below (ptl_of l) _ x 0 h ∙ ap rights_byte (fresh_entry (virtual x) h) ∙ rights_invalid _ (a.formed.rights_most x h))

  pub fresh_bytes : flat_bytes p.machine.shape p.memory ≡ pages_of l
  unfolding fresh
  fresh_bytes =
      ext_get_or 0 _ (pages_of l) (length-below (4096 * ptl_of l) _ ∙ sym (length-pages l a.formed))
      (λ va q. let h : va < 4096 * ptl_of l = omega (arith, length-below (4096 * ptl_of l) (λ va. flat_byte p.machine.shape p.memory va)) in
      let e : swap_at (swap_of p.machine.shape (page_of va)) (offset va) ≡ va = omega arith in
      get_or-below (4096 * ptl_of l) _ va 0 h
      ∙ flat_away p.machine.shape p.memory va (fresh_invalid (page_of va) (omega arith))
      ∙ ap (λ (i : ℕ). get_or (pages_of l) i 0) e)
