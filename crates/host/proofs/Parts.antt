-- Bytes of one page in the lent memory where the page is: read, written, and a whole page handed back.
use mathlib.Core.Path.{◌≡◌, sym, ap, ap₂, ◌∙◌}
use mathlib.Core.Bool.{true, false}
use mathlib.Core.List.{List, ◌++◌, append_assoc}
use Prim.Native.Nat.{ℕ, ◌+◌, ◌-◌, ◌≤◌, ◌<◌}
use native.Mathlib.Omega.{arith}
use lib.ListN.{length, take, drop}
use lib.Seq.{sets, sets-eq}
use denote.Ref.{Bor}
use borrow.Rule.Slice.PartMut.{put_mid, Post-is}
use Rattle.model.specs.Pages.{page_of, offset, first_va, main_at, swap_of, swap_at}
use Rattle.model.specs.Table.{entry, ppx, valid}
use Rattle.model.specs.Calls.{bytes_from, bytes_to, page_bytes}
use Rattle.model.specs.Parts.{Part, PartOf, page_home, page_part}
use Rattle.model.specs.declared.Shape.{Shape}
use Rattle.model.specs.declared.VirtualPage.{VirtualPage}
use Rattle.model.specs.State.{Memory, memory}
use Rattle.laws.proofs.Seated.{same_page_lem}
use Rattle.laws.proofs.Parts.{cut}
use Rattle.laws.proofs.Border as border
use Rattle.host.specs.declared.home.Home.{Home}
use Rattle.host.specs.declared.home.Home.TheVariants.{Main, Swap}
use Rattle.host.specs.Home.{home_of, Reachable}
use Rattle.host.proofs.Where.{InMain, InSwap, in_main, in_swap}

-- as many bytes put in the place of a part, and put one by one
put_sets : (l bytes : List ℕ) (i : ℕ) → i + length bytes ≤ length l → put_mid i (i + length bytes - i) l bytes ≡ sets l i bytes
put_sets l bytes i h =
    ap (λ r. take i l ++ (bytes ++ r)) (Post-is i (i + length bytes) l (omega arith)) ∙ sym (append_assoc (take i l) bytes _) ∙ sym (sets-eq bytes l i h)

-- ---- n bytes from va on, by the answer h to where va is
module _ (s : Shape) (main swap : List ℕ) (reach : Reachable s main (length swap)) (va n : ℕ) (inside : (page_of va).0 < s.ptl) (one : offset va + n ≤ 4096)
    (h : Home) (e : h ≡ home_of s main va) (i : ℕ) where
  abbrev m : Memory
  m = memory main swap

  module _ (q : h ≡ Main i) where
    here : InMain s main va i
    here = in_main s main va h e i q

    pub main_within : i + n ≤ length main
    main_within = border.main_within s m reach.safe reach.whole va n inside one i here.here here.at

    pub main_read : (part : List ℕ) → part ≡ take (i + n - i) (drop i main) → part ≡ bytes_from s m va n
    main_read part is =
        let k : i + n - i ≡ n = omega arith in
        is ∙ ap (λ j. take j (drop i main)) k ∙ sym (border.main_from s m reach.safe reach.whole va n inside one i here.here here.at)

    pub main_written : (bytes : List ℕ) → length bytes ≡ n → (part : List ℕ) → part ≡ bytes → memory (put_mid i (i + length bytes - i) main part) swap ≡ bytes_to s m va bytes
    main_written bytes long part is =
        ap (λ l. memory (put_mid i (i + length bytes - i) main l) swap) is
        ∙ ap (λ l. memory l swap) (put_sets main bytes i (omega (arith, main_within, long)))
        ∙ sym (border.main_to s m reach.safe reach.whole va n inside one i here.here here.at bytes long)

  module _ (q : h ≡ Swap i) where
    away : InSwap s main va i
    away = in_swap s main va h e i q

    pub swap_within : i + n ≤ length swap
    swap_within = border.swap_within s m reach.safe reach.whole va n inside one i away.away away.at

    pub swap_read : (part : List ℕ) → part ≡ take (i + n - i) (drop i swap) → part ≡ bytes_from s m va n
    swap_read part is =
        let k : i + n - i ≡ n = omega arith in
        is ∙ ap (λ j. take j (drop i swap)) k ∙ sym (border.swap_from s m reach.safe reach.whole va n inside one i away.away away.at)

    pub swap_written : (bytes : List ℕ) → length bytes ≡ n → (part : List ℕ) → part ≡ bytes → memory main (put_mid i (i + length bytes - i) swap part) ≡ bytes_to s m va bytes
    swap_written bytes long part is =
        ap (λ l. memory main (put_mid i (i + length bytes - i) swap l)) is
        ∙ ap (λ l. memory main l) (put_sets swap bytes i (omega (arith, swap_within, long)))
        ∙ sym (border.swap_to s m reach.safe reach.whole va n inside one i away.away away.at bytes long)

-- ---- a whole page, from its first address va on
module _ (s : Shape) (main swap : Bor (List ℕ)) (reach : Reachable s main.now (length swap.now)) (x : VirtualPage) (inside : x.0 < s.ptl)
    (va : ℕ) (first : va ≡ first_va x) (h : Home) (e : h ≡ home_of s main.now va) (i : ℕ) where
  abbrev both : Memory
  both = memory main.now swap.now

  at : page_of va ≡ x
  at = same_page_lem (omega (arith, first))

  begins_page : offset va ≡ 0
  begins_page = omega (arith, first)

  bytes_are : bytes_from s both va 4096 ≡ page_bytes s both x
  bytes_are = ap (λ u. bytes_from s both u 4096) first ∙ sym (border.page_from s both reach.safe reach.whole x inside)

  first_inside : (page_of va).0 < s.ptl
  first_inside = omega (arith, first, inside)

  one_page : offset va + 4096 ≤ 4096
  one_page = omega (arith, first)

  -- r is the part of the page
  abbrev IsPage : Bor (List ℕ) → Type 0
  IsPage r = PartOf (page_home s main swap x) (page_part s both x) r

  pub page_main : h ≡ Main i → (r : Bor (List ℕ)) → r.ref_ptr.0 ≡ main.ref_ptr.0 → r.ref_ptr.1 ≡ main.ref_ptr.1 + i
      → r.now ≡ take (i + 4096 - i) (drop i main.now) → IsPage r
  page_main q r block begins b =
      let k : InMain s main.now va i = in_main s main.now va h e i q in
      let v : valid (entry s main.now x) ≡ true = ap (λ y. valid (entry s main.now y)) (sym at) ∙ k.here in
      let place : i ≡ main_at (ppx (entry s main.now x)) 0 = k.at ∙ ap₂ (λ y o. main_at (ppx (entry s main.now y)) o) at begins_page in
      let bytes = sym (border.main_from s both reach.safe reach.whole va 4096 first_inside one_page i k.here k.at) ∙ bytes_are in
      rw v (cut main r _ block i 4096 (ap₂ {C = Part} (λ j l. record { place = j; bytes = l }) place bytes) begins b)

  pub page_swap : h ≡ Swap i → (r : Bor (List ℕ)) → r.ref_ptr.0 ≡ swap.ref_ptr.0 → r.ref_ptr.1 ≡ swap.ref_ptr.1 + i
      → r.now ≡ take (i + 4096 - i) (drop i swap.now) → IsPage r
  page_swap q r block begins b =
      let k : InSwap s main.now va i = in_swap s main.now va h e i q in
      let v : valid (entry s main.now x) ≡ false = ap (λ y. valid (entry s main.now y)) (sym at) ∙ k.away in
      let place : i ≡ swap_at (swap_of s x) 0 = k.at ∙ ap₂ (λ y o. swap_at (swap_of s y) o) at begins_page in
      let bytes = sym (border.swap_from s both reach.safe reach.whole va 4096 first_inside one_page i k.away k.at) ∙ bytes_are in
      rw v (cut swap r _ block i 4096 (ap₂ {C = Part} (λ j l. record { place = j; bytes = l }) place bytes) begins b)
