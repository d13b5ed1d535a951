-- The access of the paged machine (`translate`) and that of the flat machine it stands for (`allow`) agree: which accesses are
-- legal, and what is read.
use mathlib.Core.Path.{◌≡◌, refl, sym, ap, ap₂, ◌∙◌}
use mathlib.Core.Bool.{Bool, true, false}
use mathlib.Core.List.{List}
use Prim.Native.Nat.{ℕ, ◌+◌, ◌*◌, ◌%◌, ◌<◌, ◌≤◌}
use native.Mathlib.Omega.{arith}
use lib.Dec.{ltb}
use lib.ListN.{length, get_or}
use borrow.Author.Tests.{ltb-true, ltb-false, lt-ltb, le-ltb, eqb-true}
use Rattle.model.specs.Words.{aligned}
use Rattle.model.specs.Bytes.{number}
use Rattle.model.specs.Pages.{virtual, page_of, offset, main_at}
use Rattle.model.specs.Table.{entry, ppx, valid}
use Rattle.model.specs.State.{Memory}
use Rattle.model.specs.Translate.{has, translate, flat_byte}
use Rattle.model.specs.Attempt.{Width, byte, half, word, size}
use Rattle.model.specs.Flat.{allow, rights_byte, flat_bytes, flat_rights}
use Rattle.model.specs.declared.Shape.{Shape}
use Rattle.model.specs.declared.VirtualPage.{VirtualPage}
use Rattle.model.specs.declared.Access.TheVariants.{Illegal, Fault, At}
use Rattle.laws.specs.Good.{Safe}
use Rattle.laws.proofs.Choice.{clash, length-below, get_or-below}
use Rattle.laws.proofs.Bytes.{number_same}
use Rattle.laws.proofs.Entries.{grants_rights}
use Rattle.laws.proofs.Table.{flat_here}

-- what an access that goes through says, and what a fault says
pub record Through (s : Shape) (main : List ℕ) (w : Bool) (va i : ℕ) : Type 0 where
  pub inside : (page_of va).0 < s.ptl
  pub right : has w (entry s main (page_of va)) ≡ true
  pub here : valid (entry s main (page_of va)) ≡ true
  pub at : i ≡ main_at (ppx (entry s main (page_of va))) (offset va)

pub record Absent (s : Shape) (main : List ℕ) (w : Bool) (va : ℕ) : Type 0 where
  pub inside : (page_of va).0 < s.ptl
  pub right : has w (entry s main (page_of va)) ≡ true
  pub away : valid (entry s main (page_of va)) ≡ false

module _ (s : Shape) (main : List ℕ) (w : Bool) (va : ℕ) where
  -- ---- the four ways of an access
  pub translate_outside : s.ptl ≤ (page_of va).0 → translate s main w va ≡ Illegal
  unfolding translate
  translate_outside o = simp le-ltb

  pub translate_denied : (page_of va).0 < s.ptl → has w (entry s main (page_of va)) ≡ false → translate s main w va ≡ Illegal
  unfolding translate
  translate_denied i r = simp (lt-ltb, r)

  pub translate_fault : (page_of va).0 < s.ptl → has w (entry s main (page_of va)) ≡ true → valid (entry s main (page_of va)) ≡ false
      → translate s main w va ≡ Fault
  unfolding translate
  translate_fault i r v = simp (lt-ltb, r, v)

  pub translate_at : (page_of va).0 < s.ptl → has w (entry s main (page_of va)) ≡ true → valid (entry s main (page_of va)) ≡ true
      → translate s main w va ≡ At (main_at (ppx (entry s main (page_of va))) (offset va))
  unfolding translate
  translate_at i r v = simp (lt-ltb, r, v)

  -- one of them it is
  data Way : Type 0 where
    outside : s.ptl ≤ (page_of va).0 → translate s main w va ≡ Illegal → Way
    denied : (page_of va).0 < s.ptl → has w (entry s main (page_of va)) ≡ false → translate s main w va ≡ Illegal → Way
    faults : Absent s main w va → translate s main w va ≡ Fault → Way
    goes : (i : ℕ) → Through s main w va i → translate s main w va ≡ At i → Way

  way : Way
  way = pick (ltb (page_of va).0 s.ptl) refl (has w (entry s main (page_of va))) refl (valid (entry s main (page_of va))) refl
    where
      pick : (a : Bool) → ltb (page_of va).0 s.ptl ≡ a → (b : Bool) → has w (entry s main (page_of va)) ≡ b
          → (c : Bool) → valid (entry s main (page_of va)) ≡ c → Way
      pick false ea b eb c ec = let o : s.ptl ≤ (page_of va).0 = ltb-false _ _ ea in outside o (translate_outside o)
      pick true ea false eb c ec = let i : (page_of va).0 < s.ptl = ltb-true _ _ ea in denied i eb (translate_denied i eb)
      pick true ea true eb false ec =
          let i : (page_of va).0 < s.ptl = ltb-true _ _ ea in
          faults (record { inside = i; right = eb; away = ec }) (translate_fault i eb ec)
      pick true ea true eb true ec =
          let i : (page_of va).0 < s.ptl = ltb-true _ _ ea in
          goes _ (record { inside = i; right = eb; here = ec; at = refl }) (translate_at i eb ec)

pub through : (s : Shape) (main : List ℕ) (w : Bool) (va i : ℕ) → translate s main w va ≡ At i → Through s main w va i
through s main w va i q = pick (way s main w va)
  where
    pick : Way s main w va → Through s main w va i
    pick (outside o e) = clash (cc)
    pick (denied n r e) = clash (cc)
    pick (faults t e) = clash (cc)
    pick (goes j t e) = let z : j ≡ i = cc in rw z at t

pub absent : (s : Shape) (main : List ℕ) (w : Bool) (va : ℕ) → translate s main w va ≡ Fault → Absent s main w va
absent s main w va q = pick (way s main w va)
  where
    pick : Way s main w va → Absent s main w va
    pick (outside o e) = clash (cc)
    pick (denied n r e) = clash (cc)
    pick (faults t e) = t
    pick (goes j t e) = clash (cc)

-- an aligned access ends in its page
pub ends : (width : Width) (va : ℕ) → aligned (size width) va ≡ true → offset va + size width ≤ 4096
ends byte va a = omega arith
ends half va a = let z : va % 2 ≡ 0 = eqb-true _ _ a in omega arith
ends word va a = let z : va % 4 ≡ 0 = eqb-true _ _ a in omega arith

pub in_main : (s : Shape) (main : List ℕ) → Safe s main → (w : Bool) (width : Width) (va i : ℕ) → aligned (size width) va ≡ true
    → translate s main w va ≡ At i → i + size width ≤ length main
in_main s main g w width va i a q =
    let t : Through s main w va i = through s main w va i q in
    omega (arith, ends width va a, (g.framed (page_of va) t.inside t.here).1, g.fit.frames_in, g.fit.main_long, t.at)

module _ (s : Shape) (m : Memory) where
  -- ---- which accesses are legal
  -- the flat machine's answer, where the page has an entry
  allow_inside : (w : Bool) (va : ℕ) → (page_of va).0 < s.ptl
      → (has w (entry s m.main (page_of va)) ≡ true → allow (flat_rights s m.main) w va ≡ At va)
      × (has w (entry s m.main (page_of va)) ≡ false → allow (flat_rights s m.main) w va ≡ Illegal)
  unfolding allow
  allow_inside w va i =
      ((λ r. simp (length-below, lt-ltb, rights, grants_rights, r)), (λ r. simp (length-below, lt-ltb, rights, grants_rights, r)))
    where
      rights : get_or (flat_rights s m.main) (page_of va).0 0 ≡ rights_byte (entry s m.main (page_of va))
      rights = get_or-below s.ptl (λ x. rights_byte (entry s m.main (virtual x))) (page_of va).0 0 i

  pub legal : (w : Bool) (va i : ℕ) → translate s m.main w va ≡ At i → allow (flat_rights s m.main) w va ≡ At va
  legal w va i q = let t : Through s m.main w va i = through s m.main w va i q in (allow_inside w va t.inside).0 t.right

  -- what faults is legal
  pub permits : (w : Bool) (va : ℕ) → translate s m.main w va ≡ Fault → allow (flat_rights s m.main) w va ≡ At va
  permits w va q = let t : Absent s m.main w va = absent s m.main w va q in (allow_inside w va t.inside).0 t.right

  pub illegal : (w : Bool) (va : ℕ) → translate s m.main w va ≡ Illegal → allow (flat_rights s m.main) w va ≡ Illegal
  unfolding allow
  illegal w va q = pick (way s m.main w va)
    where
      pick : Way s m.main w va → allow (flat_rights s m.main) w va ≡ Illegal
      pick (outside o e) = simp (length-below, le-ltb)
      pick (denied i r e) = (allow_inside w va i).1 r
      pick (faults t e) = clash (cc)
      pick (goes j t e) = clash (cc)

  -- ---- what is read
  -- the byte of the flat memory
  pub bytes_at : (va : ℕ) → va < 4096 * s.ptl → get_or (flat_bytes s m) va 0 ≡ flat_byte s m va
  bytes_at va h = get_or-below (4096 * s.ptl) (λ z. flat_byte s m z) va 0 h

  -- the bytes of an aligned access lie in its page
  pub within : (width : Width) (va k : ℕ) → aligned (size width) va ≡ true → k < size width
      → (page_of (va + k) ≡ page_of va) × (offset (va + k) ≡ offset va + k)
  within width va k a h =
      let z : offset va + size width ≤ 4096 = ends width va a in
      (ap virtual (omega arith), omega arith)

  pub reads : (w : Bool) (width : Width) (va i : ℕ) → aligned (size width) va ≡ true → translate s m.main w va ≡ At i
      → number (size width) m.main i ≡ number (size width) (flat_bytes s m) va
  reads w width va i a q =
      let t : Through s m.main w va i = through s m.main w va i q in
      number_same (size width) m.main (flat_bytes s m) i va (λ k r.
      let g : (page_of (va + k) ≡ page_of va) × (offset (va + k) ≡ offset va + k) = within width va k a r in
      let e : (page_of (va + k)).0 ≡ (page_of va).0 = ap (λ (x : VirtualPage). x.0) g.0 in
      sym (bytes_at (va + k) (omega (arith, t.inside))
      ∙ flat_here s m (va + k) (ap (λ z. valid (entry s m.main z)) g.0 ∙ t.here)
      ∙ ap₂ (λ (x : VirtualPage) (y : ℕ). get_or m.main (main_at (ppx (entry s m.main x)) y) 0) g.0 g.1
      ∙ ap (λ (j : ℕ). get_or m.main j 0) (omega (arith, t.at))))
