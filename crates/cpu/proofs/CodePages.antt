-- What makes a code page `Found`, and the page of an address; what it is good for.
use mathlib.Core.Path.{◌≡◌, refl, sym, ap, ◌∙◌}
use mathlib.Core.Bool.{Bool, true, false, not, true≢false}
use mathlib.Core.List.{List}
use Prim.Native.Nat.{ℕ, ◌^◌, ◌<◌}
use native.Mathlib.Omega.{arith}
use borrow.Author.Tests.{eq-eqb, not-true}
use lib.Dec.{eqb}
use Rattle.model.specs.Pages.{page_of, offset, main_at}
use Rattle.model.specs.Table.{entry, ppx, valid}
use Rattle.model.specs.Translate.{has, translate}
use Rattle.model.specs.declared.Shape.{Shape}
use Rattle.model.specs.declared.VirtualPage.{VirtualPage}
use Rattle.model.specs.declared.MainPage.{MainPage}
use Rattle.model.specs.declared.Access.{Access}
use Rattle.model.specs.declared.Access.TheVariants.{At}
use Rattle.laws.proofs.Seated.{same_page_lem}
use Rattle.laws.proofs.Access.{Through, through, translate_at}
use Rattle.cpu.specs.declared.code.CodePage.{CodePage}
use Rattle.cpu.specs.Found.{Found, Finds}

module _ (s : Shape) (main : List ℕ) where
  -- no address is on page 2^20, and va cannot be read
  pub nowhere : (va : ℕ) (a : Access) → a ≡ translate s main false va → ((i : ℕ) → a ≡ At i → ⊥) → (x : VirtualPage) → x.0 ≡ 2 ^ 20 → (p : MainPage)
      → Found s main (record { page = x; frame = p }) × Finds s main va (record { page = x; frame = p })
  nowhere va a says none x e p = (λ y l z. absurd (omega (arith, z, e)), λ i h. absurd (none i (says ∙ h)))

  -- a is what the access to va says, and x the page of va
  module _ (va : ℕ) (x : VirtualPage) (is-page : x ≡ page_of va) (a : Access) (says : a ≡ translate s main false va) (i : ℕ) (at : a ≡ At i) where
    t : Through s main false va i
    t = through s main false va i (sym says ∙ at)

    pub in_table : x.0 < s.ptl
    in_table = rw is-page t.inside

    -- where one address of a page is read, all are
    pub stands : (e : ℕ) → e ≡ entry s main x → (p : MainPage) → p ≡ ppx e
        → Found s main (record { page = x; frame = p }) × Finds s main va (record { page = x; frame = p })
    stands e is-entry p is-frame = (
      λ y l z.
          let q : page_of y ≡ page_of va = same_page_lem z ∙ is-page in
          let n : (page_of y).0 ≡ (page_of va).0 = ap (λ (v : VirtualPage). v.0) q in
          translate_at s main false y (omega (arith, n, t.inside)) (ap (λ v. has false (entry s main v)) q ∙ t.right)
          (ap (λ v. valid (entry s main v)) q ∙ t.here)
          ∙ ap (λ v. At (main_at (ppx (entry s main v)) (offset y))) q
          ∙ rw (is-frame, is-entry, is-page) refl,
      λ i h. ap (λ (v : VirtualPage). v.0) (sym is-page),
    )

  -- the place of an address on a code page
  pub covered : (c : CodePage) → Found s main c → (va : ℕ) → va < 2 ^ 32 → (page_of va).0 ≡ c.page.0
      → (i : ℕ) → i ≡ main_at c.frame (offset va) → At i ≡ translate s main false va
  covered c h va l on i q = ap At q ∙ sym (h va l on)

  -- an address that is not on the code page found for it cannot be read
  pub uncovered : (c : CodePage) (va : ℕ) → Finds s main va c → (on : Bool) → on ≡ eqb (page_of va).0 c.page.0 → not on ≡ true
      → (i : ℕ) → translate s main false va ≡ At i → ⊥
  uncovered c va h on e z i at = true≢false (sym (eq-eqb _ _ (h i at)) ∙ sym e ∙ not-true on z)

-- a code page goes over to a main memory with the same accesses
pub found_over : (s : Shape) (main main' : List ℕ) (c : CodePage) → ((w : Bool) (va : ℕ) → translate s main' w va ≡ translate s main w va)
    → Found s main c → Found s main' c
found_over s main main' c e h va l z = e false va ∙ h va l z
