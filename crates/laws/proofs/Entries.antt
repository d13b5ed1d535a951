-- The fields of the entries that the handler and the host write, and the rights of an entry.
use mathlib.Core.Path.{◌≡◌, sym, ap, ◌∙◌}
use mathlib.Core.Bool.{Bool, true, false}
use Prim.Native.Nat.{ℕ, ◌^◌, ◌<◌}
use native.Mathlib.Omega.{arith}
use lib.Dec.{eqb}
use Rattle.model.specs.Words.{low, field}
use Rattle.model.specs.Table.{ppx, valid, spare, kept, put_out, brought_to, with_spare}
use Rattle.model.specs.Translate.{has}
use Rattle.model.specs.Flat.{rights_byte, grants}
use Rattle.model.specs.declared.MainPage.{MainPage}
use Rattle.laws.specs.Entries.{SamePlace}

pub ppx_brought : (p : MainPage) (e : ℕ) → p.0 < 2 ^ 20 → (ppx (brought_to p e)).0 ≡ p.0
ppx_brought p e h = omega arith

pub valid_brought : (p : MainPage) (e : ℕ) → valid (brought_to p e) ≡ true
valid_brought p e = let z : low 1 (brought_to p e) ≡ 1 = omega arith in ap (λ (n : ℕ). eqb n 1) z

pub ppx_out : (e : ℕ) → (ppx (put_out e)).0 ≡ 0
ppx_out e = omega arith

pub valid_out : (e : ℕ) → valid (put_out e) ≡ false
valid_out e = let z : low 1 (put_out e) ≡ 0 = omega arith in ap (λ (n : ℕ). eqb n 1) z

-- both fit a word
pub brought_fits : (p : MainPage) (e : ℕ) → p.0 < 2 ^ 20 → brought_to p e < 2 ^ 32
brought_fits p e h = omega arith

pub out_fits : (e : ℕ) → put_out e < 2 ^ 32
out_fits e = omega arith

-- a load keeps bits 11–1 of both, and with them the rights and the spare bits
pub kept_brought : (p : MainPage) (e : ℕ) → kept (brought_to p e) ≡ kept e
kept_brought p e = omega arith

pub kept_out : (e : ℕ) → kept (put_out e) ≡ kept e
kept_out e = omega arith

rights_in_kept : (e : ℕ) → rights_byte (kept e) ≡ rights_byte e
rights_in_kept e =
    let r : field 2 1 (kept e) ≡ field 2 1 e = omega arith in
    let w : field 1 1 (kept e) ≡ field 1 1 e = omega arith in
    omega arith

pub same_rights : (e e' : ℕ) → kept e' ≡ kept e → rights_byte e' ≡ rights_byte e
same_rights e e' k = sym (rights_in_kept e') ∙ ap rights_byte k ∙ rights_in_kept e

spare_in_kept : (e : ℕ) → spare (kept e) ≡ spare e
spare_in_kept e = omega arith

pub same_spare : (e e' : ℕ) → kept e' ≡ kept e → spare e' ≡ spare e
same_spare e e' k = sym (spare_in_kept e') ∙ ap spare k ∙ spare_in_kept e

-- ---- the host changes bits 11–3 and no other
module _ (v e : ℕ) (h : v < 512) where
  pub spare_with : spare (with_spare v e) ≡ v
  spare_with = omega (arith, h)

  pub with_fits : with_spare v e < 2 ^ 32
  with_fits = omega (arith, h)

  -- with 0 there, both are the same
  pub with_rest : with_spare 0 (with_spare v e) ≡ with_spare 0 e
  with_rest = omega (arith, h)

-- what has the same bits beside them names the same place and has the same rights
module _ (e : ℕ) where
  abbrev rest : ℕ
  rest = with_spare 0 e

  ppx_in_rest : ppx rest ≡ ppx e
  ppx_in_rest = let p : field 12 20 rest ≡ field 12 20 e = omega arith in ap (λ (n : ℕ). record { 0 = n }) p

  valid_in_rest : valid rest ≡ valid e
  valid_in_rest = let b : low 1 rest ≡ low 1 e = omega arith in ap (λ (n : ℕ). eqb n 1) b

  rights_in_rest : rights_byte rest ≡ rights_byte e
  rights_in_rest =
      let r : field 2 1 rest ≡ field 2 1 e = omega arith in
      let w : field 1 1 rest ≡ field 1 1 e = omega arith in
      omega arith

pub rest_place : (e e' : ℕ) → with_spare 0 e' ≡ with_spare 0 e → SamePlace e e'
rest_place e e' r = record {
  names = sym (ppx_in_rest e') ∙ ap ppx r ∙ ppx_in_rest e;
  there = sym (valid_in_rest e') ∙ ap valid r ∙ valid_in_rest e;
}

pub rest_rights : (e e' : ℕ) → with_spare 0 e' ≡ with_spare 0 e → rights_byte e' ≡ rights_byte e
rest_rights e e' r = sym (rights_in_rest e') ∙ ap rights_byte r ∙ rights_in_rest e

-- the same entry is in the same place
pub same_place : {e e' : ℕ} → e' ≡ e → SamePlace e e'
same_place q = record { names = ap ppx q; there = ap valid q }

-- a rights byte grants what its entry has
pub grants_rights : (writing : Bool) (e : ℕ) → grants writing (rights_byte e) ≡ has writing e
grants_rights true e = let z : field 1 1 (rights_byte e) ≡ field 1 1 e = omega arith in ap (λ (n : ℕ). eqb n 1) z
grants_rights false e = let z : low 1 (rights_byte e) ≡ field 2 1 e = omega arith in ap (λ (n : ℕ). eqb n 1) z
