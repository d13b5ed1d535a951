-- Entries after an entry or a page is written, and the flat memory by cases.
use mathlib.Core.Path.{◌≡◌, refl, sym, ap, ◌∙◌}
use mathlib.Core.Bool.{Bool, true, false}
use mathlib.Core.List.{List}
use Prim.Native.Nat.{ℕ, ◌+◌, ◌*◌, ◌^◌, ◌<◌, ◌≤◌}
use native.Mathlib.Omega.{arith}
use native.Mathlib.Nat.{mod-eq_of_lt}
use lib.ListN.{length, get_or}
use Rattle.model.specs.Bytes.{with_page}
use Rattle.model.specs.Pages.{page_of, offset, entry_at, main_at, swap_of, swap_at}
use Rattle.model.specs.Table.{entry, with_entry, ppx, valid}
use Rattle.model.specs.State.{Memory}
use Rattle.model.specs.Translate.{flat_byte}
use Rattle.model.specs.declared.Shape.{Shape}
use Rattle.model.specs.declared.VirtualPage.{VirtualPage}
use Rattle.model.specs.declared.MainPage.{MainPage}
use Rattle.laws.specs.Good.{Fit}
use Rattle.laws.specs.Named.{Off}
use Rattle.laws.specs.Entries.{SamePlace}
use Rattle.laws.proofs.Entries.{same_place}
use Rattle.laws.proofs.Bytes.{number_same, number_other, number_store, store_other, length-store, with_page_other}

module _ (s : Shape) (main : List ℕ) where
  pub entry_same : Fit s (length main) → (x : VirtualPage) (e : ℕ) → x.0 < s.ptl → e < 2 ^ 32 → entry s (with_entry s main x e) x ≡ e
  unfolding entry with_entry
  entry_same h x e q l = number_store 4 main (entry_at s x) e (omega (arith, h.table_in, h.frames_in, h.main_long)) ∙ mod-eq_of_lt l

  pub entry_other : (x : VirtualPage) (e : ℕ) (y : VirtualPage) → (y.0 ≡ x.0 → ⊥) → entry s (with_entry s main x e) y ≡ entry s main y
  unfolding entry with_entry
  entry_other x e y n = number_other 4 4 main (entry_at s x) e (entry_at s y) (λ k r q. omega (arith, n, q))

  -- a page of the frames, or behind them
  pub entry_page : Fit s (length main) → (p : ℕ) (b : List ℕ) (x : VirtualPage) → x.0 < s.ptl → s.abase ≤ p → 4096 * p + 4096 ≤ length main
      → length b ≡ 4096 → entry s (with_page main p b) x ≡ entry s main x
  unfolding entry
  entry_page h p b x q a l e =
      number_same 4 (with_page main p b) main (entry_at s x) (entry_at s x)
      (λ k r. with_page_other main p b l e (entry_at s x + k) (λ z. absurd (omega (arith, z, h.table_in))))

  -- the table lies below the frames: where main memory is the same outside them, so is every entry
  pub entry_off : (main' : List ℕ) → Fit s (length main) → ((j : ℕ) → Off (4096 * s.abase) (4096 * s.frames) j → get_or main' j 0 ≡ get_or main j 0)
      → (x : VirtualPage) → x.0 < s.ptl → entry s main' x ≡ entry s main x
  unfolding entry
  entry_off main' h o x q =
      number_same 4 main' main (entry_at s x) (entry_at s x) (λ i r. o (entry_at s x + i) (λ z. absurd (omega (arith, z, h.table_in))))

  -- the bytes beside an entry
  pub byte_other : (x : VirtualPage) (e i : ℕ) → Off (entry_at s x) 4 i → get_or (with_entry s main x e) i 0 ≡ get_or main i 0
  unfolding with_entry
  byte_other x e i o = store_other 4 main (entry_at s x) e i 0 o

  pub byte_above : Fit s (length main) → (x : VirtualPage) (e i : ℕ) → x.0 < s.ptl → 4096 * s.abase ≤ i → get_or (with_entry s main x e) i 0 ≡ get_or main i 0
  byte_above h x e i q a = byte_other x e i (λ z. omega (arith, h.table_in))

  pub length-entry : (x : VirtualPage) (e : ℕ) → length (with_entry s main x e) ≡ length main
  unfolding with_entry
  length-entry x e = length-store 4 main (entry_at s x) e

-- ---- the flat memory by cases
module _ (s : Shape) (m : Memory) (va : ℕ) where
  pub flat_here : valid (entry s m.main (page_of va)) ≡ true
      → flat_byte s m va ≡ get_or m.main (main_at (ppx (entry s m.main (page_of va))) (offset va)) 0
  unfolding flat_byte
  flat_here e = rw (flat_byte, e)

  pub flat_away : valid (entry s m.main (page_of va)) ≡ false → flat_byte s m va ≡ get_or m.swap (swap_at (swap_of s (page_of va)) (offset va)) 0
  unfolding flat_byte
  flat_away e = rw (flat_byte, e)

-- where the entry names the same place, and the byte there is the same
pub flat_placed : (s : Shape) (m m' : Memory) (va : ℕ) → SamePlace (entry s m.main (page_of va)) (entry s m'.main (page_of va))
    → (valid (entry s m.main (page_of va)) ≡ true
    → get_or m'.main (main_at (ppx (entry s m.main (page_of va))) (offset va)) 0 ≡ get_or m.main (main_at (ppx (entry s m.main (page_of va))) (offset va)) 0)
    → (valid (entry s m.main (page_of va)) ≡ false
    → get_or m'.swap (swap_at (swap_of s (page_of va)) (offset va)) 0 ≡ get_or m.swap (swap_at (swap_of s (page_of va)) (offset va)) 0)
    → flat_byte s m' va ≡ flat_byte s m va
flat_placed s m m' va e f g = pick (valid (entry s m.main (page_of va))) refl
  where
    pick : (b : Bool) → valid (entry s m.main (page_of va)) ≡ b → flat_byte s m' va ≡ flat_byte s m va
    pick true q =
        flat_here s m' va (e.there ∙ q) ∙ ap (λ (x : MainPage). get_or m'.main (main_at x (offset va)) 0) e.names ∙ f q ∙ sym (flat_here s m va q)
    pick false q = flat_away s m' va (e.there ∙ q) ∙ g q ∙ sym (flat_away s m va q)

pub flat_same : (s : Shape) (m m' : Memory) (va : ℕ) → entry s m'.main (page_of va) ≡ entry s m.main (page_of va)
    → (valid (entry s m.main (page_of va)) ≡ true
    → get_or m'.main (main_at (ppx (entry s m.main (page_of va))) (offset va)) 0 ≡ get_or m.main (main_at (ppx (entry s m.main (page_of va))) (offset va)) 0)
    → (valid (entry s m.main (page_of va)) ≡ false
    → get_or m'.swap (swap_at (swap_of s (page_of va)) (offset va)) 0 ≡ get_or m.swap (swap_at (swap_of s (page_of va)) (offset va)) 0)
    → flat_byte s m' va ≡ flat_byte s m va
flat_same s m m' va e = flat_placed s m m' va (same_place e)
