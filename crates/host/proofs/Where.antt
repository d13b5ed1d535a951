-- Where the flat memory has va: in main memory, or in swap. And the marks after a byte there.
use mathlib.Core.Path.{◌≡◌, refl, sym, ap, ap₂, ◌∙◌}
use mathlib.Core.Bool.{Bool, true, false}
use mathlib.Core.List.{List}
use Prim.Native.Nat.{ℕ, ◌+◌, ◌-◌, ◌%◌, ◌<◌, ◌≤◌}
use borrow.Author.Tests.{eq-eqb, ne_eqb}
use Rattle.model.specs.Pages.{page_of, offset, main_at, frame_in, swap_of, swap_at}
use Rattle.model.specs.Table.{entry, ppx, valid}
use Rattle.model.specs.Frames.{with_mark}
use Rattle.model.specs.Calls.{mark_for, marks_for}
use Rattle.model.specs.declared.Shape.{Shape}
use Rattle.model.specs.declared.VirtualPage.{VirtualPage}
use Rattle.model.specs.declared.MainPage.{MainPage}
use Rattle.model.specs.declared.SwapPage.{SwapPage}
use Rattle.laws.specs.Good.{Safe}
use Rattle.laws.proofs.Choice.{clash}
use Rattle.laws.proofs.Host.{marks_ends}
use Rattle.host.specs.declared.home.Home.{Home}
use Rattle.host.specs.declared.home.Home.TheVariants.{Main, Swap}
use Rattle.host.specs.Home.{home_of}

-- ---- by the entry of va's page
module _ (s : Shape) (main : List ℕ) (va : ℕ) where
  pub home_main : entry s main (page_of va) % 2 ≡ 1 → home_of s main va ≡ Main (main_at (ppx (entry s main (page_of va))) (offset va))
  unfolding home_of
  home_main v = simp (eq-eqb _ _ v)

-- ---- by the entry e of va's page x
module _ (s : Shape) (main : List ℕ) (va : ℕ) (x : VirtualPage) (hx : x ≡ page_of va) (e : ℕ) (he : e ≡ entry s main x) where
  is : e ≡ entry s main (page_of va)
  is = he ∙ ap (entry s main) hx

  pub home_swap : (i : ℕ) → (e % 2 ≡ 1 → ⊥) → (p : SwapPage) → p ≡ swap_of s x → i ≡ swap_at p (offset va) → Swap i ≡ home_of s main va
  unfolding home_of
  home_swap i v p hp hi = simp (← is, ne_eqb _ _ v, hi, hp, hx)

  -- main page p is that of a frame
  pub in_frames : Safe s main → (page_of va).0 < s.ptl → e % 2 ≡ 1 → (p : MainPage) → p ≡ ppx e → (s.abase ≤ p.0) × (p.0 < s.abase + s.frames)
  in_frames safe inside v p hp = rw (hp, is) (safe.framed (page_of va) inside (ap valid (sym is) ∙ eq-eqb _ _ v))

  pub mark_main : (r marks : ℕ) → e % 2 ≡ 1 → (p : MainPage) → p ≡ ppx e → (f : ℕ) → f ≡ frame_in s p → r ≡ with_mark marks f → r ≡ mark_for s main va marks
  unfolding mark_for
  mark_main r marks v p hp f hf hr = simp (← is, eq-eqb _ _ v, hr, hf, hp)

  pub mark_swap : (marks : ℕ) → (e % 2 ≡ 1 → ⊥) → marks ≡ mark_for s main va marks
  unfolding mark_for
  mark_swap marks v = simp (← is, ne_eqb _ _ v)

-- ---- n bytes from va on: none, or a first and a last
module _ (s : Shape) (main : List ℕ) (va n marks : ℕ) where
  pub mark_none : n ≡ 0 → marks ≡ marks_for s main va n marks
  unfolding marks_for
  mark_none e = rw e refl

  pub mark_ends : (r last first : ℕ) → r ≡ mark_for s main last first → first ≡ mark_for s main va marks → last ≡ va + (n - 1) → 0 < n → n ≤ 4096
      → r ≡ marks_for s main va n marks
  mark_ends r last first e d q some most = e ∙ ap₂ (mark_for s main) q d ∙ sym (marks_ends s main va n marks some most)

-- ---- what the answer h says
pub record InMain (s : Shape) (main : List ℕ) (va i : ℕ) : Type 0 where
  pub here : valid (entry s main (page_of va)) ≡ true
  pub at : i ≡ main_at (ppx (entry s main (page_of va))) (offset va)

pub record InSwap (s : Shape) (main : List ℕ) (va i : ℕ) : Type 0 where
  pub away : valid (entry s main (page_of va)) ≡ false
  pub at : i ≡ swap_at (swap_of s (page_of va)) (offset va)

module _ (s : Shape) (main : List ℕ) (va : ℕ) (h : Home) (e : h ≡ home_of s main va) (i : ℕ) where
  pub in_main : h ≡ Main i → InMain s main va i
  unfolding home_of
  in_main q = pick (valid (entry s main (page_of va))) refl
    where
      pick : (b : Bool) → valid (entry s main (page_of va)) ≡ b → InMain s main va i
      pick true v = let z : h ≡ Main (main_at (ppx (entry s main (page_of va))) (offset va)) = simp v at e in record { here = v; at = cc }
      pick false v = let z : h ≡ Swap (swap_at (swap_of s (page_of va)) (offset va)) = simp v at e in clash (cc)

  pub in_swap : h ≡ Swap i → InSwap s main va i
  unfolding home_of
  in_swap q = pick (valid (entry s main (page_of va))) refl
    where
      pick : (b : Bool) → valid (entry s main (page_of va)) ≡ b → InSwap s main va i
      pick false v = let z : h ≡ Swap (swap_at (swap_of s (page_of va)) (offset va)) = simp v at e in record { away = v; at = cc }
      pick true v = let z : h ≡ Main (main_at (ppx (entry s main (page_of va))) (offset va)) = simp v at e in clash (cc)
