-- A comparison under way, a page at a time (`same_page_lem`), and the pages of a machine that stands: what is handed out for each is the flat
-- memory's (`page_flat`).
use mathlib.Core.Path.{◌≡◌, refl, sym, ap, ap₂, ◌∙◌}
use mathlib.Core.Bool.{Bool, true, false, ◌&&◌, and_assoc}
use mathlib.Core.List.{List, [], ◌∷◌}
use Prim.Native.Nat.{ℕ, zero, suc, ◌+◌, ◌*◌, ◌≤◌, ◌<◌}
use native.Mathlib.Nat.{not-suc-le-zero}
use native.Mathlib.Omega.{arith}
use lib.Dec.{eqb}
use lib.ListN.{length, take, drop, length-drop, drop_of_length-le}
use lib.Seq.{drop-drop}
use Rattle.model.specs.Bytes.{same, page}
use Rattle.model.specs.State.{State}
use Rattle.model.specs.Translate.{flat_byte}
use Rattle.model.specs.Flat.{flat_bytes}
use Rattle.model.specs.Calls.{page_bytes}
use Rattle.model.specs.declared.VirtualPage.{VirtualPage}
use Rattle.laws.proofs.Choice.{length-below}
use Rattle.laws.proofs.Bytes.{length-page}
use Rattle.laws.proofs.Seated.{in_frames}
use Rattle.laws.proofs.Host.{view_flat}
use Rattle.host.specs.Home.{Reachable}
use Rattle.comparison.specs.Both.{Stands}

-- what the first i bytes said, and the bytes from i on
abbrev pub So : (a b : List ℕ) → Bool → ℕ → Type 0
So a b equal i = (equal && same (drop i a) (drop i b)) ≡ same a b

and_true : (x : Bool) → (x && true) ≡ x
and_true true = refl
and_true false = refl

pub same_end : (a b : List ℕ) (equal : Bool) (i : ℕ) → So a b equal i → length a ≤ i → length b ≤ i → equal ≡ same a b
unfolding same
same_end a b equal i e p q = sym (and_true equal) ∙ ap (λ x. equal && x) (sym (ap₂ same (drop_of_length-le a p) (drop_of_length-le b q))) ∙ e

-- ---- two lists are equal where their first n elements are, and those behind
same_split : (n : ℕ) (a b : List ℕ) → n ≤ length a → n ≤ length b → (same (take n a) (take n b) && same (drop n a) (drop n b)) ≡ same a b
unfolding same
same_split zero a b h k = refl
same_split (suc n) [] b h k = absurd (not-suc-le-zero h)
same_split (suc n) (x ∷ a) [] h k = absurd (not-suc-le-zero k)
same_split (suc n) (x ∷ a) (y ∷ b) h k =
    and_assoc (eqb x y) (same (take n a) (take n b)) (same (drop n a) (drop n b))
    ∙ ap (λ z. eqb x y && z) (same_split n a b (omega arith) (omega arith))

module _ (a b : List ℕ) (i n : ℕ) (p : i + n ≤ length a) (q : i + n ≤ length b) where
  same_part : (equal : Bool) → So a b equal i → So a b (equal && same (take n (drop i a)) (take n (drop i b))) (i + n)
  same_part equal e =
      let s = same_split n (drop i a) (drop i b) (omega (arith, length-drop i a)) (omega (arith, length-drop i b)) in
      and_assoc equal (same (take n (drop i a)) (take n (drop i b))) (same (drop (i + n) a) (drop (i + n) b))
      ∙ ap (λ z. equal && z) (rw (drop-drop, drop-drop) at s) ∙ e

-- a page more
pub same_page_lem : (a b : List ℕ) (x : ℕ) → 4096 * x + 4096 ≤ length a → 4096 * x + 4096 ≤ length b
    → (equal : Bool) → So a b equal (4096 * x) → So a b (equal && same (page a x) (page b x)) (4096 * (x + 1))
unfolding page
same_page_lem a b x p q equal e =
    let next : 4096 * x + 4096 ≡ 4096 * (x + 1) = omega arith in
    rw (← next) (same_part a b (4096 * x) 4096 p q equal e)

-- ---- the pages of a machine that stands
module _ {p : State} {bytes : List ℕ} (s : Stands p bytes) where
  abbrev whole : List ℕ
  whole = flat_bytes p.machine.shape p.memory

  pub flat_long : length whole ≡ 4096 * p.machine.shape.ptl
  flat_long = length-below (4096 * p.machine.shape.ptl) (λ va. flat_byte p.machine.shape p.memory va)

  pub reachable : Reachable p.machine.shape p.memory.main (length p.memory.swap)
  reachable = record {
    safe = record { fit = s.good.fit; framed = in_frames p.machine.shape p.machine.book p.memory.main s.good.seated };
    whole = s.good.whole;
  }

  module _ (x : VirtualPage) (inside : x.0 < p.machine.shape.ptl) where
    pub page_flat : page_bytes p.machine.shape p.memory x ≡ page whole x.0
    page_flat = view_flat p.machine.shape p.machine.book p.memory s.good.fit s.good.whole s.good.seated x inside

    pub page_long : length (page whole x.0) ≡ 4096
    page_long = length-page whole x.0 (omega (arith, flat_long))
