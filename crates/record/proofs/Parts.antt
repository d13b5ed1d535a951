-- Laws of parts: words read from their places, pages and their numbers, and the whole record as its four parts.
use mathlib.Core.Path.{◌≡◌, refl, sym, ap, ap₂, ◌∙◌}
use mathlib.Core.List.{List, [], ◌∷◌, ◌++◌, append_assoc, append-nil}
use Prim.Native.Nat.{ℕ, suc, ◌+◌, ◌-◌, ◌≤◌, ◌<◌}
use native.Mathlib.Omega.{arith}
use lib.ListN.{length, get_or, set, take, drop, length-append, length-take, length-drop, drop_of_length-le, get_or-map, length-map}
use lib.Seq.{set-append_left, take_at, drop_at, take-append_seam, drop-append-add, get_or-append-add, paste}
use Rattle.std.proofs.lemmas.List.Edits.{paste_more}
use Rattle.model.specs.Pages.{virtual}
use Rattle.model.specs.declared.VirtualPage.{VirtualPage}
use Rattle.laws.specs.Over.{over}
use Rattle.record.specs.Words.{held_at, gpr_at, dpc_at, record_length, part, pages_of}

-- ---- a part read out
pub length_part : (at n : ℕ) (l : List ℕ) → at + n ≤ length l → length (part at n l) ≡ n
length_part at n l h = simp (length-take, length-drop) (omega arith)

-- ---- pages from their numbers: one more has come
pub page_next : (d : List VirtualPage) (l : List ℕ) (i : ℕ) → i < length d → i < length l
    → set (paste d 0 (pages_of l) i) i (virtual (get_or l i 0)) ≡ paste d 0 (pages_of l) (i + 1)
page_next d l i h q =
    let z : i ≡ 0 + i = omega arith in
    ap₂ (λ n p. set (paste d 0 (pages_of l) i) n p) z (sym (get_or-map virtual l i 0))
    ∙ paste_more d 0 (pages_of l) i (virtual 0) (omega (arith, h)) (omega (arith, q, length-map l virtual))

-- ---- the words behind a part
pub set-behind : (p r : List ℕ) (i v : ℕ) → set (p ++ r) (length p + i) v ≡ p ++ set r i v
set-behind [] r i v = let z : 0 + i ≡ i = omega arith in ap (λ n. set r n v) z
set-behind (x ∷ xs) r i v =
    let e : length (x ∷ xs) + i ≡ suc (length xs + i) = omega arith in
    ap (λ n. set (x ∷ (xs ++ r)) n v) e ∙ ap (λ z. x ∷ z) (set-behind xs r i v)

-- ---- the four parts, one behind the other
pub over_next : (p r s : List ℕ) (at : ℕ) → length p ≡ at → over at s (p ++ r) ≡ (p ++ s) ++ drop (length s) r
over_next p r s at e = rw (← e, take-append_seam, drop-append-add)

pub part_next : (p r s : List ℕ) (at n : ℕ) → length p ≡ at → length s ≡ n → part at n ((p ++ s) ++ r) ≡ s
part_next p r s at n e f = ap (λ z. part at n z) (append_assoc p s r) ∙ ap (λ z. take n z) (drop_at p (s ++ r) at e) ∙ take_at s r n f

module _ (h b g t : List ℕ) (eh : length h ≡ held_at) (eb : length b ≡ 32) (eg : length g ≡ 32) where
  two : length (h ++ b) ≡ gpr_at
  two = simp length-append (omega arith)

  three : length (h ++ b ++ g) ≡ dpc_at
  three = simp length-append (omega arith)

  -- what stands where
  pub part_held : part held_at 32 (h ++ b ++ g ++ t) ≡ b
  part_held = ap (λ z. part held_at 32 z) (append_assoc (h ++ b) g t) ∙ part_next h (g ++ t) b held_at 32 eh eb

  pub part_gpr : part gpr_at 32 (h ++ b ++ g ++ t) ≡ g
  part_gpr = part_next (h ++ b) t g gpr_at 32 two eg

  pub tail_at : (k : ℕ) → get_or (h ++ b ++ g ++ t) (dpc_at + k) 0 ≡ get_or t k 0
  tail_at k = ap (λ n. get_or (h ++ b ++ g ++ t) (n + k) 0) (sym three) ∙ get_or-append-add (h ++ b ++ g) t k 0

  -- one word of the third set
  pub set_third : (i v : ℕ) → i < 32 → set (h ++ b ++ g ++ t) (gpr_at + i) v ≡ h ++ b ++ set g i v ++ t
  set_third i v q =
      set-append_left (h ++ b ++ g) t (gpr_at + i) v (omega (arith, three))
      ∙ ap (λ z. z ++ t) (ap (λ n. set (h ++ b ++ g) (n + i) v) (sym two) ∙ set-behind (h ++ b) g i v)

  -- they are all, where each is put in its place
  module _ (l : List ℕ) (et : length t ≡ record_length - dpc_at) (el : length l ≡ record_length) where
    abbrev left : List ℕ
    left = drop (length g) (drop (length b) (drop (length h) l))

    pub laid : over dpc_at t (over gpr_at g (over held_at b (over 0 h l))) ≡ h ++ b ++ g ++ t
    laid =
        ap (λ z. over dpc_at t (over gpr_at g (over held_at b z))) (over_next [] l h 0 refl)
        ∙ ap (λ z. over dpc_at t (over gpr_at g z)) (over_next h (drop (length h) l) b held_at eh)
        ∙ ap (λ z. over dpc_at t z) (over_next (h ++ b) (drop (length b) (drop (length h) l)) g gpr_at two)
        ∙ over_next (h ++ b ++ g) left t dpc_at three
        ∙ ap (λ z. (h ++ b ++ g ++ t) ++ z) (drop_of_length-le left {i = length t} (simp length-drop (omega arith)))
        ∙ append-nil (h ++ b ++ g ++ t)
