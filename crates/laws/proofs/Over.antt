-- Laws of numbers over a part of a list: none, one, one by one, one part behind another, and what is read afterwards.
use mathlib.Core.Path.{◌≡◌, sym, ap, ap₂, ◌∙◌}
use mathlib.Core.List.{List, [], ◌∷◌, ◌++◌, append_assoc}
use Prim.Native.Nat.{ℕ, suc, ◌+◌, ◌≤◌, ◌<◌}
use native.Mathlib.Nat.{add_assoc}
use native.Mathlib.Numerals.{add-one}
use native.Mathlib.Omega.{arith}
use lib.ListN.{length, get_or, set, take, drop, length-append, length-drop}
use lib.Seq.{length-take-le, take-length, take_at, drop_at, drop-append-add, drop-drop, take-append_seam, append_snoc, set_split, paste, paste-zero, paste-suc}
use Rattle.laws.specs.Over.{over}

pub over_none : (at : ℕ) (l : List ℕ) → over at [] l ≡ l
over_none at l = sym (paste-zero l at [])

pub over_one : (at x : ℕ) (l : List ℕ) → at < length l → set l at x ≡ over at (x ∷ []) l
over_one at x l h = rw add-one (set_split l at x h ∙ sym (append_snoc (take at l) x (drop (suc at) l)))

-- ---- a part written number by number
module _ (l : List ℕ) (at : ℕ) (s : List ℕ) (i : ℕ) where
  pub over_more : at + i < length l → i < length s → set (paste l at s i) (at + i) (get_or s i 0) ≡ paste l at s (i + 1)
  over_more hl hs = rw add-one (paste-suc l at s i 0 hl hs)

  pub over_done : length s ≡ i → paste l at s i ≡ over at s l
  over_done e = rw (← e) (ap (λ r. take at l ++ r ++ drop (at + length s) l) (take-length s))

-- ---- a part that lies in the list
module _ (at : ℕ) (s l : List ℕ) (inside : at + length s ≤ length l) where
  before : length (take at l) ≡ at
  before = length-take-le at l (omega arith)

  with_part : length (take at l ++ s) ≡ at + length s
  with_part = simp length-append (omega (arith, before))

  pub length_over : length (over at s l) ≡ length l
  length_over = simp (length-append, length-drop) (omega (arith, before))

  -- all up to the part's end, what stands behind that, and the part alone
  pub take-over : take (at + length s) (over at s l) ≡ take at l ++ s
  take-over = take_at (take at l ++ s) (drop (at + length s) l) (at + length s) with_part

  pub drop-over : (n : ℕ) → drop (at + length s + n) (over at s l) ≡ drop (at + length s + n) l
  drop-over n =
      ap (λ k. drop (k + n) (over at s l)) (sym with_part) ∙ drop-append-add (take at l ++ s) (drop (at + length s) l) n
      ∙ drop-drop n (at + length s) l

  pub part_over : take (length s) (drop at (over at s l)) ≡ s
  part_over =
      ap (λ r. take (length s) (drop at r)) (append_assoc (take at l) s (drop (at + length s) l))
      ∙ ap (λ r. take (length s) r) (drop_at (take at l) (s ++ drop (at + length s) l) at before)
      ∙ take-append_seam s (drop (at + length s) l)

  -- another part right behind it
  pub over_over : (t : List ℕ) → over (at + length s) t (over at s l) ≡ over at (s ++ t) l
  over_over t =
      ap₂ (λ x y. x ++ t ++ y) take-over (drop-over (length t))
      ∙ ap₂ (λ x n. x ++ drop n l) (append_assoc (take at l) s t) (add_assoc at (length s) (length t) ∙ ap (λ n. at + n) (sym (length-append s t)))
