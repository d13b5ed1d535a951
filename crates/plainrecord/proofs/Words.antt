-- The words and the record say the same: a record read from its words and written back is those words, and the other way round. The
-- record is its three parts, each put in its place.
use mathlib.Core.Path.{◌≡◌, refl, sym, ap, ap₂, ◌∙◌}
use mathlib.Core.List.{List, [], ◌++◌, append-nil}
use Prim.Native.Nat.{ℕ, ◌+◌, ◌-◌, ◌<◌}
use native.Mathlib.Omega.{arith}
use lib.ListN.{length, get_or, set, take, drop, length-append, length-drop, drop_of_length-le}
use lib.Seq.{take-add, take_all, set-append_left, get_or-append-add}
use Rattle.laws.specs.Over.{over}
use Rattle.record.specs.Words.{part}
use Rattle.record.proofs.Parts.{length_part, set-behind, over_next, part_next}
use Rattle.record.proofs.Words.{each_part}
use Rattle.plainmodel.specs.Calls.{with_register}
use Rattle.plainmodel.specs.declared.Plain.{Plain}
use Rattle.plainrecord.specs.Words.{gpr_at, dpc_at, record_length, head_of, tail_of, plain_of, words_of}

split : (l : List ℕ) → length l ≡ record_length → take gpr_at l ++ part gpr_at 32 l ++ part dpc_at 2 l ≡ l
split l e = ap (λ z. z ++ part dpc_at 2 l) (sym (take-add gpr_at 32 l)) ∙ sym (take-add dpc_at 2 l) ∙ take_all record_length l (omega arith)

pub words_plain : (l : List ℕ) → length l ≡ record_length → words_of (plain_of l) ≡ l
unfolding plain_of words_of
words_plain l e =
    ap₂ (λ y z. y ++ part gpr_at 32 l ++ z) (each_part gpr_at 0 l (omega arith)) (each_part 2 dpc_at l (omega arith)) ∙ split l e

-- ---- the three parts
module _ (h g t : List ℕ) (eh : length h ≡ gpr_at) (eg : length g ≡ 32) where
  two : length (h ++ g) ≡ dpc_at
  two = simp length-append (omega arith)

  part_gpr : part gpr_at 32 (h ++ g ++ t) ≡ g
  part_gpr = part_next h t g gpr_at 32 eh eg

  tail_at : (k : ℕ) → get_or (h ++ g ++ t) (dpc_at + k) 0 ≡ get_or t k 0
  tail_at k = ap (λ n. get_or (h ++ g ++ t) (n + k) 0) (sym two) ∙ get_or-append-add (h ++ g) t k 0

  set_second : (i v : ℕ) → i < 32 → set (h ++ g ++ t) (gpr_at + i) v ≡ h ++ set g i v ++ t
  set_second i v q =
      set-append_left (h ++ g) t (gpr_at + i) v (omega (arith, two))
      ∙ ap (λ z. z ++ t) (ap (λ n. set (h ++ g) (n + i) v) (sym eh) ∙ set-behind h g i v)

  -- they are all, where each is put in its place
  module _ (l : List ℕ) (et : length t ≡ record_length - dpc_at) (el : length l ≡ record_length) where
    abbrev left : List ℕ
    left = drop (length g) (drop (length h) l)

    pub laid : over dpc_at t (over gpr_at g (over 0 h l)) ≡ h ++ g ++ t
    laid =
        ap (λ z. over dpc_at t (over gpr_at g z)) (over_next [] l h 0 refl)
        ∙ ap (λ z. over dpc_at t z) (over_next h (drop (length h) l) g gpr_at eh)
        ∙ over_next (h ++ g) left t dpc_at two
        ∙ ap (λ z. (h ++ g ++ t) ++ z) (drop_of_length-le left {i = length t} (simp length-drop (omega arith)))
        ∙ append-nil (h ++ g ++ t)

module _ (m : Plain) (eg : length m.gpr ≡ 32) where
  pub plain_words : plain_of (words_of m) ≡ m
  unfolding plain_of words_of
  plain_words =
      let at = tail_at (head_of m.ptl) m.gpr (tail_of m.pcs) refl eg in
      simp (part_gpr (head_of m.ptl) m.gpr (tail_of m.pcs) refl eg, at 0, at 1)

  length-words : length (words_of m) ≡ record_length
  unfolding words_of
  length-words = simp (length-append, eg)

  words_register : (i v : ℕ) → i < 32 → words_of (with_register m i v) ≡ set (words_of m) (gpr_at + i) v
  unfolding words_of
  words_register i v h = sym (set_second (head_of m.ptl) m.gpr (tail_of m.pcs) refl eg i v h)

-- one word set, where register i stands, is that register set
pub register_set : (l : List ℕ) → length l ≡ record_length → (i v : ℕ) → i < 32 → (k : ℕ) → k ≡ gpr_at + i
    → set l k v ≡ words_of (with_register (plain_of l) i v)
unfolding plain_of
register_set l e i v h k is =
    ap (λ n. set l n v) is ∙ ap (λ z. set z (gpr_at + i) v) (sym (words_plain l e))
    ∙ sym (words_register (plain_of l) (length_part gpr_at 32 l (omega arith)) i v h)
