-- The words and the record say the same: a record read from its words and written back is those words, and the other way round.
-- So a refusal leaves the words as they were handed in, and a call is handed exactly what the last one left.
use mathlib.Core.Path.{◌≡◌, refl, sym, ap, ap₂, ◌∙◌}
use mathlib.Core.List.{List, [], ◌∷◌, ◌++◌}
use Prim.Native.Nat.{ℕ, zero, suc, ◌+◌, ◌≤◌, ◌<◌}
use native.Mathlib.Omega.{arith}
use lib.ListN.{length, get_or, set, take, length-append, length-map, length-set}
use lib.Seq.{drop-cons, take-add, take_all, set_out}
use Rattle.model.specs.Pages.{virtual}
use Rattle.model.specs.declared.VirtualPage.{VirtualPage}
use Rattle.model.specs.declared.Machine.{Machine}
use Rattle.record.specs.Words.{held_at, gpr_at, dpc_at, record_length, part, pages_of, numbers_of, head_of, tail_of, machine_of, words_of, with_register, with_word}
use Rattle.record.proofs.Parts.{length_part, part_held, part_gpr, tail_at, set_third}

-- the n words from word i on, one by one
abbrev pub each : ℕ → ℕ → List ℕ → List ℕ
each zero i l = []
each (suc n) i l = get_or l i 0 ∷ each n (suc i) l

pub each_part : (n i : ℕ) (l : List ℕ) → i + n ≤ length l → each n i l ≡ part i n l
each_part zero i l h = refl
each_part (suc n) i l h = rw (drop-cons l i 0 (omega arith)) (ap (λ z. get_or l i 0 ∷ z) (each_part n (suc i) l (omega arith)))

-- a page number in and out of its type
number_virtual : (s : List ℕ) → numbers_of (pages_of s) ≡ s
number_virtual [] = refl
number_virtual (x ∷ xs) = ap (λ z. x ∷ z) (number_virtual xs)

pub virtual_number : (b : List VirtualPage) → pages_of (numbers_of b) ≡ b
virtual_number [] = refl
virtual_number (x ∷ xs) = ap (λ z. x ∷ z) (virtual_number xs)

split : (l : List ℕ) → length l ≡ record_length → take held_at l ++ part held_at 32 l ++ part gpr_at 32 l ++ part dpc_at 3 l ≡ l
split l e =
    ap (λ z. z ++ part gpr_at 32 l ++ part dpc_at 3 l) (sym (take-add held_at 32 l)) ∙ ap (λ z. z ++ part dpc_at 3 l) (sym (take-add gpr_at 32 l))
    ∙ sym (take-add dpc_at 3 l) ∙ take_all record_length l (omega arith)

pub words_machine : (l : List ℕ) → length l ≡ record_length → words_of (machine_of l) ≡ l
unfolding machine_of words_of
words_machine l e =
    ap (λ z. each held_at 0 l ++ z ++ part gpr_at 32 l ++ each 3 dpc_at l) (number_virtual (part held_at 32 l))
    ∙ ap₂ (λ y z. y ++ part held_at 32 l ++ part gpr_at 32 l ++ z) (each_part held_at 0 l (omega arith)) (each_part 3 dpc_at l (omega arith))
    ∙ split l e

-- a record read from its words has its array
pub length_held : (l : List ℕ) → length l ≡ record_length → length (machine_of l).book.held ≡ 32
unfolding machine_of
length_held l e = length-map (part held_at 32 l) virtual ∙ length_part held_at 32 l (omega arith)

length-gpr : (l : List ℕ) → length l ≡ record_length → length (machine_of l).gpr ≡ 32
unfolding machine_of
length-gpr l e = length_part gpr_at 32 l (omega arith)

module _ (m : Machine) (eb : length m.book.held ≡ 32) (eg : length m.gpr ≡ 32) where
  abbrev head : List ℕ
  head = head_of m.shape m.book.used m.book.hand

  abbrev numbers : List ℕ
  numbers = numbers_of m.book.held

  abbrev tail : List ℕ
  tail = tail_of m.pcs m.book.marks

  long : length numbers ≡ 32
  long = length-map m.book.held (λ (p : VirtualPage). p.0) ∙ eb

  pub machine_words : machine_of (words_of m) ≡ m
  unfolding machine_of words_of
  machine_words =
      let at = tail_at head numbers m.gpr tail refl long eg in
      simp (part_held head numbers m.gpr tail refl long eg, part_gpr head numbers m.gpr tail refl long eg, at 0, at 1, at 2, virtual_number m.book.held)

  length-words : length (words_of m) ≡ record_length
  unfolding words_of
  length-words = simp (length-append, long, eg)

  -- ---- one register set
  words_register : (i v : ℕ) → i < 32 → words_of (with_register m i v) ≡ set (words_of m) (gpr_at + i) v
  unfolding words_of
  words_register i v h = sym (set_third head numbers m.gpr tail refl long eg i v h)

  -- ---- one word set
  module _ (i v : ℕ) where
    -- the words are those before but for word i
    pub words_with : words_of (with_word m i v) ≡ set (words_of m) i v
    unfolding with_word
    words_with = words_machine (set (words_of m) i v) (length-set (words_of m) i v ∙ length-words)

    -- where there is no word i the record stays as it is
    pub with_none : record_length ≤ i → with_word m i v ≡ m
    unfolding with_word
    with_none h = ap machine_of (set_out (words_of m) i v (omega (arith, length-words))) ∙ machine_words

-- one word set, where register i stands, is that register set
pub register_set : (l : List ℕ) → length l ≡ record_length → (i v : ℕ) → i < 32 → (k : ℕ) → k ≡ gpr_at + i
    → set l k v ≡ words_of (with_register (machine_of l) i v)
register_set l e i v h k is =
    ap (λ n. set l n v) is ∙ ap (λ z. set z (gpr_at + i) v) (sym (words_machine l e))
    ∙ sym (words_register (machine_of l) (length_held l e) (length-gpr l e) i v h)
