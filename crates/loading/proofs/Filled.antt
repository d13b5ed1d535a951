-- The memories while they are filled: main with zeros, then with entries, and swap with pages.
use Rattle.std.proofs.Common.{◌≡◌, ℕ, zero, suc, ◌+◌, ◌-◌, ◌*◌, ◌/◌, ◌%◌, ◌<◌, ◌≤◌, List, [], ◌∷◌, ◌++◌, length, get_or, take, drop, replicate, sym, refl, ap, ◌∙◌, ap₂, add-one, arith, length-append, length-drop, length-take-le, take_all, take-suc, drop-drop, take_at, drop_at}
use lib.Seq.{sets-eq}
use Rattle.model.specs.Bytes.{store}
use Rattle.model.specs.Image.{invalid_entry, invalid_entries}
use Rattle.laws.proofs.Fresh.{length_entries}

-- ---- zeros
zeros_left : (v n k : ℕ) → drop k (replicate n v) ≡ replicate (n - k) v
zeros_left v zero zero = refl
zeros_left v zero (suc k) = let e : 0 ≡ 0 - suc k = omega arith in ap (λ (m : ℕ). replicate m v) e
zeros_left v (suc n) zero = let e : suc n ≡ suc n - 0 = omega arith in ap (λ (m : ℕ). replicate m v) e
zeros_left v (suc n) (suc k) = let e : n - k ≡ suc n - suc k = omega arith in zeros_left v n k ∙ ap (λ (m : ℕ). replicate m v) e

-- ---- a list whose first i elements have come, and the next n come: they stand between what came and what is left
module _ (came d : List ℕ) (i : ℕ) (e : length came ≡ i) where
  first : take i (came ++ drop i d) ≡ came
  first = take_at came (drop i d) i e

  left : (n : ℕ) → drop (i + n) (came ++ drop i d) ≡ drop (i + n) d
  left n = sym (drop-drop n i (came ++ drop i d)) ∙ ap (λ (l : List ℕ). drop n l) (drop_at came (drop i d) i e) ∙ drop-drop n i d

-- ---- entries
entries_append : (r s : List ℕ) → invalid_entries (r ++ s) ≡ invalid_entries r ++ invalid_entries s
unfolding invalid_entries
entries_append [] s = refl
entries_append (x ∷ r) s = ap (λ (t : List ℕ). invalid_entry x ∷ 0 ∷ 0 ∷ 0 ∷ t) (entries_append r s)

-- a word below 256
store_small : (l : List ℕ) (i v : ℕ) → v < 256 → i + 4 ≤ length l
    → store 4 l i v ≡ take i l ++ (v ∷ 0 ∷ 0 ∷ 0 ∷ []) ++ drop (i + 4) l
unfolding store
store_small l i v h k =
    let a : v % 256 ≡ v = omega arith in
    let b : v / 256 ≡ 0 = omega arith in
    rw (a, b) (sets-eq (v ∷ 0 ∷ 0 ∷ 0 ∷ []) l i k)

-- the entries of x pages have come to d
module _ (r d : List ℕ) (x : ℕ) (h : x < length r) (k : 4 * length r ≤ length d) where
  before : length (invalid_entries (take x r)) ≡ 4 * x
  before = length_entries (take x r) ∙ ap (λ (n : ℕ). 4 * n) (length-take-le x r (omega arith))

  one_entry : invalid_entries (take x r) ++ (invalid_entry (get_or r x 0) ∷ 0 ∷ 0 ∷ 0 ∷ []) ≡ invalid_entries (take (x + 1) r)
  unfolding invalid_entries
  one_entry = rw (add-one, take-suc r x 0) (sym (entries_append (take x r) (get_or r x 0 ∷ [])))

  pub entries_step : (e : ℕ) → e ≡ invalid_entry (get_or r x 0)
      → store 4 (invalid_entries (take x r) ++ drop (4 * x) d) (4 * x) e ≡ invalid_entries (take (x + 1) r) ++ drop (4 * (x + 1)) d
  entries_step e q =
      let came = invalid_entries (take x r) in
      let b = before in
      let n : 4 * x + 4 ≡ 4 * (x + 1) = omega arith in
      store_small _ (4 * x) e (omega arith) (simp (length-append, length-drop) (omega arith))
      ∙ ap₂ (λ (u w : List ℕ). u ++ (e ∷ 0 ∷ 0 ∷ 0 ∷ []) ++ w) (first came d (4 * x) b) (left came d (4 * x) b 4)
      ∙ ap₂ (λ (u : List ℕ) (m : ℕ). u ++ drop m d) (ap (λ (v : ℕ). came ++ (v ∷ 0 ∷ 0 ∷ 0 ∷ [])) q ∙ one_entry) n

-- all have come
pub entries_all : (r d : List ℕ) (x : ℕ) → x ≤ length r → length r ≤ x
    → invalid_entries (take x r) ++ drop (4 * x) d ≡ invalid_entries r ++ drop (4 * length r) d
entries_all r d x h k = let e : x ≡ length r = omega arith in rw (take_all x r k, e)

pub zeros_behind : (r : List ℕ) (n : ℕ)
    → invalid_entries r ++ drop (4 * length r) (replicate n 0) ≡ invalid_entries r ++ replicate (n - 4 * length r) 0
zeros_behind r n = ap (λ (l : List ℕ). invalid_entries r ++ l) (zeros_left 0 n (4 * length r))
