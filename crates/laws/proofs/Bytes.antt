-- Laws of numbers and pages in a list of bytes: what is read after a store, and after a page is put in.
use mathlib.Core.Path.{◌≡◌, refl, sym, ap, ap₂, ◌∙◌}
use mathlib.Core.Bool.{true, false≢true}
use mathlib.Core.List.{List, [], ◌∷◌, ◌++◌}
use Prim.Native.Nat.{ℕ, zero, suc, ◌+◌, ◌-◌, ◌*◌, ◌/◌, ◌%◌, ◌^◌, ◌<◌, ◌≤◌}
use native.Mathlib.Omega.{arith}
use native.Mathlib.Nat.{suc-add, add-suc, add-zero, not-suc-le-zero, mod-one, div-div-eq-div-mul, pow-suc, mul_comm, add_comm}
use native.Mathlib.Decide.{dec_lt}
use native.Mathlib.Numerals.{add-one, add-two, add-three}
use lib.Arith.{mod-mul}
use lib.Dec.{lit<, eqb}
use lib.ListN.{length, get_or, set, take, drop, length-set, get_or-append, length-append, length-take, length-drop}
use borrow.Author.Tests.{eqb-true, eq-eqb}
use lib.Seq.{get_or-set_same, get_or-set_other, get_or-append-add, get_or-take, get_or-drop, length-take-le, take_at, drop_at}
use Rattle.model.specs.Bytes.{number, store, page, with_page, same}
use Rattle.laws.specs.Named.{Off}
use Rattle.laws.proofs.Choice.{and_left, and_right, and_both}

-- ---- numbers
-- two numbers are the same where their bytes are
pub number_same : (n : ℕ) (l l' : List ℕ) (i i' : ℕ) → ((k : ℕ) → k < n → get_or l (i + k) 0 ≡ get_or l' (i' + k) 0) → number n l i ≡ number n l' i'
unfolding number
number_same zero l l' i i' h = refl
number_same (suc n) l l' i i' h =
    ap₂ (λ (x y : ℕ). x + 256 * y)
    (ap (λ (k : ℕ). get_or l k 0) (sym (add-zero i)) ∙ h 0 (omega arith) ∙ ap (λ (k : ℕ). get_or l' k 0) (add-zero i'))
    (number_same n l l' (suc i) (suc i') (λ k q.
    ap (λ (j : ℕ). get_or l j 0) (suc-add i k ∙ sym (add-suc i k)) ∙ h (suc k) (omega arith) ∙ ap (λ (j : ℕ). get_or l' j 0) (add-suc i' k ∙ sym (suc-add i' k))))

pub length-store : (n : ℕ) (l : List ℕ) (i v : ℕ) → length (store n l i v) ≡ length l
unfolding store
length-store zero l i v = refl
length-store (suc n) l i v = length-store n (set l i (v % 256)) (suc i) (v / 256) ∙ length-set l i (v % 256)

pub store_other : (n : ℕ) (l : List ℕ) (i v j d : ℕ) → Off i n j → get_or (store n l i v) j d ≡ get_or l j d
unfolding store
store_other zero l i v j d a = refl
store_other (suc n) l i v j d a =
    store_other n (set l i (v % 256)) (suc i) (v / 256) j d (λ h. omega (arith, a (omega arith)))
    ∙ get_or-set_other l i j (v % 256) d (λ e. omega (arith, a (omega arith)))

-- the byte that a store leaves first
store_first : (n : ℕ) (l : List ℕ) (i v d : ℕ) → i < length l → get_or (store n (set l i (v % 256)) (suc i) (v / 256)) i d ≡ v % 256
store_first n l i v d h =
    store_other n (set l i (v % 256)) (suc i) (v / 256) i d (λ q. absurd (omega (arith, q))) ∙ get_or-set_same l i (v % 256) d h

-- the bytes that a store leaves depend on its number alone
pub store_same : (n : ℕ) (l l' : List ℕ) (i i' v k d : ℕ) → k < n → i + n ≤ length l → i' + n ≤ length l'
    → get_or (store n l i v) (i + k) d ≡ get_or (store n l' i' v) (i' + k) d
unfolding store
store_same zero l l' i i' v k d h a b = absurd (not-suc-le-zero h)
store_same (suc n) l l' i i' v zero d h a b =
    ap (λ (j : ℕ). get_or (store n (set l i (v % 256)) (suc i) (v / 256)) j d) (add-zero i) ∙ store_first n l i v d (omega arith)
    ∙ sym (ap (λ (j : ℕ). get_or (store n (set l' i' (v % 256)) (suc i') (v / 256)) j d) (add-zero i') ∙ store_first n l' i' v d (omega arith))
store_same (suc n) l l' i i' v (suc k) d h a b =
    ap (λ (j : ℕ). get_or (store n (set l i (v % 256)) (suc i) (v / 256)) j d) (add-suc i k ∙ sym (suc-add i k))
    ∙ store_same n (set l i (v % 256)) (set l' i' (v % 256)) (suc i) (suc i') (v / 256) k d (omega arith)
    (omega (arith, length-set l i (v % 256))) (omega (arith, length-set l' i' (v % 256)))
    ∙ ap (λ (j : ℕ). get_or (store n (set l' i' (v % 256)) (suc i') (v / 256)) j d) (suc-add i' k ∙ sym (add-suc i' k))

some_power : (n : ℕ) → 0 < 256 ^ n
some_power zero = lit< tt
some_power (suc n) = rw (pow-suc 256 n) (omega (arith, some_power n))

-- what is stored is read back
pub number_store : (n : ℕ) (l : List ℕ) (i v : ℕ) → i + n ≤ length l → number n (store n l i v) i ≡ v % 256 ^ n
unfolding store number
number_store zero l i v h = sym (mod-one v)
number_store (suc n) l i v h =
    ap₂ (λ (x y : ℕ). x + 256 * y) (store_first n l i v 0 (omega arith))
    (number_store n (set l i (v % 256)) (suc i) (v / 256) (omega (arith, length-set l i (v % 256))))
    ∙ ap (λ (x : ℕ). v % 256 + x) (mul_comm 256 (v / 256 % 256 ^ n)) ∙ add_comm (v % 256) (v / 256 % 256 ^ n * 256)
    ∙ sym (ap (λ (x : ℕ). v % x) (pow-suc 256 n) ∙ mod-mul v (some_power n) (lit< tt))

-- n bytes are a number below 256^n
pub number_below : (l : List ℕ) → ((k : ℕ) → get_or l k 0 < 256) → (n i : ℕ) → number n l i < 256 ^ n
unfolding number
number_below l h zero i = omega arith
number_below l h (suc n) i = rw (pow-suc 256 n) (omega (arith, h i, number_below l h n (suc i)))

-- a number beside a store
pub number_other : (n k : ℕ) (l : List ℕ) (i v j : ℕ) → ((m : ℕ) → m < k → Off i n (j + m)) → number k (store n l i v) j ≡ number k l j
number_other n k l i v j h = number_same k (store n l i v) l j j (λ m q. store_other n l i v (j + m) 0 (h m q))

-- ---- pages
pub length-page : (l : List ℕ) (p : ℕ) → 4096 * p + 4096 ≤ length l → length (page l p) ≡ 4096
unfolding page
length-page l p h = simp (length-take, length-drop) (omega arith)

pub get_or-page : (l : List ℕ) (p k : ℕ) → k < 4096 → get_or (page l p) k 0 ≡ get_or l (4096 * p + k) 0
unfolding page
get_or-page l p k h = rw (get_or-take, get_or-drop)

pub length-with_page : (l : List ℕ) (p : ℕ) (b : List ℕ) → 4096 * p + 4096 ≤ length l → length b ≡ 4096 → length (with_page l p b) ≡ length l
unfolding with_page
length-with_page l p b h e = simp (length-append, length-take, length-drop) (omega arith)

-- an element past the first list
get_d_past : (xs ys : List ℕ) (n : ℕ) → length xs ≤ n → get_or (xs ++ ys) n 0 ≡ get_or ys (n - length xs) 0
get_d_past xs ys n h =
    let e : n ≡ length xs + (n - length xs) = omega arith in
    ap (λ k. get_or (xs ++ ys) k 0) e ∙ get_or-append-add xs ys (n - length xs) 0

module _ (l : List ℕ) (p : ℕ) (b : List ℕ) (h : 4096 * p + 4096 ≤ length l) (e : length b ≡ 4096) where
  front : length (take (4096 * p) l) ≡ 4096 * p
  front = length-take-le (4096 * p) l (omega arith)

  page_with_page : page (with_page l p b) p ≡ b
  unfolding page with_page
  page_with_page = rw (drop_at _ _ (4096 * p) front) (take_at b _ 4096 e)

  -- a byte of the page that is put in, and any other
  pub with_page_same : (k : ℕ) → k < 4096 → get_or (with_page l p b) (4096 * p + k) 0 ≡ get_or b k 0
  with_page_same k q = sym (get_or-page (with_page l p b) p k q) ∙ ap (λ z. get_or z k 0) page_with_page

  pub with_page_other : (j : ℕ) → Off (4096 * p) 4096 j → get_or (with_page l p b) j 0 ≡ get_or l j 0
  unfolding with_page
  with_page_other j o = side (dec_lt j (4096 * p))
    where
      side : Dec (j < 4096 * p) → get_or (take (4096 * p) l ++ (b ++ drop (4096 * p + 4096) l)) j 0 ≡ get_or l j 0
      side (yes q) = get_or-append (take (4096 * p) l) _ 0 j (rw front q) ∙ get_or-take (4096 * p) l j 0 q
      side (no n) =
          let q : 4096 * p + 4096 ≤ j = o (omega arith) in
          get_d_past (take (4096 * p) l) _ j (rw front (omega arith))
          ∙ get_d_past b _ _ (rw front (omega arith))
          ∙ get_or-drop (4096 * p + 4096) l _ 0
          ∙ (rw (front, e) (ap (λ k. get_or l k 0) (omega arith)))

-- ---- as code reads and writes them
pub number_two : (l : List ℕ) (i : ℕ) → number 2 l i ≡ get_or l i 0 + 256 * get_or l (i + 1) 0
unfolding number
number_two l i = simp (add-one, add-zero)

pub number_four : (l : List ℕ) (i : ℕ) → number 4 l i ≡ get_or l i 0 + 256 * (get_or l (i + 1) 0 + 256 * (get_or l (i + 2) 0 + 256 * get_or l (i + 3) 0))
unfolding number
number_four l i = simp (add-one, add-two, add-three, add-zero)

pub store_two : (l : List ℕ) (i v : ℕ) → store 2 l i v ≡ set (set l i (v % 256)) (i + 1) (v / 256 % 256)
unfolding store
store_two l i v = sym (simp add-one)

pub store_four : (l : List ℕ) (i v : ℕ)
    → store 4 l i v ≡ set (set (set (set l i (v % 256)) (i + 1) (v / 256 % 256)) (i + 2) (v / 65536 % 256)) (i + 3) (v / 16777216 % 256)
unfolding store
store_four l i v =
    ap₂ (λ (x y : ℕ). set (set (set (set l i (v % 256)) (suc i) (v / 256 % 256)) (suc (suc i)) (x % 256)) (suc (suc (suc i))) (y % 256)) (div-div-eq-div-mul v 256 256) (ap (λ (x : ℕ). x / 256) (div-div-eq-div-mul v 256 256) ∙ div-div-eq-div-mul v 65536 256)
    ∙ sym (simp (add-one, add-two, add-three))

-- ---- two lists are equal, byte by byte
pub same_equal : (a b : List ℕ) → same a b ≡ true → a ≡ b
unfolding same
same_equal [] [] e = refl
same_equal [] (y ∷ ys) e = absurd (false≢true e)
same_equal (x ∷ xs) [] e = absurd (false≢true e)
same_equal (x ∷ xs) (y ∷ ys) e = ap₂ ◌∷◌ (eqb-true x y (and_left (eqb x y) (same xs ys) e)) (same_equal xs ys (and_right (eqb x y) (same xs ys) e))

pub equal_same : (a : List ℕ) → same a a ≡ true
unfolding same
equal_same [] = refl
equal_same (x ∷ xs) = and_both (eqb x x) (same xs xs) (eq-eqb x x refl) (equal_same xs)
