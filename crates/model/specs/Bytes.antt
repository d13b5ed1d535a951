-- Numbers and pages in a list of bytes: "Page size K = 4096. Words and halves are little endian."
use Rattle.std.specs.Prelude.{Bool, true, false, ◌&&◌, List, [], ◌∷◌, ◌++◌, ℕ, zero, suc, ◌+◌, ◌*◌, ◌/◌, ◌%◌, eqb, get_or, take, drop, set}

-- the number of n bytes at i
unfoldable pub number : ℕ → List ℕ → ℕ → ℕ
number zero l i = 0
number (suc n) l i = get_or l i 0 + 256 * number n l (suc i)

-- the list with the n low bytes of v at i
unfoldable pub store : ℕ → List ℕ → ℕ → ℕ → List ℕ
store zero l i v = l
store (suc n) l i v = store n (set l i (v % 256)) (suc i) (v / 256)

-- the 4096 bytes of page p
unfoldable pub page : List ℕ → ℕ → List ℕ
page l p = take 4096 (drop (4096 * p) l)

-- the list with other bytes in the place of page p
unfoldable pub with_page : List ℕ → ℕ → List ℕ → List ℕ
with_page l p bytes = take (4096 * p) l ++ (bytes ++ drop (4096 * p + 4096) l)

-- two lists are equal, byte by byte
unfoldable pub same : List ℕ → List ℕ → Bool
same [] [] = true
same [] (y ∷ ys) = false
same (x ∷ xs) [] = false
same (x ∷ xs) (y ∷ ys) = eqb x y && same xs ys
