-- A listing, word by word: a line more, the room of a line, and whether what is left fits.
use mathlib.Core.Bool.{Bool, true, false}
use mathlib.Core.Path.{◌≡◌, refl, sym, ap, ap₂, ◌∙◌}
use mathlib.Core.List.{List, [], ◌∷◌, ◌++◌, append_assoc}
use Prim.Native.Nat.{ℕ, zero, suc, ◌+◌, ◌-◌, ◌*◌, ◌/◌, ◌≤◌, ◌<◌}
use native.Mathlib.Numerals.{add-one}
use native.Mathlib.Omega.{arith}
use lib.Dec.{leb}
use lib.ListN.{length, get_or, take, drop, length-append, length-drop, length-map, take-append-drop, drop_of_length-le}
use lib.Seq.{take-suc, drop-cons, get_or-drop}
use borrow.Author.Tests.{le-leb, lt-leb, leb-true}
use Rattle.model.specs.Bytes.{number}
use Rattle.model.specs.Choice.{list_below}
use Rattle.laws.proofs.Bytes.{number_same}
use Rattle.laws.proofs.Choice.{below_same, same_test}
use Rattle.std.specs.Int.{w32, from_le_bytes}
use Rattle.std.specs.Simd.{first_chunks}
use Rattle.std.proofs.lemmas.List.{get_or-map}
use Rattle.lister.specs.Words.{numbers}
use Rattle.notation.specs.Listing.{listed, listing}
use Rattle.notation.specs.Calls.{words_of}

-- ---- the words of a list of bytes
number_first : (l : List ℕ) → 4 ≤ length l → from_le_bytes w32 (take 4 l) ≡ number 4 l 0
unfolding number
number_first [] h = absurd (omega (arith, h))
number_first (a ∷ []) h = absurd (omega (arith, h))
number_first (a ∷ b ∷ []) h = absurd (omega (arith, h))
number_first (a ∷ b ∷ c ∷ []) h = absurd (omega (arith, h))
number_first (a ∷ b ∷ c ∷ d ∷ l) h = omega arith

chunked : (k : ℕ) (l : List ℕ) → 4 * k ≤ length l → numbers (first_chunks 4 k l) ≡ list_below k (λ i. number 4 l (4 * i))
unfolding list_below
chunked zero l h = refl
chunked (suc k) l h =
    ap₂ {B = List ℕ} {C = List ℕ} (λ x xs. x ∷ xs) (number_first l (omega (arith, h)))
    (chunked k (drop 4 l) (omega (arith, h, length-drop 4 l))
    ∙ below_same k (λ i. number 4 (drop 4 l) (4 * i)) (λ i. number 4 l (4 * suc i))
    (λ i q. number_same 4 (drop 4 l) l (4 * i) (4 * suc i) (λ j r. get_or-drop 4 l (4 * i + j) 0 ∙ ap (λ n. get_or l n 0) (omega arith))))

pub chunks : (bytes : List ℕ) → numbers (first_chunks 4 (length bytes / 4) bytes) ≡ words_of bytes
unfolding words_of
chunks bytes = chunked (length bytes / 4) bytes (omega arith)

-- w is the word at i
pub record Stands (ws : List ℕ) (i w : ℕ) : Type 0 where
  pub inside : i < length ws
  pub here : get_or ws i 0 ≡ w

pub words_length : (words : List (List ℕ)) → length (numbers words) ≡ length words
words_length words = length-map words (λ bytes. from_le_bytes w32 bytes)

pub stands : (words : List (List ℕ)) (i w : ℕ) (d : List ℕ) → i < length words → w ≡ from_le_bytes w32 (get_or words i d) → Stands (numbers words) i w
stands words i w d h e = record {
  inside = omega (arith, words_length words);
  here = get_or-map (λ bytes. from_le_bytes w32 bytes) words i d 0 h ∙ sym e;
}

-- ---- the lines
listing_append : (a b : List ℕ) → listing (a ++ b) ≡ listing a ++ listing b
unfolding listing
listing_append [] b = refl
listing_append (w ∷ a) b = ap (λ l. listed w ++ 10 ∷ l) (listing_append a b) ∙ sym (append_assoc (listed w) (10 ∷ listing a) (listing b))

pub no_lines : [] ≡ listing []
unfolding listing
no_lines = refl

pub all_fit : (ws : List ℕ) (i left : ℕ) → length ws ≤ i → true ≡ leb (length (listing (drop i ws))) left
unfolding listing
all_fit ws i left h = rw (drop_of_length-le ws {i = i} h) (sym (le-leb 0 left (omega arith)))

module _ {ws : List ℕ} {i w : ℕ} (s : Stands ws i w) where
  pub line_more : listing (take i ws) ++ (listed w ++ 10 ∷ []) ≡ listing (take (i + 1) ws)
  unfolding listing
  line_more =
      sym (listing_append (take i ws) (w ∷ []))
      ∙ ap listing (ap (λ x. take i ws ++ (x ∷ [])) (sym s.here) ∙ sym (take-suc ws i 0 s.inside) ∙ ap (λ n. take n ws) (sym (add-one i)))

  line_first : length (listing (drop i ws)) ≡ length (listed w) + (1 + length (listing (drop (i + 1) ws)))
  unfolding listing
  line_first =
      let e : drop i ws ≡ w ∷ drop (i + 1) ws = drop-cons ws i 0 s.inside ∙ ap₂ (λ x n. x ∷ drop n ws) s.here (sym (add-one i)) in
      omega (arith, ap (λ l. length (listing l)) e, length-append (listed w) (10 ∷ listing (drop (i + 1) ws)))

  -- a line has room behind those before it where all lines have
  pub line_room : length (listing (take i ws)) + length (listed w) + 1 ≤ length (listing ws)
  line_room =
      omega (
        arith,
        line_first,
        length-append (listing (take i ws)) (listing (drop i ws)),
        ap length (listing_append (take i ws) (drop i ws)),
        ap (λ l. length (listing l)) (take-append-drop i ws),
      )

  module _ (n left : ℕ) (e : n ≡ 0 + length (listed w)) where
    -- the lines from i on fit where those behind it fit in what it leaves
    pub line_fits : n < left → leb (length (listing (drop (i + 1) ws))) (left - (n + 1)) ≡ leb (length (listing (drop i ws))) left
    line_fits h =
        let l = length (listing (drop (i + 1) ws)) in
        let m = length (listing (drop i ws)) in
        same_test (leb l (left - (n + 1))) (leb m left)
        (λ t. le-leb m left (omega (arith, line_first, leb-true l (left - (n + 1)) t)))
        (λ t. le-leb l (left - (n + 1)) (omega (arith, line_first, leb-true m left t)))

    pub line_over : left ≤ n → false ≡ leb (length (listing (drop i ws))) left
    line_over h = sym (lt-leb (length (listing (drop i ws))) left (omega (arith, line_first)))

-- the words behind a line that does not fit do not fit
pub words_over : (words : List (List ℕ)) (i w n left : ℕ) (d : List ℕ) {b : Bool} → i < length words → w ≡ from_le_bytes w32 (get_or words i d)
    → n ≡ 0 + length (listed w) → left ≤ n → leb (length (listing (drop i (numbers words)))) left ≡ b → false ≡ b
words_over words i w n left d h e p l k = line_over (stands words i w d h e) n left p l ∙ k
