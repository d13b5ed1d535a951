-- A text has no more lines than bytes, and no line longer than itself: so the line and the column of a bad line are small where the text is
-- (`bad_few`), and so are those that `assemble` answers. What the calls write lies within the output lent (`assemble_few`, `listing_inside`).
use mathlib.Core.Path.{◌≡◌, refl, sym, subst}
use mathlib.Core.List.{List, [], ◌∷◌}
use Prim.Native.Nat.{ℕ, zero, suc, ◌+◌, ◌*◌, ◌%◌, ◌≤◌}
use native.Mathlib.Nat.{le_trans}
use native.Mathlib.Omega.{arith}
use lib.Dec.{eqb, leb}
use lib.ListN.{length, get_or}
use borrow.Author.Tests.{leb-true}
use Rattle.std.specs.Prelude.{Ok, Err}
use Rattle.model.specs.declared.Refusal.{Refusal}
use Rattle.laws.specs.Over.{over}
use Rattle.laws.proofs.Choice.{chosen}
use Rattle.laws.proofs.Over.{length_over}
use Rattle.notation.specs.Line.{line_of}
use Rattle.notation.specs.Text.{before, lines, Reading, words, bad, with, judged, read_from, read_text}
use Rattle.notation.specs.Listing.{listing}
use Rattle.notation.specs.Calls.{bytes_of, words_of, AssembleOutcome, assemble_by, assemble_call, ListOutcome, list_call}
use Rattle.notation.specs.Answers.{Parsed, wrong}
use Rattle.grammar.proofs.Line.{line_wrong}

-- ---- a text's lines
abbrev AtMost : ℕ → List (List ℕ) → Type 0
AtMost n ls = length ls ≤ n

before_few : (c : ℕ) (ls : List (List ℕ)) → length (before c ls) ≤ length ls + 1
before_few c [] = omega arith
before_few c (l ∷ ls) = omega arith

pub lines_few : (text : List ℕ) → length (lines text) ≤ length text
unfolding lines
lines_few [] = omega arith
lines_few (c ∷ cs) =
    let few = lines_few cs in
    chosen (AtMost (suc (length cs))) (eqb c 10) (λ _. omega arith) (λ _. omega (arith, before_few c (lines cs)))

-- no line is longer than n
abbrev pub NoneLonger : ℕ → List (List ℕ) → Type 0
NoneLonger n ls = (i : ℕ) → length (get_or ls i []) ≤ n

newline_short : (n : ℕ) (ls : List (List ℕ)) → NoneLonger n ls → NoneLonger (suc n) ([] ∷ ls)
newline_short n ls h zero = omega arith
newline_short n ls h (suc i) = omega (arith, h i)

before_short : (c n : ℕ) (ls : List (List ℕ)) → NoneLonger n ls → NoneLonger (suc n) (before c ls)
before_short c n [] h zero = omega arith
before_short c n [] h (suc i) = omega arith
before_short c n (l ∷ ls) h zero = omega (arith, h 0)
before_short c n (l ∷ ls) h (suc i) = omega (arith, h (suc i))

pub lines_short : (text : List ℕ) → NoneLonger (length text) (lines text)
unfolding lines
lines_short [] = λ i. omega arith
lines_short (c ∷ cs) =
    let h = lines_short cs in
    chosen (NoneLonger (suc (length cs))) (eqb c 10) (λ _. newline_short (length cs) (lines cs) h) (λ _. before_short c (length cs) (lines cs) h)

-- ---- a bad line: its number is at most m, its column at most n and one more
abbrev Placed : ℕ → ℕ → Reading → Type 0
Placed m n (words ws) = Unit
Placed m n (bad r line column) = (line ≤ m) × (column ≤ n + 1)

module _ (m n : ℕ) where
  with_placed : (w : ℕ) (b : Reading) → Placed m n b → Placed m n (with w b)
  with_placed w (words ws) p = p
  with_placed w (bad r line column) p = p

  judged_placed : (k : ℕ) (p : Parsed) (b : Reading) → k ≤ m → ((r : Refusal) (q : ℕ) → p ≡ Err (wrong r q) → q ≤ n) → Placed m n b
      → Placed m n (judged k p b)
  judged_placed k (Ok (w, next)) b h f g = with_placed w b g
  judged_placed k (Err w) b h f g = (h, omega (arith, f w.refusal w.place refl))

  read_placed : (k : ℕ) (ls : List (List ℕ)) → k + length ls ≤ m + 1 → NoneLonger n ls → Placed m n (read_from k ls)
  unfolding read_from
  read_placed k [] h s = tt
  read_placed k (l ∷ ls) h s =
      judged_placed k (line_of l) (read_from (k + 1) ls) (omega arith) (λ r q e. le_trans (line_wrong l r q e) (s 0))
      (read_placed (k + 1) ls (omega arith) (λ i. s (suc i)))

module _ (text : List ℕ) where
  text_placed : Placed (length text) (length text) (read_text text)
  unfolding read_text
  text_placed = read_placed (length text) (length text) 1 (lines text) (omega (arith, lines_few text)) (lines_short text)

  pub bad_few : (r : Refusal) (n column : ℕ) → read_text text ≡ bad r n column → (n ≤ length text) × (column ≤ length text + 1)
  bad_few r n column e = subst (Placed (length text) (length text)) e text_placed

-- ---- the numbers that the calls answer
-- a word has four bytes
pub length-bytes : (ws : List ℕ) → length (bytes_of ws) ≡ 4 * length ws
unfolding bytes_of
length-bytes [] = refl
length-bytes (w ∷ ws) = omega (arith, length-bytes ws)

-- n bytes that there is room for lie within the output afterwards
within : (n : ℕ) (s out : List ℕ) → n ≡ length s → n ≤ length out → n ≤ length (over 0 s out)
within n s out e h = omega (arith, length_over 0 s out (omega arith))

pub record Few (n : ℕ) (o : AssembleOutcome) : Type 0 where
  pub line : o.numbers.line ≤ n
  pub column : o.numbers.column ≤ n + 1
  pub inside : o.numbers.length ≤ length o.out

few_by : (n : ℕ) (out : List ℕ) (b : Reading) → Placed n n b → Few n (assemble_by b out)
few_by n out (words ws) p =
    chosen (Few n) (leb (4 * length ws) (length out))
    (λ e. record {
      line = omega arith;
      column = omega arith;
      inside = within (4 * length ws) (bytes_of ws) out (sym (length-bytes ws)) (leb-true (4 * length ws) (length out) e);
    })
    (λ _. record { line = omega arith; column = omega arith; inside = omega arith })
few_by n out (bad r line column) p = record { line = p.0; column = p.1; inside = omega arith }

pub assemble_few : (text out : List ℕ) → Few (length text) (assemble_call text out)
unfolding assemble_call
assemble_few text out = few_by (length text) out (read_text text) (text_placed text)

abbrev Inside : ListOutcome → Type 0
Inside o = o.numbers.length ≤ length o.out

pub listing_inside : (bytes out : List ℕ) → (list_call bytes out).numbers.length ≤ length (list_call bytes out).out
unfolding list_call
listing_inside bytes out =
    let text = listing (words_of bytes) in
    chosen Inside (eqb (length bytes % 4) 0)
    (λ _.
    chosen Inside (leb (length text) (length out)) (λ e. within (length text) text out refl (leb-true (length text) (length out) e))
    (λ _. omega arith))
    (λ _. omega arith)
