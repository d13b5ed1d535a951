-- For all words, assembling the listing gives the words back; for all whole words of bytes, the two calls give the bytes back.
use mathlib.Core.Bool.{true}
use mathlib.Core.Path.{◌≡◌, refl, ap, ◌∙◌}
use mathlib.Core.List.{List, [], ◌∷◌, ◌++◌}
use Prim.Native.Nat.{ℕ, zero, suc, ◌+◌, ◌*◌, ◌/◌, ◌%◌, ◌^◌, ◌≤◌, ◌<◌}
use native.Mathlib.Omega.{arith}
use borrow.Author.Tests.{not-true, le-leb, eq-eqb}
use lib.Dec.{eqb}
use lib.ListN.{length, get_or, drop}
use lib.Seq.{take-append_seam}
use Rattle.std.specs.Prelude.{Ok}
use Rattle.model.specs.Choice.{list_below}
use Rattle.model.specs.Bytes.{number}
use Rattle.laws.specs.Over.{over}
use Rattle.laws.proofs.Choice.{and_left, and_right, below_same, length-below}
use Rattle.laws.proofs.Bytes.{number_below}
use Rattle.notation.specs.Text.{lines, words, read_from, read_text}
use Rattle.notation.specs.Listing.{listed, listing}
use Rattle.notation.specs.Calls.{bytes_of, bytes_of_word, words_of, assemble_outcome, assemble_call, list_call}
use Rattle.grammar.proofs.Short.{short}
use Rattle.makers.specs.PageBack.{Below, CallBack, PageBack}
use Rattle.makers.proofs.Every.{every}
use Rattle.makers.proofs.Pieces.{in_line}
use Rattle.makers.proofs.Lines.{Line, listed_line}

-- ---- words
-- a text without a newline is a line
line_first : (a rest : List ℕ) → every in_line a ≡ true → lines (a ++ 10 ∷ rest) ≡ a ∷ lines rest
unfolding lines every in_line
line_first [] rest p = refl
line_first (c ∷ a) rest p =
    rw (not-true (eqb c 10) (and_left (in_line c) (every in_line a) p), line_first a rest (and_right (in_line c) (every in_line a) p))

from_back : (k : ℕ) (ws : List ℕ) → Below (2 ^ 32) ws → read_from k (lines (listing ws)) ≡ words ws
unfolding Below listing read_from lines
from_back k [] h = refl
from_back k (w ∷ ws) h =
    let l : Line w (listed w) = listed_line w h.0 in
    rw (line_first (listed w) (listing ws) l.one, from_back (k + 1) ws h.1, l.back)

words_back : (ws : List ℕ) → Below (2 ^ 32) ws → read_text (listing ws) ≡ words ws
unfolding read_text
words_back ws h = from_back 1 ws h

-- ---- bytes
-- the four bytes of a word
abbrev word : ℕ → ℕ → ℕ → ℕ → ℕ
word a b c d = a + 256 * (b + 256 * (c + 256 * (d + 256 * 0)))

low_byte : (a more : ℕ) → a < 256 → (a + 256 * more) % 256 ≡ a
low_byte a more h = omega arith

word_back : (a b c d : ℕ) → a < 256 → b < 256 → c < 256 → d < 256 → (l : List ℕ) → bytes_of_word (word a b c d) l ≡ a ∷ b ∷ c ∷ d ∷ l
word_back a b c d ha hb hc hd l =
    let w = word a b c d in
    let p : w / 256 ≡ b + 256 * (c + 256 * (d + 256 * 0)) = omega arith in
    let q : w / 65536 ≡ c + 256 * (d + 256 * 0) = omega arith in
    let r : w / 16777216 ≡ d + 256 * 0 = omega arith in
    rw (p, q, r, low_byte a (b + 256 * (c + 256 * (d + 256 * 0))) ha, low_byte b (c + 256 * (d + 256 * 0)) hb, low_byte c (d + 256 * 0) hc, low_byte d 0 hd)

-- a number four bytes further on
number_further : (a b c d : ℕ) (l : List ℕ) (i : ℕ) → number 4 (a ∷ b ∷ c ∷ d ∷ l) (4 * suc i) ≡ number 4 l (4 * i)
unfolding number
number_further a b c d l i = let e : 4 * suc i ≡ suc (suc (suc (suc (4 * i)))) = omega arith in rw e

four_back : (n : ℕ) (l : List ℕ) → Below 256 l → length l ≡ 4 * n → bytes_of (list_below n (λ i. number 4 l (4 * i))) ≡ l
unfolding Below bytes_of list_below number
four_back zero [] h e = refl
four_back zero (a ∷ l) h e = absurd (omega arith)
four_back (suc n) [] h e = absurd (omega arith)
four_back (suc n) (a ∷ []) h e = absurd (omega arith)
four_back (suc n) (a ∷ b ∷ []) h e = absurd (omega arith)
four_back (suc n) (a ∷ b ∷ c ∷ []) h e = absurd (omega arith)
four_back (suc n) (a ∷ b ∷ c ∷ d ∷ l) h e =
    ap (λ (ws : List ℕ). bytes_of_word (word a b c d) (bytes_of ws)) (below_same n _ _ (λ i _. number_further a b c d l i))
    ∙ ap (λ (r : List ℕ). bytes_of_word (word a b c d) r) (four_back n l h.1.1.1.1 (omega arith))
    ∙ word_back a b c d h.0 h.1.0 h.1.1.0 h.1.1.1.0 l

bytes_back : (bytes : List ℕ) → Below 256 bytes → length bytes % 4 ≡ 0 → bytes_of (words_of bytes) ≡ bytes
unfolding words_of
bytes_back bytes h e = four_back (length bytes / 4) bytes h (omega arith)

-- bytes make words
below_at : (b : ℕ) (l : List ℕ) → Below b l → 0 < b → (k : ℕ) → get_or l k 0 < b
unfolding Below
below_at b [] h some k = some
below_at b (x ∷ l) h some zero = h.0
below_at b (x ∷ l) h some (suc k) = below_at b l h.1 some k

below_list : (b n : ℕ) (f : ℕ → ℕ) → ((i : ℕ) → f i < b) → Below b (list_below n f)
unfolding Below list_below
below_list b zero f h = tt
below_list b (suc n) f h = (h 0, below_list b n (λ i. f (suc i)) (λ i. h (suc i)))

words_below : (bytes : List ℕ) → Below 256 bytes → Below (2 ^ 32) (words_of bytes)
unfolding words_of
words_below bytes h = below_list (2 ^ 32) (length bytes / 4) _ (λ i. number_below bytes (below_at 256 bytes h (omega arith)) 4 (4 * i))

-- ---- the calls
module _ (bytes again : List ℕ) (h : Below 256 bytes) (e : length bytes % 4 ≡ 0) (fits : length bytes ≤ length again) where
  as_many : 4 * length (words_of bytes) ≡ length bytes
  unfolding words_of
  as_many = omega (arith, length-below (length bytes / 4) (λ i. number 4 bytes (4 * i)))

  assembled : assemble_call (listing (words_of bytes)) again ≡ assemble_outcome (Ok (length bytes)) (over 0 bytes again)
  unfolding assemble_call
  assembled =
      rw (words_back (words_of bytes) (words_below bytes h), as_many, bytes_back bytes h e, le-leb (length bytes) (length again) fits)

  calls_back : (out : List ℕ) → length (listing (words_of bytes)) ≤ length out → CallBack (list_call bytes out) bytes again
  unfolding list_call
  calls_back out room =
      let text : List ℕ = listing (words_of bytes) in
      rw (eq-eqb (length bytes % 4) 0 e, le-leb (length text) (length out) room)
      (record {
        granted = refl;
        assembled = ap (λ (t : List ℕ). assemble_call t again) (take-append_seam text (drop (0 + length text) out)) ∙ assembled;
      })

-- ---- the theorem
pub page_back : PageBack
page_back = record {
  words_back = words_back;
  bytes_back = bytes_back;
  calls_back = λ bytes out again h e room fits. calls_back bytes again h e fits out room;
  short_lines = short;
}
