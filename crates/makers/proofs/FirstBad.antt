-- What is read of a row of lines: the words of all of them, or the first bad one.
use mathlib.Core.Path.{◌≡◌, refl, sym, ap, ◌∙◌}
use mathlib.Core.List.{List, [], ◌∷◌}
use Prim.Native.Nat.{ℕ, zero, suc, ◌+◌, ◌<◌}
use native.Mathlib.Nat.{not-suc-le-zero}
use native.Mathlib.Omega.{arith}
use lib.ListN.{length, get_or}
use Rattle.std.specs.Prelude.{Ok, Err}
use Rattle.model.specs.declared.Refusal.{Refusal}
use Rattle.laws.proofs.Choice.{clash}
use Rattle.notation.specs.Line.{line_of}
use Rattle.notation.specs.Text.{Reading, words, bad, with, judged, read_from}
use Rattle.notation.specs.Answers.{Parsed, wrong}
use Rattle.makers.specs.Refusals.{HasWord, IsGood}

with_words : (w : ℕ) (b : Reading) {ws : List ℕ} → with w b ≡ words ws → (rest : List ℕ) × (b ≡ words rest) × (ws ≡ w ∷ rest)
with_words w (words rest) e = (rest, refl, cc)
with_words w (bad r line column) e = clash (cc)

with_bad : (w : ℕ) (b : Reading) {r : Refusal} {line column : ℕ} → with w b ≡ bad r line column → b ≡ bad r line column
with_bad w (words rest) e = clash (cc)
with_bad w (bad r line column) e = e

-- ---- every line is good
pub record EachWord (ls : List (List ℕ)) (ws : List ℕ) : Type 0 where
  pub one_each : length ws ≡ length ls
  pub of_line : (i : ℕ) → i < length ls → HasWord (get_or ls i []) (get_or ws i 0)

each_more : {l : List ℕ} {ls : List (List ℕ)} {w next : ℕ} {ws : List ℕ} → line_of l ≡ Ok (w, next) → EachWord ls ws → EachWord (l ∷ ls) (w ∷ ws)
each_more {l} {ls} {w} {next} {ws} e p = record { one_each = ap suc p.one_each; of_line = at }
  where
    at : (i : ℕ) → i < suc (length ls) → HasWord (get_or (l ∷ ls) i []) (get_or (w ∷ ws) i 0)
    at zero h = (next, e)
    at (suc i) h = p.of_line i (omega arith)

pub words_found : (k : ℕ) (ls : List (List ℕ)) (ws : List ℕ) → read_from k ls ≡ words ws → EachWord ls ws
unfolding read_from
words_found k [] ws e =
    let z : [] ≡ ws = cc in
    record { one_each = sym (ap length z); of_line = λ i h. absurd (not-suc-le-zero h) }
words_found k (l ∷ ls) ws e = pick (line_of l) refl e (words_found (k + 1) ls)
  where
    pick : (p : Parsed) → line_of l ≡ p → judged k p (read_from (k + 1) ls) ≡ words ws
        → ((rest : List ℕ) → read_from (k + 1) ls ≡ words rest → EachWord ls rest) → EachWord (l ∷ ls) ws
    pick (Ok (w, next)) q f behind =
        let t = with_words w (read_from (k + 1) ls) f in
        rw t.2 (each_more q (behind t.0 t.1))
    pick (Err w) q f behind = clash (cc)

pub words_are : (k : ℕ) (ls : List (List ℕ)) (ws : List ℕ) → EachWord ls ws → read_from k ls ≡ words ws
unfolding read_from
words_are k [] [] p = refl
words_are k [] (w ∷ ws) p = absurd (omega (arith, p.one_each))
words_are k (l ∷ ls) [] p = absurd (omega (arith, p.one_each))
words_are k (l ∷ ls) (w ∷ ws) p =
    let rest : EachWord ls ws = record { one_each = omega (arith, p.one_each); of_line = λ i h. p.of_line (suc i) (omega arith) } in
    ap (λ q. judged k q (read_from (k + 1) ls)) (p.of_line 0 (omega arith)).1 ∙ ap (with w) (words_are (k + 1) ls ws rest)

-- ---- the first bad line, behind i good ones
pub record BadBehind (ls : List (List ℕ)) (r : Refusal) (i place : ℕ) : Type 0 where
  pub inside : i < length ls
  pub wrong : line_of (get_or ls i []) ≡ Err (wrong r place)
  pub before : (j : ℕ) → j < i → IsGood (get_or ls j [])

behind_good : {l : List ℕ} {ls : List (List ℕ)} {r : Refusal} {i place : ℕ} → IsGood l → BadBehind ls r i place → BadBehind (l ∷ ls) r (suc i) place
behind_good {l} {ls} {r} {i} g p = record { inside = omega arith; wrong = p.wrong; before = at }
  where
    at : (j : ℕ) → j < suc i → IsGood (get_or (l ∷ ls) j [])
    at zero h = g
    at (suc j) h = p.before j (omega arith)

-- line `line` of those that count from k is the first bad one
pub record BadFrom (k : ℕ) (ls : List (List ℕ)) (r : Refusal) (line column : ℕ) : Type 0 where
  pub i : ℕ
  pub place : ℕ
  pub is_line : line ≡ k + i
  pub from_one : column ≡ place + 1
  pub behind : BadBehind ls r i place

pub bad_found : (k : ℕ) (ls : List (List ℕ)) {r : Refusal} {line column : ℕ} → read_from k ls ≡ bad r line column → BadFrom k ls r line column
unfolding read_from
bad_found k [] e = clash (cc)
bad_found k (l ∷ ls) {r} {line} {column} e = pick (line_of l) refl e (bad_found (k + 1) ls)
  where
    pick : (p : Parsed) → line_of l ≡ p → judged k p (read_from (k + 1) ls) ≡ bad r line column
        → (read_from (k + 1) ls ≡ bad r line column → BadFrom (k + 1) ls r line column) → BadFrom k (l ∷ ls) r line column
    pick (Ok (w, next)) q f behind =
        let b = behind (with_bad w (read_from (k + 1) ls) f) in
        record {
          i = suc b.i;
          place = b.place;
          is_line = omega (arith, b.is_line);
          from_one = b.from_one;
          behind = behind_good (w, (next, q)) b.behind;
        }
    pick (Err w) q f behind =
        let z : k ≡ line = cc in
        let is : w.refusal ≡ r = cc in
        record {
          i = 0;
          place = w.place;
          is_line = omega (arith, z);
          from_one = cc;
          behind = record { inside = omega arith; wrong = q ∙ ap (λ x. Err (wrong x w.place)) is; before = λ j h. absurd (not-suc-le-zero h) };
        }

pub bad_is : (k : ℕ) (ls : List (List ℕ)) (r : Refusal) (i place : ℕ) → BadBehind ls r i place → read_from k ls ≡ bad r (k + i) (place + 1)
unfolding read_from
bad_is k [] r i place b = absurd (not-suc-le-zero b.inside)
bad_is k (l ∷ ls) r zero place b =
    ap (λ q. judged k q (read_from (k + 1) ls)) b.wrong ∙ ap (λ n. bad r n (place + 1)) (omega arith)
bad_is k (l ∷ ls) r (suc i) place b =
    let g = b.before 0 (omega arith) in
    let rest : BadBehind ls r i place = record { inside = omega arith; wrong = b.wrong; before = λ j h. b.before (suc j) (omega arith) } in
    ap (λ q. judged k q (read_from (k + 1) ls)) g.1.1 ∙ ap (with g.0) (bad_is (k + 1) ls r i place rest)
    ∙ ap (λ n. bad r n (place + 1)) (omega arith)
