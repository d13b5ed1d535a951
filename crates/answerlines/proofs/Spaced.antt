-- Numbers, each behind a space, one after another.
use mathlib.Core.Path.{◌≡◌, refl, sym, ap, ◌∙◌}
use mathlib.Core.List.{List, [], ◌∷◌, ◌++◌, append_assoc, append-nil}
use Prim.Native.Nat.{ℕ, ◌+◌, ◌<◌}
use native.Mathlib.Numerals.{add-one}
use lib.ListN.{length, get_or, take}
use lib.Seq.{take-suc}
use Rattle.model.specs.Console.{spaced, newline}
use Rattle.answerlines.specs.Lines.{spaced_all, numbers_line}

pub spaced_append : (a b : List ℕ) → spaced_all (a ++ b) ≡ spaced_all a ++ spaced_all b
unfolding spaced_all
spaced_append [] b = refl
spaced_append (x ∷ a) b = ap (λ (l : List ℕ). spaced x ++ l) (spaced_append a b) ∙ sym (append_assoc (spaced x) (spaced_all a)
    (spaced_all b))

spaced_one : (x : ℕ) → spaced_all (x ∷ []) ≡ spaced x
unfolding spaced_all
spaced_one x = append-nil (spaced x)

pub spaced_next : (l : List ℕ) (i : ℕ) → i < length l → spaced_all (take i l) ++ spaced (get_or l i 0) ≡ spaced_all (take (i + 1) l)
spaced_next l i h =
    sym (rw (add-one, take-suc l i 0)
    (spaced_append (take i l) (get_or l i 0 ∷ []) ∙ ap (λ (x : List ℕ). spaced_all (take i l) ++ x) (spaced_one (get_or l i 0))))

-- numbers and more of them, in one line
pub grouped : (word first more : List ℕ) → word ++ (spaced_all first ++ (spaced_all more ++ newline)) ≡ numbers_line word (first ++ more)
grouped word first more =
    ap (λ (l : List ℕ). word ++ l) (sym (append_assoc (spaced_all first) (spaced_all more) newline)
    ∙ ap (λ (l : List ℕ). l ++ newline) (sym (spaced_append first more)))

-- and one more behind them
pub grouped_last : (word first more : List ℕ) (x : ℕ)
    → word ++ (spaced_all first ++ (spaced_all more ++ (spaced x ++ newline))) ≡ numbers_line word ((first ++ more) ++ (x ∷ []))
grouped_last word first more x =
    ap (λ (l : List ℕ). word ++ (spaced_all first ++ l)) (ap (λ (l : List ℕ). spaced_all more ++ (l ++ newline)) (sym (spaced_one x)) ∙ grouped [] more (x ∷ []))
    ∙ grouped word first (more ++ (x ∷ [])) ∙ ap (numbers_line word) (sym (append_assoc first more (x ∷ [])))
