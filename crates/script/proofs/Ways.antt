-- One law for each way out of the readers of a line, over plain variables.
use mathlib.Core.Bool.{Bool, true, false}
use mathlib.Core.Path.{◌≡◌, refl, ap}
use mathlib.Core.List.{List, [], ◌∷◌}
use Prim.Native.Nat.{ℕ, ◌+◌}
use native.Mathlib.Omega.{arith}
use lib.ListN.{length, take}
use lib.Seq.{take-length}
use Rattle.text.specs.Scan.{slice, index_of}
use denote.Ref.{Bor}
use Rattle.std.specs.Prelude.{Option, Some, None, cond, map, if◌then◌else◌}
use Rattle.std.specs.Option.{option_map}
use Rattle.std.specs.List.{find}
use Rattle.std.specs.Str.{bytes_eq}
use Rattle.text.proofs.Words.{equal_same}
use Rattle.script.specs.Table.{Named, named, first_fit, word_of}
use Rattle.script.specs.Grammar.{by_word, line_of}

-- ---- the table: the first row that fits
abbrev pub rows_of : {A : Type 0} → List (Bor (List ℕ) × A) → List (Named (Option A))
rows_of = map (λ r. named r.0.now (Some r.1))

row_fits : {A : Type 0} (b : Bool) (r : Bor (List ℕ) × A) (o : Option (Bor (List ℕ) × A)) {q : Option A} → option_map (λ e. e.1) o ≡ q
    → option_map (λ e. e.1) (cond b (Some r) o) ≡ (if b then Some r.1 else q)
row_fits true r o e = refl
row_fits false r o e = e

pub first_row : {A : Type 0} (w : List ℕ) (t : List (Bor (List ℕ) × A))
    → option_map (λ e. e.1) (find (λ e. bytes_eq w e.0.now) t) ≡ first_fit None w (rows_of t)
unfolding first_fit
first_row w [] = refl
first_row w (r ∷ rs) = rw (← equal_same w r.0.now) (row_fits (bytes_eq w r.0.now) r _ (first_row w rs))

-- what the row that was found means
pub meant : {A : Type 0} (o : Option (Bor (Bor (List ℕ) × A))) → option_map (λ x. x.now.1) o ≡ option_map (λ e. e.1) (option_map (λ x. x.now) o)
meant None = refl
meant (Some x) = refl

-- ---- the first space, as it is searched for
pub word_end : (l : List ℕ) (n : ℕ) → n ≡ 0 + index_of 32 (slice 0 (length l) l) → n ≡ index_of 32 l
unfolding slice
word_end l n h = omega (arith, ap (index_of 32) (take-length l))

-- ---- the line by its word, which ends there
pub word_found : (l : List ℕ) (at : ℕ) → at ≡ 0 + index_of 32 (slice 0 (length l) l) → by_word (word_of (take at l)) l at ≡ line_of l
unfolding line_of
word_found l at h = ap (λ n. by_word (word_of (take n l)) l n) (word_end l at h)
