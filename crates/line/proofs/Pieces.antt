-- The ways of one piece, and the pieces behind a mnemonic, met one by one.
use mathlib.Core.Bool.{Bool}
use mathlib.Core.Path.{◌≡◌, refl, sym, ap, ◌∙◌}
use mathlib.Core.List.{List, [], ◌∷◌}
use Prim.Native.Nat.{ℕ, zero, suc, ◌+◌, ◌*◌, ◌≤◌, ◌<◌}
use native.Mathlib.Numerals.{add-one}
use native.Mathlib.Omega.{arith}
use lib.ListN.{length, get_or, drop}
use lib.Seq.{drop-cons}
use borrow.Author.Tests.{eq-eqb, ne_eqb}
use Rattle.std.specs.Prelude.{Ok, Err}
use Rattle.model.specs.declared.Refusal.{Refusal}
use Rattle.model.specs.declared.Refusal.TheVariants.{Operand}
use Rattle.notation.specs.Sums.{byte_at, skipped, and_then}
use Rattle.notation.specs.Line.{operand_at, read_piece, read_pieces, ended}
use Rattle.notation.specs.declared.Piece.{Piece}
use Rattle.notation.specs.declared.Piece.TheVariants.{Mark, Field}
use Rattle.notation.specs.Answers.{Parsed, wrong}
use Rattle.grammar.proofs.Places.{byte_inside}
use Rattle.mnemonics.specs.Rows.{Fine}
use Rattle.line.proofs.Then.{stays, goes_on}

module _ (s : List ℕ) (w n at : ℕ) (skips : at ≡ skipped s n) where
  -- ---- nothing but blanks
  pub not_ended : (at ≡ length s → ⊥) → Err (wrong Operand at) ≡ ended s w n
  unfolding ended
  not_ended h = rw (← skips) (simp (ne_eqb _ _ h))

  pub is_ended : at ≡ length s → Ok (w, n) ≡ ended s w n
  unfolding ended
  is_ended h = rw (← skips) (simp (eq-eqb _ _ h))

  -- ---- a mark
  module _ (p : Piece) (b x : ℕ) (e : p ≡ Mark b) (read : x ≡ byte_at s at) where
    pub mark_wrong : (x ≡ b → ⊥) → Err (wrong Operand at) ≡ read_piece s p w n
    unfolding read_piece
    mark_wrong h = rw (e, ← skips, ← read) (simp (ne_eqb _ _ h))

    pub mark_right : x ≡ b → Ok (w, at + 1) ≡ read_piece s p w n
    unfolding read_piece
    mark_right h = rw (e, ← skips, ← read) (simp (eq-eqb _ _ h))

  -- ---- a field
  module _ (p : Piece) (scale size : ℕ) (signed : Bool) (e : p ≡ Field scale size signed) (q : Parsed) (read : q ≡ operand_at s at size signed) where
    pub field_wrong : {r : Refusal} {k : ℕ} → q ≡ Err (wrong r k) → Err (wrong r k) ≡ read_piece s p w n
    unfolding read_piece
    field_wrong h = rw (e, ← skips) (stays _ _ read _ h)

    pub field_right : {v k : ℕ} → q ≡ Ok (v, k) → Ok (w + v * scale, k) ≡ read_piece s p w n
    unfolding read_piece
    field_right h = rw (e, ← skips) (goes_on _ _ read _ h refl)

-- a mark that stands there stands within the line
pub mark_inside : (s : List ℕ) (at : ℕ) (p : Piece) (b x : ℕ) → p ≡ Mark b → x ≡ byte_at s at → Fine p → x ≡ b → at < length s
mark_inside s at p b x e read f h = let g : 0 < b = rw e at f in byte_inside s at (omega (arith, read))

-- ---- one by one
module _ (s : List ℕ) (w n : ℕ) where
  one_more : (ps : List Piece) (k : ℕ) (d : Piece) → k < length ps
      → read_pieces s (drop k ps) w n ≡ and_then (read_piece s (get_or ps k d) w n) (read_pieces s (drop (k + 1) ps))
  unfolding read_pieces
  one_more ps k d h = rw (drop-cons ps k d h) (simp add-one)

  pub no_more : (ps : List Piece) (k : ℕ) → length ps ≤ k → read_pieces s (drop k ps) w n ≡ ended s w n
  unfolding read_pieces
  no_more [] zero h = refl
  no_more [] (suc k) h = refl
  no_more (p ∷ ps) zero h = absurd (omega arith)
  no_more (p ∷ ps) (suc k) h = no_more ps k (omega arith)

  module _ (ps : List Piece) (k : ℕ) (inside : k < length ps) (p : Piece) (e : p ≡ get_or ps k (Mark 0)) (q : Parsed) (read : q ≡ read_piece s p w n) where
    here : q ≡ read_piece s (get_or ps k (Mark 0)) w n
    here = read ∙ ap (λ x. read_piece s x w n) e

    pub stops : {r : Refusal} {j : ℕ} {x : Parsed} → q ≡ Err (wrong r j) → read_pieces s (drop k ps) w n ≡ x → q ≡ x
    stops h t = h ∙ stays _ q here (read_pieces s (drop (k + 1) ps)) h ∙ sym (one_more ps k (Mark 0) inside) ∙ t

    pub steps : {v j : ℕ} {x : Parsed} → q ≡ Ok (v, j) → read_pieces s (drop k ps) w n ≡ x → read_pieces s (drop (k + 1) ps) v j ≡ x
    steps h t = goes_on _ q here (read_pieces s (drop (k + 1) ps)) h refl ∙ sym (one_more ps k (Mark 0) inside) ∙ t
