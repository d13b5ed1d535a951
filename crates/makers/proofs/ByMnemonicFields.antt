-- Laws of the fields of a word, and of `filled`, which goes by them.
use mathlib.Core.Path.{◌≡◌, refl, ap, ◌∙◌}
use mathlib.Core.List.{List, [], ◌∷◌}
use Prim.Native.Nat.{ℕ, ◌+◌, ◌*◌, ◌/◌, ◌^◌, ◌<◌}
use native.Mathlib.Nat.{div-div-eq-div-mul, div-one}
use native.Mathlib.Omega.{arith}
use Rattle.model.specs.Words.{low, field}
use Rattle.notation.specs.Listing.{field_of, filled}
use Rattle.notation.specs.declared.Piece.{Piece}
use Rattle.notation.specs.declared.Piece.TheVariants.{Mark, Field}

-- u is made of these, from the highest on
pub record Parts (u o a b d s f : ℕ) : Type 0 where
  pub top : u / 2 ^ 26 ≡ o
  pub opcode : field 26 6 u ≡ o
  pub rs1 : field 21 5 u ≡ a
  pub rd : field 16 5 u ≡ b
  pub rd0 : field 11 5 u ≡ d
  pub sa : field 6 5 u ≡ s
  pub function : low 6 u ≡ f
  pub imm : low 16 u ≡ d * 2 ^ 11 + s * 2 ^ 6 + f

pub parts : (u o a b d s f : ℕ) → o < 64 → a < 32 → b < 32 → d < 32 → s < 32 → f < 64
    → u ≡ o * 2 ^ 26 + a * 2 ^ 21 + b * 2 ^ 16 + d * 2 ^ 11 + s * 2 ^ 6 + f → Parts u o a b d s f
parts u o a b d s f ho ha hb hd hs hf e = record {
  top = omega arith;
  opcode = omega arith;
  rs1 = omega arith;
  rd = omega arith;
  rd0 = omega arith;
  sa = omega arith;
  function = omega arith;
  imm = omega arith;
}

-- a word is made of its own
pub made : (w : ℕ) → w < 2 ^ 32
    → w ≡ w / 2 ^ 26 * 2 ^ 26 + field 21 5 w * 2 ^ 21 + field 16 5 w * 2 ^ 16 + field 11 5 w * 2 ^ 11 + field 6 5 w * 2 ^ 6 + low 6 w
made w h =
    omega (
      arith,
      div-div-eq-div-mul w (2 ^ 6) (2 ^ 5),
      div-div-eq-div-mul w (2 ^ 11) (2 ^ 5),
      div-div-eq-div-mul w (2 ^ 16) (2 ^ 5),
      div-div-eq-div-mul w (2 ^ 21) (2 ^ 5),
    )

-- the same with its lowest 16 bits as one
pub made_low : (w : ℕ) → w < 2 ^ 32 → w ≡ w / 2 ^ 26 * 2 ^ 26 + field 21 5 w * 2 ^ 21 + field 16 5 w * 2 ^ 16 + low 16 w
made_low w h = omega (arith, div-div-eq-div-mul w (2 ^ 16) (2 ^ 5), div-div-eq-div-mul w (2 ^ 21) (2 ^ 5))

pub parts_of_lem : (w : ℕ) → w < 2 ^ 32 → Parts w (w / 2 ^ 26) (field 21 5 w) (field 16 5 w) (field 11 5 w) (field 6 5 w) (low 6 w)
parts_of_lem w h =
    parts w _ _ _ _ _ _ (omega arith) (omega arith) (omega arith) (omega arith) (omega arith) (omega arith) (made w h)

pub low_field : (u w : ℕ) → low 16 u ≡ low 16 w → field_of (2 ^ 0) (2 ^ 16) u ≡ field_of (2 ^ 0) (2 ^ 16) w
low_field u w e = simp div-one e

-- ---- what `filled` goes by: the words have the same in each field of the pieces
abbrev pub Agrees : List Piece → ℕ → ℕ → Type 0
Agrees [] u w = Unit {0}
Agrees (Mark b ∷ ps) u w = Agrees ps u w
Agrees (Field scale size signed ∷ ps) u w = (field_of scale size u ≡ field_of scale size w) × Agrees ps u w

pub filled_same : (ps : List Piece) (base u w : ℕ) → Agrees ps u w → filled ps base u ≡ filled ps base w
unfolding filled
filled_same [] base u w a = refl
filled_same (Mark b ∷ ps) base u w a = filled_same ps base u w a
filled_same (Field scale size signed ∷ ps) base u w a =
    ap (λ (x : ℕ). filled ps (base + x * scale) u) a.0 ∙ filled_same ps (base + field_of scale size w * scale) u w a.1
