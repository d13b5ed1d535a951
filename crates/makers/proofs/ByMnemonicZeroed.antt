-- Of each row: a word of its key has the plan of the word with its unused fields zero (`each_zeroed`). A law for each form of operands, and
-- then the table, row by row.
use mathlib.Core.Path.{◌≡◌, refl, sym, ap, ◌∙◌}
use mathlib.Core.Bool.{true}
use mathlib.Core.List.{List}
use Prim.Native.Nat.{ℕ, ◌+◌, ◌*◌, ◌/◌, ◌^◌, ◌≤◌, ◌<◌}
use native.Mathlib.Omega.{arith}
use borrow.Author.Tests.{eqb-true, leb-true, ltb-true}
use lib.Dec.{eqb, leb, ltb}
use Rattle.model.specs.Words.{low, field}
use Rattle.model.specs.Instruction.{plan}
use Rattle.notation.specs.Table.{rows, triple, pair, alone, memory, rs1, rs2, rd, rd0, sa, imm, high, far, trapped}
use Rattle.notation.specs.Listing.{key_of, is_keyed, filled}
use Rattle.notation.specs.declared.Piece.{Piece}
use Rattle.makers.proofs.ByMnemonicFirst.{Every, none, ◌&◌, function_key, opcode_key, key_function, key_opcode}
use Rattle.makers.proofs.ByMnemonicFields.{Parts, parts, made, made_low, parts_of_lem, low_field, Agrees, filled_same}
use Rattle.makers.proofs.ByMnemonicReads.{Function, Opcode, Reads, shift_reads, three_reads, lhg_reads, clr_reads, set_reads, beqz_reads, bnez_reads, lhgi_reads, jr_reads, jalr_reads, clri_reads, seti_reads}

-- the word w of a row, and the word with its unused fields zero
pub record Zeroed (base : ℕ) (ps : List Piece) (w : ℕ) : Type 0 where
  pub same : (gpr : List ℕ) (next : ℕ) → plan gpr next (filled ps base w) ≡ plan gpr next w
  pub key : key_of (filled ps base w) ≡ key_of w
  pub again : filled ps base (filled ps base w) ≡ filled ps base w
  pub within : filled ps base w ≤ w

-- no field is unused
whole : {base : ℕ} {ps : List Piece} {w : ℕ} → filled ps base w ≡ w → Zeroed base ps w
whole {base} {ps} {w} e = record {
  same = λ gpr next. ap (plan gpr next) e;
  key = ap key_of e;
  again = ap (filled ps base) e;
  within = omega arith;
}

-- the word without the unused fields is made of these
module _ (base : ℕ) (ps : List Piece) (w o a b d s f : ℕ) (small : w < 2 ^ 32) (top : w / 2 ^ 26 ≡ o)
    (ha : a ≤ field 21 5 w) (hb : b ≤ field 16 5 w) (hd : d ≤ field 11 5 w) (hs : s ≤ field 6 5 w) (hf : f ≤ low 6 w)
    (e : filled ps base w ≡ o * 2 ^ 26 + a * 2 ^ 21 + b * 2 ^ 16 + d * 2 ^ 11 + s * 2 ^ 6 + f)
  where
    left : Parts (filled ps base w) o a b d s f
    left = parts _ o a b d s f (omega arith) (omega arith) (omega arith) (omega arith) (omega arith) (omega arith) e

    zeroed : key_of (filled ps base w) ≡ key_of w → Agrees ps (filled ps base w) w
        → ((gpr : List ℕ) (next : ℕ) → plan gpr next (filled ps base w) ≡ plan gpr next w) → Zeroed base ps w
    zeroed k g p = record { same = p; key = k; again = filled_same ps base (filled ps base w) w g; within = omega (arith, made w small) }

module _ (w : ℕ) (small : w < 2 ^ 32) where
  keyed : {base : ℕ} → eqb base (key_of w) ≡ true → base ≡ key_of w
  keyed {base} t = eqb-true base (key_of w) t

  -- ---- the forms of the functions
  function_row : (f : ℕ) (ps : List Piece) (a b d s : ℕ) → ltb f 64 ≡ true → eqb f (key_of w) ≡ true
      → a ≤ field 21 5 w → b ≤ field 16 5 w → d ≤ field 11 5 w → s ≤ field 6 5 w
      → filled ps f w ≡ 0 * 2 ^ 26 + a * 2 ^ 21 + b * 2 ^ 16 + d * 2 ^ 11 + s * 2 ^ 6 + f
      → (Parts (filled ps f w) 0 a b d s f → Agrees ps (filled ps f w) w) → Reads (Function f) ps → Zeroed f ps w
  function_row f ps a b d s h t ha hb hd hs e agree reads =
      let at = function_key f w (ltb-true f 64 h) (keyed t) in
      let p = left f ps w 0 a b d s f small at.0 ha hb hd hs (omega (arith, at.1)) e in
      zeroed f ps w 0 a b d s f small at.0 ha hb hd hs (omega (arith, at.1)) e
      (key_function _ f p.top p.function ∙ keyed t) (agree p)
      (λ gpr next. reads gpr next _ w (p.opcode, p.function) ((parts_of_lem w small).opcode ∙ at.0, at.1) (agree p))

  shift : (f : ℕ) → ltb f 4 ≡ true → ltb f 64 ≡ true → eqb f (key_of w) ≡ true → Zeroed f (triple rd0 rs1 sa) w
  unfolding filled
  shift f l h t =
      function_row f (triple rd0 rs1 sa) (field 21 5 w) 0 (field 11 5 w) (field 6 5 w) h t
      (omega arith) (omega arith) (omega arith) (omega arith) (omega arith)
      (λ p. (p.rd0, (p.rs1, (p.sa, tt)))) (shift_reads f (ltb-true f 4 l))

  three : (f : ℕ) → leb 4 f ≡ true → ltb f 64 ≡ true → eqb f (key_of w) ≡ true → Zeroed f (triple rd0 rs1 rs2) w
  unfolding filled
  three f l h t =
      function_row f (triple rd0 rs1 rs2) (field 21 5 w) (field 16 5 w) (field 11 5 w) 0 h t
      (omega arith) (omega arith) (omega arith) (omega arith) (omega arith)
      (λ p. (p.rd0, (p.rs1, (p.rd, tt)))) (three_reads f (leb-true 4 f l))

  two : (f : ℕ) → Reads (Function f) (pair rd0 rs2) → ltb f 64 ≡ true → eqb f (key_of w) ≡ true → Zeroed f (pair rd0 rs2) w
  unfolding filled
  two f reads h t =
      function_row f (pair rd0 rs2) 0 (field 16 5 w) (field 11 5 w) 0 h t
      (omega arith) (omega arith) (omega arith) (omega arith) (omega arith)
      (λ p. (p.rd0, (p.rd, tt))) reads

  result : (f : ℕ) → Reads (Function f) (alone rd0) → ltb f 64 ≡ true → eqb f (key_of w) ≡ true → Zeroed f (alone rd0) w
  unfolding filled
  result f reads h t =
      function_row f (alone rd0) 0 0 (field 11 5 w) 0 h t
      (omega arith) (omega arith) (omega arith) (omega arith) (omega arith)
      (λ p. (p.rd0, tt)) reads

  -- ---- the forms of the opcodes
  opcode_row : (o : ℕ) (ps : List Piece) (a b d s f : ℕ) → ltb 0 o ≡ true → eqb (o * 2 ^ 26) (key_of w) ≡ true
      → a ≤ field 21 5 w → b ≤ field 16 5 w → d ≤ field 11 5 w → s ≤ field 6 5 w → f ≤ low 6 w
      → filled ps (o * 2 ^ 26) w ≡ o * 2 ^ 26 + a * 2 ^ 21 + b * 2 ^ 16 + d * 2 ^ 11 + s * 2 ^ 6 + f
      → (Parts (filled ps (o * 2 ^ 26) w) o a b d s f → Agrees ps (filled ps (o * 2 ^ 26) w) w) → Reads (Opcode o) ps → Zeroed (o * 2 ^ 26) ps w
  opcode_row o ps a b d s f h t ha hb hd hs hf e agree reads =
      let top = opcode_key o w (ltb-true 0 o h) (keyed t) in
      let p = left (o * 2 ^ 26) ps w o a b d s f small top ha hb hd hs hf e in
      zeroed (o * 2 ^ 26) ps w o a b d s f small top ha hb hd hs hf e (key_opcode _ o (ltb-true 0 o h) p.top ∙ keyed t) (agree p)
      (λ gpr next. reads gpr next _ w p.opcode ((parts_of_lem w small).opcode ∙ top) (agree p))

  source : (o : ℕ) → Reads (Opcode o) (alone rs1) → ltb 0 o ≡ true → eqb (o * 2 ^ 26) (key_of w) ≡ true → Zeroed (o * 2 ^ 26) (alone rs1) w
  unfolding filled
  source o reads h t =
      opcode_row o (alone rs1) (field 21 5 w) 0 0 0 0 h t
      (omega arith) (omega arith) (omega arith) (omega arith) (omega arith) (omega arith)
      (λ p. (p.rs1, tt)) reads

  target : (o : ℕ) → Reads (Opcode o) (alone rd) → ltb 0 o ≡ true → eqb (o * 2 ^ 26) (key_of w) ≡ true → Zeroed (o * 2 ^ 26) (alone rd) w
  unfolding filled
  target o reads h t =
      opcode_row o (alone rd) 0 (field 16 5 w) 0 0 0 h t
      (omega arith) (omega arith) (omega arith) (omega arith) (omega arith) (omega arith)
      (λ p. (p.rd, tt)) reads

  branch : (o : ℕ) → Reads (Opcode o) (pair rs1 imm) → ltb 0 o ≡ true → eqb (o * 2 ^ 26) (key_of w) ≡ true → Zeroed (o * 2 ^ 26) (pair rs1 imm) w
  unfolding filled
  branch o reads h t =
      opcode_row o (pair rs1 imm) (field 21 5 w) 0 (field 11 5 w) (field 6 5 w) (low 6 w) h t
      (omega arith) (omega arith) (omega arith) (omega arith) (omega arith) (omega (arith, (parts_of_lem w small).imm))
      (λ p. (p.rs1, (low_field _ w (p.imm ∙ sym (parts_of_lem w small).imm), tt))) reads

  upper : (o : ℕ) → Reads (Opcode o) (pair rd high) → ltb 0 o ≡ true → eqb (o * 2 ^ 26) (key_of w) ≡ true → Zeroed (o * 2 ^ 26) (pair rd high) w
  unfolding filled
  upper o reads h t =
      opcode_row o (pair rd high) 0 (field 16 5 w) (field 11 5 w) (field 6 5 w) (low 6 w) h t
      (omega arith) (omega arith) (omega arith) (omega arith) (omega arith) (omega (arith, (parts_of_lem w small).imm))
      (λ p. (p.rd, (low_field _ w (p.imm ∙ sym (parts_of_lem w small).imm), tt))) reads

  -- those that use every bit
  number : (o : ℕ) → ltb 0 o ≡ true → eqb (o * 2 ^ 26) (key_of w) ≡ true → Zeroed (o * 2 ^ 26) (triple rd rs1 imm) w
  unfolding filled
  number o h t = whole (omega (arith, opcode_key o w (ltb-true 0 o h) (keyed t), made_low w small))

  access : (o : ℕ) → ltb 0 o ≡ true → eqb (o * 2 ^ 26) (key_of w) ≡ true → Zeroed (o * 2 ^ 26) memory w
  unfolding filled
  access o h t = whole (omega (arith, opcode_key o w (ltb-true 0 o h) (keyed t), made_low w small))

  jump : (o : ℕ) → ltb 0 o ≡ true → eqb (o * 2 ^ 26) (key_of w) ≡ true → Zeroed (o * 2 ^ 26) (alone far) w
  unfolding filled
  jump o h t = whole (omega (arith, opcode_key o w (ltb-true 0 o h) (keyed t)))

  trap : (o : ℕ) → ltb 0 o ≡ true → eqb (o * 2 ^ 26) (key_of w) ≡ true → Zeroed (o * 2 ^ 26) (alone trapped) w
  unfolding filled
  trap o h t = whole (omega (arith, opcode_key o w (ltb-true 0 o h) (keyed t)))

  -- ---- the table; what `refl` shows is that the key is in range
  pub each_zeroed : Every (λ r. is_keyed w r ≡ true → Zeroed r.base r.pieces w) rows
  unfolding rows
  each_zeroed =
      shift 0 refl refl
      & shift 2 refl refl
      & shift 3 refl refl
      & three 4 refl refl
      & three 6 refl refl
      & three 7 refl refl
      & three 33 refl refl
      & three 35 refl refl
      & three 36 refl refl
      & three 37 refl refl
      & three 38 refl refl
      & two 39 lhg_reads refl
      & result 40 clr_reads refl
      & three 41 refl refl
      & three 42 refl refl
      & three 43 refl refl
      & three 44 refl refl
      & three 45 refl refl
      & three 46 refl refl
      & result 47 set_reads refl
      & jump 2 refl
      & jump 3 refl
      & branch 4 beqz_reads refl
      & branch 5 bnez_reads refl
      & number 9 refl
      & number 11 refl
      & number 12 refl
      & number 13 refl
      & number 14 refl
      & upper 15 lhgi_reads refl
      & source 22 jr_reads refl
      & source 23 jalr_reads refl
      & target 24 clri_reads refl
      & number 25 refl
      & number 26 refl
      & number 27 refl
      & number 28 refl
      & number 29 refl
      & number 30 refl
      & target 31 seti_reads refl
      & access 32 refl
      & access 33 refl
      & access 35 refl
      & access 36 refl
      & access 37 refl
      & access 40 refl
      & access 41 refl
      & access 43 refl
      & trap 62 refl
      & none
