-- The plan of a word reads no field but those of its row, shown of each row that leaves fields unused.
use mathlib.Core.Path.{◌≡◌}
use mathlib.Core.Bool.{true, false}
use mathlib.Core.List.{List}
use Prim.Native.Nat.{ℕ, ◌≤◌, ◌<◌}
use native.Mathlib.Nat.{div-one}
use native.Mathlib.Omega.{arith}
use borrow.Author.Tests.{ne_eqb, lt-leb, leb-true, ltb-true}
use lib.Dec.{eqb, leb, ltb}
use Rattle.model.specs.Words.{compared}
use Rattle.model.specs.Instruction as model
use Rattle.model.specs.Instruction.{plan, register, immediate}
use Rattle.notation.specs.Table.{triple, pair, alone, rs1, rs2, rd, rd0, sa, imm, high}
use Rattle.notation.specs.declared.Piece.{Piece}
use Rattle.makers.proofs.ByMnemonicFields.{Agrees}

-- under opcode 0, by the function; else by the opcode
abbrev pub Function : ℕ → ℕ → Type 0
Function f w = (model.opcode w ≡ 0) × (model.function w ≡ f)

abbrev pub Opcode : ℕ → ℕ → Type 0
Opcode o w = model.opcode w ≡ o

-- of words of that function or opcode, no field but those of the pieces
abbrev pub Reads : (ℕ → Type 0) → List Piece → Type 0
Reads Of ps = (gpr : List ℕ) (next u w : ℕ) → Of u → Of w → Agrees ps u w → plan gpr next u ≡ plan gpr next w

pub shift_reads : (f : ℕ) → f < 4 → Reads (Function f) (triple rd0 rs1 sa)
unfolding plan register
shift_reads f h gpr next u w p q a =
    let apart : (k : ℕ) → leb 4 k ≡ true → eqb f k ≡ false = λ k t. ne_eqb f k (λ e. omega (arith, leb-true 4 k t)) in
    simp (p.0, p.1, q.0, q.1, a.0, a.1.0, a.1.1.0, apart, lt-leb 40 f (omega arith))

pub three_reads : (f : ℕ) → 4 ≤ f → Reads (Function f) (triple rd0 rs1 rs2)
unfolding plan register
three_reads f h gpr next u w p q a =
    let apart : (k : ℕ) → ltb k 4 ≡ true → eqb f k ≡ false = λ k t. ne_eqb f k (λ e. omega (arith, ltb-true k 4 t)) in
    simp (p.0, p.1, q.0, q.1, a.0, a.1.0, a.1.1.0, apart)

pub lhg_reads : Reads (Function 39) (pair rd0 rs2)
unfolding plan register
lhg_reads gpr next u w p q a = simp (p.0, p.1, q.0, q.1, a.0, a.1.0)

pub clr_reads : Reads (Function 40) (alone rd0)
unfolding plan register compared
clr_reads gpr next u w p q a = simp (p.0, p.1, q.0, q.1, a.0)

pub set_reads : Reads (Function 47) (alone rd0)
unfolding plan register compared
set_reads gpr next u w p q a = simp (p.0, p.1, q.0, q.1, a.0)

pub beqz_reads : Reads (Opcode 4) (pair rs1 imm)
unfolding plan immediate
beqz_reads gpr next u w p q a = simp (p, q, a.0, simp div-one at a.1.0)

pub bnez_reads : Reads (Opcode 5) (pair rs1 imm)
unfolding plan immediate
bnez_reads gpr next u w p q a = simp (p, q, a.0, simp div-one at a.1.0)

pub lhgi_reads : Reads (Opcode 15) (pair rd high)
unfolding plan immediate
lhgi_reads gpr next u w p q a = simp (p, q, a.0, simp div-one at a.1.0)

pub jr_reads : Reads (Opcode 22) (alone rs1)
unfolding plan immediate
jr_reads gpr next u w p q a = simp (p, q, a.0)

pub jalr_reads : Reads (Opcode 23) (alone rs1)
unfolding plan immediate
jalr_reads gpr next u w p q a = simp (p, q, a.0)

pub clri_reads : Reads (Opcode 24) (alone rd)
unfolding plan immediate compared
clri_reads gpr next u w p q a = simp (p, q, a.0)

pub seti_reads : Reads (Opcode 31) (alone rd)
unfolding plan immediate compared
seti_reads gpr next u w p q a = simp (p, q, a.0)
