-- Section "Instructions": what an instruction word asks for, by its tables, row by row. It does not speak of memory.
use Rattle.std.specs.Prelude.{true, false, ◌&&◌, List, ℕ, ◌-◌, ◌*◌, ◌%◌, eqb, leb, get_or, set, if◌then◌else◌}
use Rattle.std.specs.Int.Bits.{bit_and, bit_or, bit_xor}
use Rattle.model.specs.Words.{plus, minus, low, field, extend, shift_left, shift_right, shift_signed, compared}
use Rattle.model.specs.declared.Plan.{Plan}
use Rattle.model.specs.declared.Plan.TheVariants.{Unknown, Set, LoadByte, LoadHalf, LoadWord, StoreByte, StoreHalf, StoreWord, Trapping}

-- ---- "Fields: opcode 31–26, RS1 25–21; then RD 20–16, imm 15–0; for opcode 0 RS2 20–16, RD 15–11, SA 10–6, function 5–0"
abbrev pub opcode : ℕ → ℕ
opcode w = field 26 6 w

abbrev pub rs1 : ℕ → ℕ
rs1 w = field 21 5 w

abbrev pub rd : ℕ → ℕ
rd w = field 16 5 w

abbrev pub imm : ℕ → ℕ
imm w = extend 16 (low 16 w)

abbrev pub rs2 : ℕ → ℕ
rs2 w = field 16 5 w

abbrev pub rd0 : ℕ → ℕ
rd0 w = field 11 5 w

abbrev pub sa : ℕ → ℕ
sa w = field 6 5 w

abbrev pub function : ℕ → ℕ
function w = low 6 w

-- "for j and jal the 26-bit number is too" sign extended
abbrev pub imm26 : ℕ → ℕ
imm26 w = extend 26 (low 26 w)

-- ---- registers
abbrev pub reg : List ℕ → ℕ → ℕ
reg gpr i = get_or gpr i 0

-- "Writes to GPR 0 are dropped."
abbrev pub written : List ℕ → ℕ → ℕ → List ℕ
written gpr i v = if eqb i 0 then gpr else set gpr i v

-- PC'+4
abbrev pub onward : ℕ → ℕ
onward next = plus next 4

-- ---- what is asked for
-- a value to a register, and on to the next instruction
abbrev pub value : ℕ → ℕ → ℕ → Plan
value next i v = Set i v (onward next)

-- a jump; no register is written
abbrev pub jump : ℕ → Plan
jump target = Set 0 0 target

-- "jal and jalr put PC'+4 in GPR 31"
abbrev pub link : ℕ → ℕ → Plan
link next target = Set 31 (onward next) target

-- "Functions under opcode 0"; x and y are the values of RS1 and RS2
unfoldable pub register : ℕ → ℕ → ℕ → ℕ → Plan
register next w x y =
    if eqb (function w) 0 then value next (rd0 w) (shift_left x (sa w))  -- slli
    else if eqb (function w) 2 then value next (rd0 w) (shift_right x (sa w))  -- srli
    else if eqb (function w) 3 then value next (rd0 w) (shift_signed x (sa w))  -- srai
    else if eqb (function w) 4 then value next (rd0 w) (shift_left x (y % 32))  -- sll
    else if eqb (function w) 6 then value next (rd0 w) (shift_right x (y % 32))  -- srl
    else if eqb (function w) 7 then value next (rd0 w) (shift_signed x (y % 32))  -- sra
    else if eqb (function w) 33 then value next (rd0 w) (plus x y)  -- add
    else if eqb (function w) 35 then value next (rd0 w) (minus x y)  -- sub
    else if eqb (function w) 36 then value next (rd0 w) (bit_and x y)  -- and
    else if eqb (function w) 37 then value next (rd0 w) (bit_or x y)  -- or
    else if eqb (function w) 38 then value next (rd0 w) (bit_xor x y)  -- xor
    else if eqb (function w) 39 then value next (rd0 w) (low 16 y * 65536)  -- lhg
    else if leb 40 (function w) && leb (function w) 47 then value next (rd0 w) (compared (function w - 40) x y)  -- clr sgr seq sge sls sne sle set
    else Unknown

-- the table of opcodes; x and y are the values of RS1 and RD, and c is imm
unfoldable pub immediate : ℕ → ℕ → ℕ → ℕ → ℕ → Plan
immediate next w x y c =
    if eqb (opcode w) 2 then jump (plus next (imm26 w))  -- j
    else if eqb (opcode w) 3 then link next (plus next (imm26 w))  -- jal
    else if eqb (opcode w) 4 then jump (if eqb x 0 then plus next c else onward next)  -- beqz
    else if eqb (opcode w) 5 then jump (if eqb x 0 then onward next else plus next c)  -- bnez
    else if eqb (opcode w) 22 then jump x  -- jr
    else if eqb (opcode w) 23 then link next x  -- jalr
    else if eqb (opcode w) 9 then value next (rd w) (plus x c)  -- addi
    else if eqb (opcode w) 11 then value next (rd w) (minus x c)  -- subi
    else if eqb (opcode w) 12 then value next (rd w) (bit_and x c)  -- andi
    else if eqb (opcode w) 13 then value next (rd w) (bit_or x c)  -- ori
    else if eqb (opcode w) 14 then value next (rd w) (bit_xor x c)  -- xori
    else if eqb (opcode w) 15 then value next (rd w) (low 16 w * 65536)  -- lhgi
    else if leb 24 (opcode w) && leb (opcode w) 31 then value next (rd w) (compared (opcode w - 24) x c)  -- clri sgri seqi sgei slsi snei slei seti
    else if eqb (opcode w) 32 then LoadByte true (rd w) (plus x c)  -- lb
    else if eqb (opcode w) 33 then LoadHalf true (rd w) (plus x c)  -- lh
    else if eqb (opcode w) 35 then LoadWord (rd w) (plus x c)  -- lw
    else if eqb (opcode w) 36 then LoadByte false (rd w) (plus x c)  -- lbu
    else if eqb (opcode w) 37 then LoadHalf false (rd w) (plus x c)  -- lhu
    else if eqb (opcode w) 40 then StoreByte (plus x c) y  -- sb
    else if eqb (opcode w) 41 then StoreHalf (plus x c) y  -- sh
    else if eqb (opcode w) 43 then StoreWord (plus x c) y  -- sw
    else if eqb (opcode w) 62 then Trapping (low 26 w)  -- trap
    else Unknown

-- the word w, with the registers as they are and `next` in PC'
unfoldable pub plan : List ℕ → ℕ → ℕ → Plan
plan gpr next w =
    if eqb (opcode w) 0 then register next w (reg gpr (rs1 w)) (reg gpr (rs2 w))
    else immediate next w (reg gpr (rs1 w)) (reg gpr (rd w)) (imm w)
