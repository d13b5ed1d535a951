-- The mnemonics of document 01, row by row: the word with every field zero, and what stands behind the mnemonic, "RD, RS1, then RS2 or
-- number, each where used; loads and stores as sw in document 01".
use Rattle.std.specs.Prelude.{Bool, true, false, List, [], ◌∷◌, ℕ, suc, ◌+◌, ◌*◌, ◌^◌, if◌then◌else◌}
use Prim.Native.Char.{code}
use Prim.Native.String.{String, [] as none, ◌∷◌ as ◌then◌}
use Rattle.notation.specs.declared.Piece.{Piece}
use Rattle.notation.specs.declared.Piece.TheVariants.{Mark, Field}

-- the bytes of a word in ASCII
unfoldable pub spelled : String → List ℕ
spelled none = []
spelled (c then cs) = code c ∷ spelled cs

pub record Row : Type 0 where
  pub name : List ℕ
  pub base : ℕ
  pub pieces : List Piece

-- ---- the fields: a lowest bit and a width. "Fields extended by sign take signed values, all others and lhgi's unsigned"
abbrev pub signed : ℕ → ℕ → Piece
signed lo bits = Field (2 ^ lo) (2 ^ bits) true

abbrev pub unsigned : ℕ → ℕ → Piece
unsigned lo bits = Field (2 ^ lo) (2 ^ bits) false

abbrev pub rs1 : Piece
rs1 = unsigned 21 5

abbrev pub rd : Piece
rd = unsigned 16 5

abbrev pub imm : Piece
imm = signed 0 16

-- under opcode 0
abbrev pub rs2 : Piece
rs2 = unsigned 16 5

abbrev pub rd0 : Piece
rd0 = unsigned 11 5

abbrev pub sa : Piece
sa = unsigned 6 5

-- lhgi's number; that of j and jal; that of trap
abbrev pub high : Piece
high = unsigned 0 16

abbrev pub far : Piece
far = signed 0 26

abbrev pub trapped : Piece
trapped = unsigned 0 26

-- ---- the operands, by commas; `RD,imm(RS1)` for loads and stores
abbrev pub alone : Piece → List Piece
alone a = a ∷ []

abbrev pub pair : Piece → Piece → List Piece
pair a b = a ∷ Mark 44 ∷ b ∷ []

abbrev pub triple : Piece → Piece → Piece → List Piece
triple a b c = a ∷ Mark 44 ∷ b ∷ Mark 44 ∷ c ∷ []

abbrev pub memory : List Piece
memory = rd ∷ Mark 44 ∷ imm ∷ Mark 40 ∷ rs1 ∷ Mark 41 ∷ []

-- ---- the rows: a function under opcode 0, or an opcode
abbrev pub function : ℕ → String → List Piece → Row
function f name pieces = record { name = spelled name; base = f; pieces = pieces }

abbrev pub opcode : ℕ → String → List Piece → Row
opcode o name pieces = record { name = spelled name; base = o * 2 ^ 26; pieces = pieces }

unfoldable pub rows : List Row
rows =
    function 0 "slli" (triple rd0 rs1 sa)
    ∷ function 2 "srli" (triple rd0 rs1 sa)
    ∷ function 3 "srai" (triple rd0 rs1 sa)
    ∷ function 4 "sll" (triple rd0 rs1 rs2)
    ∷ function 6 "srl" (triple rd0 rs1 rs2)
    ∷ function 7 "sra" (triple rd0 rs1 rs2)
    ∷ function 33 "add" (triple rd0 rs1 rs2)
    ∷ function 35 "sub" (triple rd0 rs1 rs2)
    ∷ function 36 "and" (triple rd0 rs1 rs2)
    ∷ function 37 "or" (triple rd0 rs1 rs2)
    ∷ function 38 "xor" (triple rd0 rs1 rs2)
    ∷ function 39 "lhg" (pair rd0 rs2)
    ∷ function 40 "clr" (alone rd0)
    ∷ function 41 "sgr" (triple rd0 rs1 rs2)
    ∷ function 42 "seq" (triple rd0 rs1 rs2)
    ∷ function 43 "sge" (triple rd0 rs1 rs2)
    ∷ function 44 "sls" (triple rd0 rs1 rs2)
    ∷ function 45 "sne" (triple rd0 rs1 rs2)
    ∷ function 46 "sle" (triple rd0 rs1 rs2)
    ∷ function 47 "set" (alone rd0)
    ∷ opcode 2 "j" (alone far)
    ∷ opcode 3 "jal" (alone far)
    ∷ opcode 4 "beqz" (pair rs1 imm)
    ∷ opcode 5 "bnez" (pair rs1 imm)
    ∷ opcode 9 "addi" (triple rd rs1 imm)
    ∷ opcode 11 "subi" (triple rd rs1 imm)
    ∷ opcode 12 "andi" (triple rd rs1 imm)
    ∷ opcode 13 "ori" (triple rd rs1 imm)
    ∷ opcode 14 "xori" (triple rd rs1 imm)
    ∷ opcode 15 "lhgi" (pair rd high)
    ∷ opcode 22 "jr" (alone rs1)
    ∷ opcode 23 "jalr" (alone rs1)
    ∷ opcode 24 "clri" (alone rd)
    ∷ opcode 25 "sgri" (triple rd rs1 imm)
    ∷ opcode 26 "seqi" (triple rd rs1 imm)
    ∷ opcode 27 "sgei" (triple rd rs1 imm)
    ∷ opcode 28 "slsi" (triple rd rs1 imm)
    ∷ opcode 29 "snei" (triple rd rs1 imm)
    ∷ opcode 30 "slei" (triple rd rs1 imm)
    ∷ opcode 31 "seti" (alone rd)
    ∷ opcode 32 "lb" memory
    ∷ opcode 33 "lh" memory
    ∷ opcode 35 "lw" memory
    ∷ opcode 36 "lbu" memory
    ∷ opcode 37 "lhu" memory
    ∷ opcode 40 "sb" memory
    ∷ opcode 41 "sh" memory
    ∷ opcode 43 "sw" memory
    ∷ opcode 62 "trap" (alone trapped)
    ∷ []

-- what is made of the first row that passes a test, or of none
unfoldable pub first_row : {A : Type 0} → (Row → Bool) → (Row → A) → A → List Row → A
first_row test made other [] = other
first_row test made other (r ∷ rs) = if test r then made r else first_row test made other rs
