-- What the table in code is to say: a row in code as the table has it, and which row a test finds; and what holds of each row.
use Rattle.std.specs.Prelude.{Bool, ◌&&◌, Option, Some, None, List, [], ◌∷◌, ◌++◌, length, take, get_or, ℕ, ◌*◌, ◌/◌, ◌%◌, ◌^◌, ◌≤◌, ◌<◌, eqb}
use Rattle.std.specs.List.{All, list_all}
use Rattle.std.specs.Int.{w32, from_le_bytes}
use Rattle.model.specs.Bytes.{same}
use Rattle.notation.specs.Table as table
use Rattle.notation.specs.Table.{rows, first_row, alone, pair, triple, memory, rs1, rd, imm, rs2, rd0, sa, high, far, trapped}
use Rattle.notation.specs.declared.Piece.{Piece}
use Rattle.notation.specs.declared.Piece.TheVariants.{Mark, Field}
use Rattle.mnemonics.specs.declared.Row.{Row}
use Rattle.mnemonics.specs.declared.table.TheConstants.{PLACES}
use Rattle.mnemonics.specs.declared.table.Operands.{Operands}
use Rattle.mnemonics.specs.declared.table.Operands.TheVariants.{Rd0Rs1Sa, Rd0Rs1Rs2, Rd0Rs2, Rd0, Far, Rs1Imm, RdRs1Imm, RdHigh, Rs1, Rd, Memory, Trapped}

abbrev pub name_of : Row → List ℕ
name_of r = take r.long r.letters

-- what stands behind the mnemonic
abbrev pub behind : Operands → List Piece
behind Rd0Rs1Sa = triple rd0 rs1 sa
behind Rd0Rs1Rs2 = triple rd0 rs1 rs2
behind Rd0Rs2 = pair rd0 rs2
behind Rd0 = alone rd0
behind Far = alone far
behind Rs1Imm = pair rs1 imm
behind RdRs1Imm = triple rd rs1 imm
behind RdHigh = pair rd high
behind Rs1 = alone rs1
behind Rd = alone rd
behind Memory = memory
behind Trapped = alone trapped

abbrev pub pieces_of : Row → List Piece
pieces_of r = behind r.operands

-- a row in code, as the table has it
abbrev pub row_of : Row → table.Row
row_of r = record { name = name_of r; base = r.base; pieces = pieces_of r }

-- a name's first four bytes, zeros behind a short one
abbrev pub padded : List ℕ → List ℕ
padded name = take 4 (name ++ 0 ∷ 0 ∷ 0 ∷ 0 ∷ [])

-- the place at which a search for four letters looks
abbrev pub place_of : List ℕ → ℕ
place_of letters = get_or PLACES (from_le_bytes w32 letters * 2753667 % 2 ^ 32 / 2 ^ 25) 0

abbrev pub row_at : List Row → ℕ → Row
row_at rs k = get_or rs k (record { letters = []; base = 0; long = 0; operands = Rd0Rs1Sa })

-- a name's letters, and as many as it has
abbrev pub fits : List ℕ → Row → Bool
fits name r = same r.letters (padded name) && eqb (length (name_of r)) (length name)

-- each row stands at the place of its name
abbrev pub placed : List Row → Bool
placed rs = list_all (λ t. fits t.name (row_at rs (place_of (padded t.name)))) rows

-- the first row that passes a test
abbrev pub row_where : (table.Row → Bool) → Option table.Row
row_where test = first_row test Some None rows

-- a mark is no 0, and a field lies within the word
abbrev pub Fine : Piece → Type 0
Fine (Mark b) = 0 < b
Fine (Field scale size signed) = (0 < scale) × (1 < size) × (scale * size ≤ 4294967296) × (size ≤ 67108864)

-- a name of at most four bytes, and at most six pieces
abbrev pub Formed : Row → Type 0
Formed r = (length (name_of r) ≤ 4) × (length (pieces_of r) ≤ 6) × All Fine (pieces_of r)
