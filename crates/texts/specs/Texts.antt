-- The worked texts of the makers' notation, as one table and one statement about the definitions: each line is taken as a word or refused at
-- a column, and words are listed as texts. The checker computes it.
use Rattle.std.specs.Prelude.{Bool, ◌&&◌, List, [], ◌∷◌, ℕ, ◌+◌, T, Ok, Err}
use Prim.Native.String.{String}
use Rattle.model.specs.Choice.{passes}
use Rattle.model.specs.Answers.{refusal_number}
use Rattle.model.specs.Console.{digits}
use Rattle.text.specs.Reading as reading
use Rattle.model.specs.Bytes.{same}
use Rattle.text.specs.Reading.{front, is_digit, decimal, number_of}
use Rattle.notation.specs.Table.{spelled, rows, first_row}
use Rattle.notation.specs.Sums.{is_blank, skipped, number_at, kept, read_by, read_in, read_at}
use Rattle.notation.specs.Line.{fitted, read_piece, ended, read_pieces, instruction_at, line_at, line_of}
use Rattle.notation.specs.Text.{lines, Reading, words, bad, read_from, read_text}
use Rattle.notation.specs.Listing.{value_text, piece_text, pieces_text, filled, by_row, listed, listing}
use Rattle.notation.specs.Answers.{Parsed}

infix 4 ◌is◌
abbrev ◌is◌ : List ℕ → List ℕ → Bool
a is b = same a b

-- ---- answers as lists of numbers
-- 0 and the word, or the refusal and the column
abbrev answered : Parsed → List ℕ
answered (Ok (w, n)) = 0 ∷ w ∷ []
answered (Err w) = refusal_number w.refusal ∷ (w.place + 1) ∷ []

-- 0 and the words, or the refusal, the line and the column
abbrev told : Reading → List ℕ
told (words ws) = 0 ∷ ws
told (bad r line column) = refusal_number r ∷ line ∷ column ∷ []

-- ---- what a line is taken as, or why and where it is refused
infix 5 ◌reads◌
abbrev ◌reads◌ : String → ℕ → Bool
text reads w = answered (line_of (spelled text)) is 0 ∷ w ∷ []

abbrev refused : String → ℕ → ℕ → Bool
refused text number column = answered (line_of (spelled text)) is number ∷ column ∷ []

infix 5 ◌lists◌
abbrev ◌lists◌ : ℕ → String → Bool
w lists text = listed w is spelled text

-- both ways
infix 5 ◌stands_for◌
abbrev ◌stands_for◌ : String → ℕ → Bool
text stands_for w = (text reads w) && (w lists text)

-- a text of several lines
abbrev assembles : String → List ℕ → Bool
assembles text ws = told (read_text (spelled text)) is 0 ∷ ws

abbrev stops : String → ℕ → ℕ → ℕ → Bool
stops text number line column = told (read_text (spelled text)) is number ∷ line ∷ column ∷ []

-- The table stands in the statement itself: as a definition of its own it would be computed more than once.
pub texts : T (passes (
    -- the four words that document 01 marks with *
    ("addi 1,0,7" stands_for 0x24010007)
    ∷ ("sw 1,64(0)" stands_for 0xAC010040)
    ∷ ("trap 5" stands_for 0xF8000005)
    ∷ ("slli 0,0,0" stands_for 0)
    -- a line of each form: negative numbers, and the largest
    ∷ ("srai 1,2,31" stands_for 0x00400FC3)
    ∷ ("add 3,1,2" stands_for 0x00221821)
    ∷ ("lhg 5,6" stands_for 0x00062827)
    ∷ ("clr 5" stands_for 0x00002828)
    ∷ ("j -33554432" stands_for 0x0A000000)
    ∷ ("jal 33554431" stands_for 0x0DFFFFFF)
    ∷ ("beqz 3,-8" stands_for 0x1060FFF8)
    ∷ ("andi 1,0,-1" stands_for 0x3001FFFF)
    ∷ ("lhgi 1,65535" stands_for 0x3C01FFFF)
    ∷ ("jr 31" stands_for 0x5BE00000)
    ∷ ("seti 5" stands_for 0x7C050000)
    ∷ ("lw 2,-4(29)" stands_for 0x8FA2FFFC)
    ∷ ("trap 67108863" stands_for 0xFBFFFFFF)
    -- words that no instruction has, and words whose unused fields are not zero, as plain numbers: 0x5BE00001 is jr 31 with imm 1
    ∷ ("5" stands_for 5)
    ∷ ("1541406721" stands_for 0x5BE00001)
    ∷ ("4294967295" stands_for 0xFFFFFFFF)
    -- any word may be written as a number; leading zeros count nothing; a number that does not fit; nothing stands behind it
    ∷ ("  0604045319\t" reads 0x24010007)
    ∷ (refused "4294967296" 10 1)
    ∷ (refused "5+3" 9 2)
    ∷ (refused "5 5" 9 3)
    ∷ (refused "-5" 8 1)
    -- mnemonics end at a blank, in lower case; a line of blanks has none
    ∷ (refused "ADDI 1,0,7" 8 1)
    ∷ (refused "addi1,0,7" 8 1)
    ∷ (refused "j-8" 8 1)
    ∷ (refused "  add\u{b}1,2,3" 8 3)
    ∷ (refused " \t\r" 8 4)
    ∷ (refused "" 8 1)
    -- blanks: a space, a tab, a carriage return, but in no mnemonic and in no number
    ∷ ("\taddi \t1 , 0\r, - 7 \r" reads 0x2401FFF9)
    ∷ ("sw 1 , 64 ( 0 ) " reads 0xAC010040)
    ∷ (refused "add i 1,0,7" 9 5)
    ∷ (refused "addi 1,0,1 2" 9 12)
    -- sums and differences; every operand is one
    ∷ ("addi 1,0,1--2" reads 0x24010003)
    ∷ ("addi 1,0,10-(2+3)-4" reads 0x24010001)
    ∷ ("add 1+0,(2),5-2" reads 0x00430821)
    ∷ ("sw 1,(4+4)(0)" reads 0xAC010008)
    ∷ (refused "addi 1,0,--2" 9 11)
    ∷ (refused "addi 1,0,+2" 9 10)
    ∷ (refused "addi 1,0,0x7" 9 11)
    ∷ (refused "addi r1,0,7" 9 6)
    ∷ (refused "addi 1,0,()" 9 11)
    ∷ (refused "addi 1,0,(1" 9 12)
    ∷ (refused "addi 1,0,1)" 9 11)
    -- nested eight deep, in each operand anew; a minus does not count, nor does the pair of a load
    ∷ ("j ((((((((1))))))))" reads 0x08000001)
    ∷ ("lw ((((((((2)))))))),-((((((((-4))))))))(((((((((29)))))))))" reads 0x8FA20004)
    ∷ (refused "j (((((((((1)))))))))" 9 11)
    -- 32 bits signed: each number, each term and each partial sum; what contains a bad part has no value
    ∷ ("j 2147483647-2147483646" reads 0x08000001)
    ∷ ("j -2147483647-1+2147483647" reads 0x0BFFFFFF)
    ∷ (refused "j -2147483648" 10 4)
    ∷ (refused "j 2147483647+1-1" 10 3)
    ∷ (refused "j 1+(2147483647+1)" 10 6)
    ∷ (refused "j 1-(-2147483647-2)" 10 6)
    ∷ (refused "j 0--(-2147483647-1)" 10 5)
    ∷ (refused "j 1+2147483648" 10 5)
    -- fields: registers and SA, imm, lhgi's number, that of j and jal, that of trap
    ∷ (refused "add 32,1,2" 10 5)
    ∷ (refused "slli 1,2,0-1" 10 10)
    ∷ (refused "addi 1,0,32768" 10 10)
    ∷ (refused "addi 1,0,-32769" 10 10)
    ∷ (refused "ori 1,0,65535" 10 9)
    ∷ (refused "lhgi 1,65536" 10 8)
    ∷ (refused "lhgi 1,-1" 10 8)
    ∷ (refused "jal 33554432" 10 5)
    ∷ (refused "j -33554433" 10 3)
    ∷ (refused "trap 67108864" 10 6)
    ∷ (refused "trap -1" 10 6)
    -- all operands must stand, and nothing behind them
    ∷ (refused "addi" 9 5)
    ∷ (refused "add 1,2" 9 8)
    ∷ (refused "add 1,2,3,4" 9 10)
    ∷ (refused "sw 1,(0)" 9 9)
    ∷ (refused "sw 1,64(0)5" 9 11)
    -- the first place in the line first: a field is tested before the next byte is judged
    ∷ (refused "addi 32 x" 10 6)
    ∷ (refused "sw 1,40000" 10 6)
    ∷ (refused "addi 40+x,0,0" 9 9)
    -- texts: a word for each line, the first bad line decides; a line behind the last newline only where a byte stands; CR LF
    ∷ (assembles "" [])
    ∷ (assembles "trap 5\r\n7" (0xF8000005 ∷ 7 ∷ []))
    ∷ (assembles "addi 1,0,7\nsw 1,64(0)\ntrap 5\nslli 0,0,0\n" (0x24010007 ∷ 0xAC010040 ∷ 0xF8000005 ∷ 0 ∷ []))
    ∷ (listing (0x24010007 ∷ 0xAC010040 ∷ 0xF8000005 ∷ 0 ∷ []) is spelled "addi 1,0,7\nsw 1,64(0)\ntrap 5\nslli 0,0,0\n")
    ∷ (stops "\n" 8 1 1)
    ∷ (stops "trap 5\n\ntrap 6" 8 2 1)
    ∷ (stops "trap 5\ntrap 67108864\nTRAP\n" 10 2 6)
    ∷ []
    ))
unfolding
    passes digits same front is_digit decimal number_of reading.number_at spelled rows first_row is_blank skipped number_at kept read_by read_in read_at
    fitted read_piece ended read_pieces instruction_at line_at line_of lines read_from read_text value_text piece_text pieces_text filled by_row listed listing
texts = tt
