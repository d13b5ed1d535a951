-- The worked values that document 01 marks with *, as one table and one statement about the definitions, with pages of 4096 bytes
-- and the real run; with them its small image, a machine whose shape a host chose, and of document 02 the marks of request 3 and the four
-- frames of request 5. The checker computes it.
use Rattle.std.specs.Prelude.{Bool, true, false, not, ◌&&◌, List, [], ◌∷◌, ◌++◌, map, ℕ, ◌+◌, ◌-◌, ◌*◌, ◌%◌, ◌^◌, T, eqb, replicate}
use Rattle.model.specs.Choice.{passes, every_below, list_below}
use Rattle.model.specs.Words.{minus, compared}
use Rattle.model.specs.Bytes.{number, store, page, with_page, same}
use Rattle.model.specs.Pages.{virtual}
use Rattle.model.specs.Table.{entry, with_entry, set_spare}
use Rattle.model.specs.Frames.{advanced, among, resident, empty_book, page_in}
use Rattle.model.specs.State.{State, memory}
use Rattle.model.specs.Sound.{fits, sound}
use Rattle.model.specs.Translate.{translate}
use Rattle.model.specs.Instruction.{plan, register, immediate}
use Rattle.model.specs.Attempt.{transfer, obey_load, obey_store, obey, attempt}
use Rattle.model.specs.Handler.{out, into, loaded, load}
use Rattle.model.specs.Run.{follow, run, attempts, instruction}
use Rattle.model.specs.Calls.{machine_verdict, run_verdict, RunOutcome, run_call}
use Rattle.model.specs.Calls.{permitted, host_verdict, poke, bytes_to, mark_for, marks_for, StateOutcome, write_call}
use Rattle.model.specs.Series.{spared}
use Rattle.model.specs.Image.{trailer, rights_of, pages_of, known, well_formed, image_verdict, least_main_pages, room, load_verdict, invalid_entries, fresh, load_call}
use Rattle.model.specs.Console.{digits, console_verdict, console_text}
use Rattle.model.specs.declared.Shape.{Shape}
use Rattle.model.specs.declared.Access.{Access}
use Rattle.model.specs.declared.Access.TheVariants.{Illegal, Fault, At}
use Rattle.model.specs.declared.Plan.{Plan}
use Rattle.model.specs.declared.Plan.TheVariants.{Unknown, Set, LoadByte, LoadHalf, LoadWord, StoreByte, StoreHalf, StoreWord, Trapping}

-- ---- machines to try
abbrev zeros : ℕ → List ℕ
zeros n = replicate n 0

-- entries with these low bytes, and then the rest of main memory
abbrev table : List ℕ → List ℕ → List ℕ
table [] after = after
table (e ∷ es) after = e ∷ 0 ∷ 0 ∷ 0 ∷ table es after

-- words stored from an address on
abbrev words : List ℕ → ℕ → List ℕ → List ℕ
words l i [] = l
words l i (w ∷ ws) = words (store 4 l i w) (i + 4) ws

-- GPR 1 and 2, and the others 0
abbrev registers : ℕ → ℕ → List ℕ
registers x y = 0 ∷ x ∷ y ∷ zeros 29

-- loading's choice of abase, pto and sbase
abbrev shape_of : ℕ → ℕ → Shape
shape_of a n = record { pages = 1 + a; frames = a; abase = 1; ptl = n; pto = 0; sbase = 0 }

-- a fresh machine of this shape, with the pages in swap and for each an entry with this low byte (4 readable, 6 writable too)
abbrev machine : Shape → ℕ → List ℕ → ℕ → ℕ → List ℕ → State
machine s e gpr dpc next swap = record {
  machine = record { shape = s; book = empty_book; gpr = gpr; pcs = record { dpc = dpc; next = next } };
  memory = record {
    main = zeros s.pto ++ table (replicate s.ptl e) (zeros (4096 * s.pages - (s.pto + 4 * s.ptl)));
    swap = zeros (4096 * s.sbase) ++ swap;
  };
}

-- ---- answers as lists of numbers
abbrev planned : Plan → List ℕ
planned Unknown = 0 ∷ []
planned (Set rd v target) = 1 ∷ rd ∷ v ∷ target ∷ []
planned (LoadByte signed rd va) = 2 ∷ 1 ∷ rd ∷ va ∷ []
planned (LoadHalf signed rd va) = 2 ∷ 2 ∷ rd ∷ va ∷ []
planned (LoadWord rd va) = 2 ∷ 4 ∷ rd ∷ va ∷ []
planned (StoreByte va v) = 3 ∷ 1 ∷ va ∷ v ∷ []
planned (StoreHalf va v) = 3 ∷ 2 ∷ va ∷ v ∷ []
planned (StoreWord va v) = 3 ∷ 4 ∷ va ∷ v ∷ []
planned (Trapping n) = 4 ∷ n ∷ []

abbrev accessed : Access → List ℕ
accessed Illegal = 0 ∷ []
accessed Fault = 1 ∷ []
accessed (At i) = 2 ∷ i ∷ []

-- refusal, stop, detail, finished, loads, copied
abbrev counted : RunOutcome → List ℕ
counted r =
    r.numbers.verdict.refused
    ∷ r.numbers.stop
    ∷ r.numbers.detail
    ∷ r.numbers.finished
    ∷ r.numbers.loads
    ∷ r.numbers.copied
    ∷ []

-- B[0], B[1], hand, marks
abbrev booked : RunOutcome → List ℕ
booked r =
    (page_in r.state.machine.book 0).0
    ∷ (page_in r.state.machine.book 1).0
    ∷ r.state.machine.book.hand
    ∷ r.state.machine.book.marks
    ∷ []

-- refusal, marks
abbrev noted : StateOutcome → List ℕ
noted r = r.verdict.refused ∷ r.state.machine.book.marks ∷ []

-- DPC, PC' and the registers
abbrev registered : RunOutcome → List ℕ
registered r = r.state.machine.pcs.dpc ∷ r.state.machine.pcs.next ∷ r.state.machine.gpr

-- the words of a memory at these places
abbrev words_at : List ℕ → List ℕ → List ℕ
words_at l [] = []
words_at l (i ∷ is) = number 4 l i ∷ words_at l is

-- ---- the programs
-- pages that begin with these words, one after another
abbrev pages : List (List ℕ) → List ℕ
pages [] = []
pages (ws ∷ more) = words (zeros 4096) 0 ws ++ pages more

-- lw 1,4096(0) and lw 1,8192(0)
abbrev two_loads : State
two_loads = machine (shape_of 2 3) 4 (registers 0 0) 0 4 (pages ((0x8C011000 ∷ 0x8C012000 ∷ []) ∷ [] ∷ [] ∷ []))

-- j to k, where PC' is i
abbrev hop : ℕ → ℕ → ℕ
hop i k = 2 * 2 ^ 26 + minus k i % 2 ^ 26

-- A jump in each word: fetched are, one after another, the words at 4096, 8192, 12288, 16384, 4100, 8196, 20480, 4104, 8200,
-- 12292, 16388, 20484, in the pages 1,2,3,4,1,2,5,1,2,3,4,5.
abbrev fetches : ℕ → State
fetches a = machine (shape_of a 6) 4 (registers 0 0) 4096 8192 (pages (
    []
    ∷ (hop 8192 12288 ∷ hop 8196 20480 ∷ hop 8200 12292 ∷ [])
    ∷ (hop 12288 16384 ∷ hop 20480 4104 ∷ hop 12292 16388 ∷ [])
    ∷ (hop 16384 4100 ∷ hop 16388 20484 ∷ [])
    ∷ (hop 4100 8196 ∷ 0 ∷ [])
    ∷ (hop 4104 8200 ∷ 0 ∷ [])
    ∷ []))

-- A shape that a host chose: sbase 3, pto 8, abase 2. sw 1,4096(0) and sw 1,8192(0), with 7 in GPR 1: the load of page 2 puts page 0
-- out, which was only read and is not copied, and the code page that comes again puts page 1 out, which is copied with the word stored
-- there.
abbrev two_stores : State
two_stores = machine (record { pages = 4; frames = 2; abase = 2; ptl = 3; pto = 8; sbase = 3 }) 6 (registers 7 0) 0 4
    (pages ((0xAC011000 ∷ 0xAC012000 ∷ []) ∷ [] ∷ [] ∷ []))

-- the same with form numbers of the host in bits 11–3: 1, 300 and 511 for pages 0, 1 and 2; 512 does not fit, and page 3 is not in the
-- table
abbrev with_forms : State
with_forms =
    spared (spared (spared (spared (spared two_stores (virtual 0) 1) (virtual 1) 300) (virtual 2) 511) (virtual 0) 512) (virtual 3) 5

-- what it comes to: its numbers, its book, the entries of pages 0, 1 and 2 and the word stored in page 2, that stored in page 1
abbrev moved : RunOutcome → List ℕ
moved r =
    counted r ++ booked r ++ words_at r.state.memory.main (8 ∷ 12 ∷ 16 ∷ 8192 ∷ []) ++ words_at r.state.memory.swap (16384 ∷ [])

-- Two frames and two pages that grant reading and writing, with these marks: page 0 is in frame 0, and in swap but for its first byte,
-- which is x here and 0 there; page 1 is in swap alone.
abbrev one_resident : ℕ → ℕ → State
one_resident marks x = record {
  machine = record {
    shape = shape_of 2 2;
    book = record { used = 1; hand = 0; held = replicate 32 (virtual 0); marks = marks };
    gpr = zeros 32;
    pcs = record { dpc = 0; next = 4 };
  };
  memory = memory (pages (((4096 + 7) ∷ 6 ∷ []) ∷ (x ∷ []) ∷ [] ∷ [])) (zeros 8192);
}

abbrev right : State → Bool
right p = sound p.machine p.memory

-- "Image of one page, rights 3, start 0, frames 0, the three words above at 0, 4, 8."
abbrev image : List ℕ
image = pages ((0x24010007 ∷ 0xAC010040 ∷ 0xF8000005 ∷ []) ∷ []) ++ 3 ∷ words (zeros 24) 0 (25 ∷ 4121 ∷ 1 ∷ 0 ∷ 0 ∷ 1 ∷ [])

-- loaded into n main pages: the refusal, and the frames of the machine that is handed back
abbrev framed : ℕ → List ℕ
framed n = frames_by (load_call image (memory (zeros (4096 * n)) (zeros 4096)))
  where
    frames_by : StateOutcome → List ℕ
    frames_by o = o.verdict.refused ∷ o.state.machine.shape.frames ∷ []

-- a page of swap, and n main pages, have room for an image with these frames
abbrev fitting : ℕ → ℕ → Bool
fitting frames n = room frames 1 (4096 * n) 4096

-- ---- the table
infix 5 ◌is◌
-- the two lists are the same
abbrev pub ◌is◌ : List ℕ → List ℕ → Bool
◌is◌ [] [] = true
◌is◌ [] (y ∷ ys) = false
◌is◌ (x ∷ xs) [] = false
◌is◌ (x ∷ xs) (y ∷ ys) = eqb x y && (xs is ys)

abbrev pub every : List Bool → Bool
every [] = true
every (b ∷ bs) = b && every bs

-- The table stands in the statement itself: as a definition of its own it would be computed more than once.
pub worked : T (every (
    -- 0x24010007 is addi 1,0,7; 0xAC010040 is sw 1,64(0), with 9 in GPR 1; 0xF8000005 is trap 5
    (planned (plan (registers 0 0) 4 0x24010007) is 1 ∷ 1 ∷ 7 ∷ 8 ∷ [])
    ∷ (planned (plan (registers 9 0) 4 0xAC010040) is 3 ∷ 4 ∷ 64 ∷ 9 ∷ [])
    ∷ (planned (plan (registers 0 0) 4 0xF8000005) is 4 ∷ 5 ∷ [])
    -- 0 changes only DPC and PC'
    ∷ (registered (run_call (machine (shape_of 2 1) 4 (registers 7 8) 0 4 (zeros 4096)) 1) is 4 ∷ 8 ∷ 0 ∷ 7 ∷ 8 ∷ zeros 29)
    -- ptl 2: va 8191 is in the table (and faults), 8192 is illegal, whatever stands behind the table
    ∷ (accessed (translate (shape_of 2 2) (table (4 ∷ 4 ∷ 4 ∷ []) (zeros 12276)) false 8191) is 1 ∷ [])
    ∷ (accessed (translate (shape_of 2 2) (table (4 ∷ 4 ∷ 4 ∷ []) (zeros 12276)) false 8192) is 0 ∷ [])
    -- v 0 and r 0, read: illegal, not a fault
    ∷ (accessed (translate (shape_of 2 2) (table (0 ∷ 4 ∷ []) (zeros 12280)) false 0) is 0 ∷ [])
    -- 2^31−1 plus 1 by add gives 2^31; sgr of that against 0 gives 0; srai of 0x80000000 by 31; lw at 0xFFFFFFFC+8
    ∷ (planned (plan (registers (2 ^ 31 - 1) 1) 4 0x00221821) is 1 ∷ 3 ∷ 2 ^ 31 ∷ 8 ∷ [])
    ∷ (planned (plan (registers (2 ^ 31) 1) 4 0x00201829) is 1 ∷ 3 ∷ 0 ∷ 8 ∷ [])
    ∷ (planned (plan (registers 0x80000000 1) 4 0x00201FC3) is 1 ∷ 3 ∷ 0xFFFFFFFF ∷ 8 ∷ [])
    ∷ (planned (plan (registers 0xFFFFFFFC 1) 4 0x8C220008) is 2 ∷ 4 ∷ 2 ∷ 4 ∷ [])
    -- srai 3,1,n of a word whose bit 31 is set, and of one where it is clear: n = 0, 4 and 31; 0x00201803 is srai 3,1,0
    ∷ (planned (plan (registers 0x87654321 1) 4 0x00201803) is 1 ∷ 3 ∷ 0x87654321 ∷ 8 ∷ [])
    ∷ (planned (plan (registers 0x87654321 1) 4 0x00201903) is 1 ∷ 3 ∷ 0xF8765432 ∷ 8 ∷ [])
    ∷ (planned (plan (registers 0x87654321 1) 4 0x00201FC3) is 1 ∷ 3 ∷ 0xFFFFFFFF ∷ 8 ∷ [])
    ∷ (planned (plan (registers 0x7654321F 1) 4 0x00201803) is 1 ∷ 3 ∷ 0x7654321F ∷ 8 ∷ [])
    ∷ (planned (plan (registers 0x7654321F 1) 4 0x00201903) is 1 ∷ 3 ∷ 0x07654321 ∷ 8 ∷ [])
    ∷ (planned (plan (registers 0x7654321F 1) 4 0x00201FC3) is 1 ∷ 3 ∷ 0 ∷ 8 ∷ [])
    -- sra 3,1,2 goes by RS2 mod 32: by 36, which is 4, by 32, which is 0, and by 31
    ∷ (planned (plan (registers 0x87654321 36) 4 0x00221807) is 1 ∷ 3 ∷ 0xF8765432 ∷ 8 ∷ [])
    ∷ (planned (plan (registers 0x87654321 32) 4 0x00221807) is 1 ∷ 3 ∷ 0x87654321 ∷ 8 ∷ [])
    ∷ (planned (plan (registers 0x7654321F 31) 4 0x00221807) is 1 ∷ 3 ∷ 0 ∷ 8 ∷ [])
    -- a = 2, limit 2: finished 2, loads 4, B = 2, 0, hand 0; nothing was stored, so nothing is copied or marked
    ∷ (counted (run_call two_loads 2) is 0 ∷ 0 ∷ 0 ∷ 2 ∷ 4 ∷ 0 ∷ [])
    ∷ (booked (run_call two_loads 2) is 2 ∷ 0 ∷ 0 ∷ 0 ∷ [])
    -- fetches alone: 9 loads with 3 frames, 10 with 4
    ∷ (counted (run_call (fetches 3) 12) is 0 ∷ 0 ∷ 0 ∷ 12 ∷ 9 ∷ 0 ∷ [])
    ∷ (counted (run_call (fetches 4) 12) is 0 ∷ 0 ∷ 0 ∷ 12 ∷ 10 ∷ 0 ∷ [])
    -- the host's shape: page 0 in main page 3, page 2 in main page 2, page 1 in swap page 3 + 1; of 4 loads' two victims only page 1 is
    -- copied, and only page 2, in frame 0, is marked
    ∷ (moved (run_call two_stores 2) is 0 ∷ 0 ∷ 0 ∷ 2 ∷ 4 ∷ 1 ∷ 2 ∷ 0 ∷ 0 ∷ 1 ∷ (4096 * 3 + 7) ∷ 6 ∷ (4096 * 2 + 7) ∷ 7 ∷ 7 ∷ [])
    -- the same with form numbers, which the four loads keep
    ∷ (moved (run_call with_forms 2) is
    0 ∷ 0 ∷ 0 ∷ 2 ∷ 4 ∷ 1 ∷ 2 ∷ 0 ∷ 0 ∷ 1 ∷ (4096 * 3 + 8 * 1 + 7) ∷ (8 * 300 + 6) ∷ (4096 * 2 + 8 * 511 + 7) ∷ 7 ∷ 7 ∷ [])
    -- a host write marks the frame of a page that it gives a byte: one byte to page 0, one to page 1 in swap, none to page 0
    ∷ (noted (write_call (one_resident 0 0) 4095 (9 ∷ [])) is 0 ∷ 1 ∷ [])
    ∷ (noted (write_call (one_resident 0 0) 4096 (9 ∷ [])) is 0 ∷ 0 ∷ [])
    ∷ (noted (write_call (one_resident 0 0) 4095 []) is 0 ∷ 0 ∷ [])
    -- sound: a page that is not as in swap has its mark; one that is may have it; frame 1 is unused and has none
    ∷ not (right (one_resident 0 1))
    ∷ right (one_resident 1 1)
    ∷ right (one_resident 1 0)
    ∷ not (right (one_resident 2 0))
    -- frames 0 mean 4: three and four main pages are too few; 2 or 3 frames written out still load into 3 or 4, but 4 frames do not
    ∷ not (fitting 0 3) ∷ not (fitting 0 4) ∷ fitting 0 5 ∷ fitting 2 3 ∷ fitting 3 4 ∷ not (fitting 4 4)
    -- the least main pages for frames 0, 2, 3, 4 and 32; no image has 1 or 33
    ∷ (map least_main_pages (0 ∷ 2 ∷ 3 ∷ 4 ∷ 32 ∷ 1 ∷ 33 ∷ []) is 5 ∷ 3 ∷ 4 ∷ 5 ∷ 33 ∷ 0 ∷ 0 ∷ [])
    -- the small image, whose frames are 0, is refused 7 with four main pages; with five it is taken, and the program prints: stop 1 5,
    -- finished 3, loads 1, dpc 12
    ∷ (framed 4 is 7 ∷ 0 ∷ [])
    ∷ (framed 5 is 0 ∷ 4 ∷ [])
    ∷ (console_text image is
    115 ∷ 116 ∷ 111 ∷ 112 ∷ 32 ∷ 49 ∷ 32 ∷ 53 ∷ 10
    ∷ 102 ∷ 105 ∷ 110 ∷ 105 ∷ 115 ∷ 104 ∷ 101 ∷ 100 ∷ 32 ∷ 51 ∷ 10
    ∷ 108 ∷ 111 ∷ 97 ∷ 100 ∷ 115 ∷ 32 ∷ 49 ∷ 10
    ∷ 100 ∷ 112 ∷ 99 ∷ 32 ∷ 49 ∷ 50 ∷ 10 ∷ [])
    ∷ []
    ))
unfolding
    passes every_below list_below compared number store page with_page entry with_entry set_spare spared advanced among resident fits sound translate plan register immediate
    transfer obey_load obey_store obey attempt out into loaded load follow run attempts instruction machine_verdict run_verdict run_call
    same permitted host_verdict poke bytes_to mark_for marks_for write_call
    trailer rights_of pages_of known well_formed image_verdict least_main_pages room load_verdict invalid_entries fresh load_call digits console_verdict console_text
worked = tt
