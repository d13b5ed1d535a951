-- Section "Console images": the format, read from the end; the reader's complete outcome; and loading's.
use Rattle.std.specs.Prelude.{Bool, ◌&&◌, ◌||◌, List, [], ◌∷◌, ◌++◌, ℕ, ◌+◌, ◌-◌, ◌*◌, ◌/◌, ◌%◌, eqb, leb, length, get_or, take, drop, replicate, if◌then◌else◌, Ok, Err}
use Rattle.model.specs.Choice.{passes, every_below}
use Rattle.model.specs.Words.{aligned, low, field, plus}
use Rattle.model.specs.Bytes.{number}
use Rattle.model.specs.Frames.{empty_book}
use Rattle.model.specs.State.{Memory, State}
use Rattle.model.specs.Answers.{verdict_numbers, ImageNumbers, image_numbers, Verdict}
use Rattle.model.specs.Calls.{unless, StateOutcome}
use Rattle.model.specs.declared.Shape.{Shape}
use Rattle.model.specs.declared.Machine.{Machine}
use Rattle.model.specs.declared.Refusal.TheVariants.{Edition, Format, Room}

-- "The last 24 bytes are six u32: distance from the file's end back to the rights, the same to the pages, ptl, start, frames,
-- edition": number k of these
unfoldable pub trailer : List ℕ → ℕ → ℕ
trailer l k = number 4 l (length l - 24 + 4 * k)

abbrev pub ptl_of : List ℕ → ℕ
ptl_of l = trailer l 2

abbrev pub start_of : List ℕ → ℕ
start_of l = trailer l 3

abbrev pub frames_of : List ℕ → ℕ
frames_of l = trailer l 4

-- the sections, as parts of the file, and where they begin in it
abbrev pub rights_place : List ℕ → ℕ
rights_place l = length l - (24 + ptl_of l)

unfoldable pub rights_of : List ℕ → List ℕ
rights_of l = take (ptl_of l) (drop (rights_place l) l)

abbrev pub pages_place : List ℕ → ℕ
pages_place l = length l - (24 + ptl_of l + 4096 * ptl_of l)

unfoldable pub pages_of : List ℕ → List ℕ
pages_of l = take (4096 * ptl_of l) (drop (pages_place l) l)

-- "5: image under 24 bytes, or edition not 1"
unfoldable pub known : List ℕ → Bool
known l = leb 24 (length l) && eqb (trailer l 5) 1

-- "Frames is 2 to 32, or 0"
abbrev pub frames_right : ℕ → Bool
frames_right n = eqb n 0 || leb 2 n && leb n 32

-- "6: a trailer number (but edition), a rights byte or the label's length breaks its rule"
unfoldable pub well_formed : List ℕ → Bool
well_formed l = passes (
    leb 1 (ptl_of l) ∷ leb (ptl_of l) 1024
    ∷ eqb (trailer l 0) (24 + ptl_of l)
    ∷ eqb (trailer l 1) (24 + ptl_of l + 4096 * ptl_of l)
    ∷ leb (trailer l 1) (length l) ∷ leb (length l) (trailer l 1 + 1024)
    ∷ every_below (ptl_of l) (λ x. leb (get_or (rights_of l) x 0) 3)
    ∷ aligned 4 (start_of l)
    ∷ frames_right (frames_of l)
    ∷ [])

unfoldable pub image_verdict : List ℕ → Verdict → Verdict
image_verdict l after = unless (known l) Edition (unless (well_formed l) Format after)

-- ---- the reader
pub record ImageOutcome : Type 0 where
  pub numbers : ImageNumbers
  pub pages : List ℕ
  pub rights : List ℕ

abbrev pub image_by : Verdict → List ℕ → ImageOutcome
image_by (Ok tt) l =
    record { numbers = image_numbers (Ok (record { ptl = ptl_of l; start = start_of l; frames = frames_of l })); pages = pages_of l; rights = rights_of l }
image_by (Err r) l = record { numbers = image_numbers (Err r); pages = []; rights = [] }

unfoldable pub image_call : List ℕ → ImageOutcome
image_call l = image_by (image_verdict l (Ok tt)) l

-- ---- loading
-- "A zero in the image's frames field shall mean 4."
abbrev pub meant : ℕ → ℕ
meant n = if eqb n 0 then 4 else n

-- what a host asks before it lends main memory, of the frames as written: "at least 1+frames" pages; 0 where no image has them
unfoldable pub least_main_pages : ℕ → ℕ
least_main_pages n = if frames_right n then 1 + meant n else 0

-- "Swap must be 4096·ptl bytes; main memory 3 to 64 whole pages, at least 1+frames."
unfoldable pub room : ℕ → ℕ → ℕ → ℕ → Bool
room frames ptl main_length swap_length = passes (
    eqb (main_length % 4096) 0
    ∷ leb 3 (main_length / 4096) ∷ leb (main_length / 4096) 64
    ∷ leb (1 + meant frames) (main_length / 4096)
    ∷ eqb swap_length (4096 * ptl)
    ∷ [])

unfoldable pub load_verdict : List ℕ → Memory → Verdict
load_verdict l m =
    image_verdict l (unless (room (frames_of l) (ptl_of l) (length m.main) (length m.swap)) Room (Ok tt))

-- "main the invalid entries (ppx 0, r and w from the rights)": the entry by a rights byte, and all of them as bytes
abbrev pub invalid_entry : ℕ → ℕ
invalid_entry x = 4 * low 1 x + 2 * field 1 1 x

unfoldable pub invalid_entries : List ℕ → List ℕ
invalid_entries [] = []
invalid_entries (x ∷ xs) = invalid_entry x ∷ 0 ∷ 0 ∷ 0 ∷ invalid_entries xs

-- "Loading makes P the lent main pages, a the frames, abase 1, pto 0, sbase 0."
abbrev pub fresh_shape : List ℕ → ℕ → Shape
fresh_shape l main_length =
    record { pages = main_length / 4096; frames = meant (frames_of l); abase = 1; ptl = ptl_of l; pto = 0; sbase = 0 }

-- "DPC start, PC' start+4, all else 0"
unfoldable pub fresh : List ℕ → ℕ → State
fresh l main_length = record {
  machine = record {
    shape = fresh_shape l main_length;
    book = empty_book;
    gpr = replicate 32 0;
    pcs = record { dpc = start_of l; next = plus (start_of l) 4 };
  };
  memory = record { main = invalid_entries (rights_of l) ++ replicate (main_length - 4 * ptl_of l) 0; swap = pages_of l };
}

-- "from loading, a record of zeros"
abbrev pub zero_machine : Machine
zero_machine = record {
  shape = record { pages = 0; frames = 0; abase = 0; ptl = 0; pto = 0; sbase = 0 };
  book = empty_book;
  gpr = replicate 32 0;
  pcs = record { dpc = 0; next = 0 };
}

abbrev pub load_by : Verdict → List ℕ → Memory → StateOutcome
load_by (Ok tt) l m = record { verdict = verdict_numbers (Ok tt); state = fresh l (length m.main) }
load_by (Err r) l m = record { verdict = verdict_numbers (Err r); state = record { machine = zero_machine; memory = m } }

unfoldable pub load_call : List ℕ → Memory → StateOutcome
load_call l m = load_by (load_verdict l m) l m
