-- The record as words, in the order P, a, abase, ptl, pto, sbase, b, hand, B[0..31], GPR 0 to 31, DPC, PC', marks: the place of each,
-- the record that words say, and the words of a record.
use Rattle.std.specs.Prelude.{Bool, List, [], ◌∷◌, ◌++◌, map, ℕ, ◌-◌, eqb, length, get_or, set, take, drop}
use Rattle.model.specs.Pages.{virtual}
use Rattle.model.specs.declared.VirtualPage.{VirtualPage}
use Rattle.model.specs.declared.Shape.{Shape}
use Rattle.model.specs.declared.Pcs.{Pcs}
use Rattle.model.specs.declared.Machine.{Machine}

-- ---- the places
abbrev pub pages_at : ℕ
pages_at = 0

abbrev pub frames_at : ℕ
frames_at = 1

abbrev pub abase_at : ℕ
abase_at = 2

abbrev pub ptl_at : ℕ
ptl_at = 3

abbrev pub pto_at : ℕ
pto_at = 4

abbrev pub sbase_at : ℕ
sbase_at = 5

abbrev pub used_at : ℕ
used_at = 6

abbrev pub hand_at : ℕ
hand_at = 7

abbrev pub held_at : ℕ
held_at = 8

abbrev pub gpr_at : ℕ
gpr_at = 40

abbrev pub dpc_at : ℕ
dpc_at = 72

abbrev pub next_at : ℕ
next_at = 73

abbrev pub marks_at : ℕ
marks_at = 74

abbrev pub record_length : ℕ
record_length = 75

abbrev pub last_word : ℕ
last_word = record_length - 1

-- as long as a record
abbrev pub whole : List ℕ → Bool
whole l = eqb (length l) record_length

-- ---- parts
-- the n words from word `at` on
abbrev pub part : ℕ → ℕ → List ℕ → List ℕ
part at n l = take n (drop at l)

-- pages by their numbers, and the numbers of pages
abbrev pub pages_of : List ℕ → List VirtualPage
pages_of l = map virtual l

abbrev pub numbers_of : List VirtualPage → List ℕ
numbers_of b = map (λ (p : VirtualPage). p.0) b

-- ---- the record that words say
unfoldable pub machine_of : List ℕ → Machine
machine_of l = record {
  shape = record {
    pages = get_or l pages_at 0;
    frames = get_or l frames_at 0;
    abase = get_or l abase_at 0;
    ptl = get_or l ptl_at 0;
    pto = get_or l pto_at 0;
    sbase = get_or l sbase_at 0;
  };
  book = record { used = get_or l used_at 0; hand = get_or l hand_at 0; held = pages_of (part held_at 32 l); marks = get_or l marks_at 0 };
  gpr = part gpr_at 32 l;
  pcs = record { dpc = get_or l dpc_at 0; next = get_or l next_at 0 };
}

-- ---- the words of a record
-- those before B, and those behind the registers
abbrev pub head_of : Shape → ℕ → ℕ → List ℕ
head_of s used hand = s.pages ∷ s.frames ∷ s.abase ∷ s.ptl ∷ s.pto ∷ s.sbase ∷ used ∷ hand ∷ []

abbrev pub tail_of : Pcs → ℕ → List ℕ
tail_of p marks = p.dpc ∷ p.next ∷ marks ∷ []

unfoldable pub words_of : Machine → List ℕ
words_of m = head_of m.shape m.book.used m.book.hand ++ numbers_of m.book.held ++ m.gpr ++ tail_of m.pcs m.book.marks

-- the record with register i set to v
abbrev pub with_register : Machine → ℕ → ℕ → Machine
with_register m i v = record { shape = m.shape; book = m.book; gpr = set m.gpr i v; pcs = m.pcs }

-- the record with word i set to v; one that has no word i stays as it is
unfoldable pub with_word : Machine → ℕ → ℕ → Machine
with_word m i v = machine_of (set (words_of m) i v)
