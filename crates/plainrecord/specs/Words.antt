-- The plain engine's record as words, in the order ptl, GPR 0 to 31, DPC, PC': the place of each, the record that words say, and the
-- words of a record.
use Rattle.std.specs.Prelude.{Bool, List, [], ◌∷◌, ◌++◌, ℕ, ◌-◌, eqb, length, get_or, set}
use Rattle.model.specs.declared.Pcs.{Pcs}
use Rattle.record.specs.Words.{part}
use Rattle.plainmodel.specs.declared.Plain.{Plain}

-- ---- the places
abbrev pub ptl_at : ℕ
ptl_at = 0

abbrev pub gpr_at : ℕ
gpr_at = 1

abbrev pub dpc_at : ℕ
dpc_at = 33

abbrev pub next_at : ℕ
next_at = 34

abbrev pub record_length : ℕ
record_length = 35

abbrev pub last_word : ℕ
last_word = record_length - 1

-- as long as a record
abbrev pub whole : List ℕ → Bool
whole l = eqb (length l) record_length

-- ---- the record that words say
unfoldable pub plain_of : List ℕ → Plain
plain_of l = record { ptl = get_or l ptl_at 0; gpr = part gpr_at 32 l; pcs = record { dpc = get_or l dpc_at 0; next = get_or l next_at 0 } }

-- ---- the words of a record
abbrev pub head_of : ℕ → List ℕ
head_of ptl = ptl ∷ []

abbrev pub tail_of : Pcs → List ℕ
tail_of p = p.dpc ∷ p.next ∷ []

unfoldable pub words_of : Plain → List ℕ
words_of m = head_of m.ptl ++ m.gpr ++ tail_of m.pcs

-- the record with word i set to v; one that has no word i stays as it is
unfoldable pub with_word : Plain → ℕ → ℕ → Plain
with_word m i v = plain_of (set (words_of m) i v)
