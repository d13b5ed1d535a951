-- Section "Table and frame book": an entry has bits 31–12 ppx, bit 2 r, bit 1 w, bit 0 v. Bits 11–3 are the host's.
use Rattle.std.specs.Prelude.{Bool, List, ℕ, ◌+◌, ◌*◌, eqb}
use Rattle.model.specs.Words.{low, field}
use Rattle.model.specs.Bytes.{number, store}
use Rattle.model.specs.Pages.{entry_at}
use Rattle.model.specs.declared.Shape.{Shape}
use Rattle.model.specs.declared.VirtualPage.{VirtualPage}
use Rattle.model.specs.declared.MainPage.{MainPage}

abbrev pub ppx : ℕ → MainPage
ppx e = record { 0 = field 12 20 e }

abbrev pub readable : ℕ → Bool
readable e = eqb (field 2 1 e) 1

abbrev pub writable : ℕ → Bool
writable e = eqb (field 1 1 e) 1

abbrev pub valid : ℕ → Bool
valid e = eqb (low 1 e) 1

abbrev pub spare : ℕ → ℕ
spare e = field 3 9 e

-- What of an entry the handler keeps: it "changes only ppx and v", so r and w stay, and "bits 11–3 stay as the host put them".
abbrev pub kept : ℕ → ℕ
kept e = 2 * field 1 11 e

-- the entry of a page that is put out: ppx 0 and v 0
abbrev pub put_out : ℕ → ℕ
put_out e = kept e

-- the entry of a page that is brought to main page p: ppx p and v 1
abbrev pub brought_to : MainPage → ℕ → ℕ
brought_to p e = 4096 * p.0 + kept e + 1

-- the entry with n in its bits 11–3
abbrev pub with_spare : ℕ → ℕ → ℕ
with_spare n e = 4096 * field 12 20 e + 8 * n + low 3 e

-- the entry of page x, in main memory, and main memory with another entry there
unfoldable pub entry : Shape → List ℕ → VirtualPage → ℕ
entry s main x = number 4 main (entry_at s x)

unfoldable pub with_entry : Shape → List ℕ → VirtualPage → ℕ → List ℕ
with_entry s main x e = store 4 main (entry_at s x) e

-- main memory with n in bits 11–3 of the entry of page x
unfoldable pub set_spare : Shape → List ℕ → VirtualPage → ℕ → List ℕ
set_spare s main x n = with_entry s main x (with_spare n (entry s main x))
