-- Section "Console images", its end: what the program writes, byte by byte, for what it reads; and what it leaves in the memories that
-- it is lent.
use Rattle.std.specs.Prelude.{List, [], ◌∷◌, ◌++◌, ℕ, zero, suc, ◌+◌, ◌*◌, ◌/◌, ◌%◌, eqb, leb, ltb, length, take, drop, replicate, if◌then◌else◌, Ok, Err}
use Rattle.model.specs.State.{Memory}
use Rattle.model.specs.Answers.{refusal_number, VerdictNumbers, RunNumbers, Verdict}
use Rattle.model.specs.Calls.{unless, RunOutcome, run_call, StateOutcome}
use Rattle.model.specs.Image.{ptl_of, image_verdict, load_call}
use Rattle.model.specs.declared.Refusal.TheVariants.{Room}

-- the decimal digits of x, of which there are at most n + 1
unfoldable pub digits : ℕ → ℕ → List ℕ
digits zero x = (48 + x) ∷ []
digits (suc n) x = if ltb x 10 then (48 + x) ∷ [] else digits n (x / 10) ++ ((48 + x % 10) ∷ [])

-- a space and a number below 2^32, which has at most ten digits; the end of a line
abbrev pub spaced : ℕ → List ℕ
spaced x = 32 ∷ digits 9 x

abbrev pub newline : List ℕ
newline = 10 ∷ []

-- ---- the words of the lines
abbrev pub stop_word : List ℕ
stop_word = 115 ∷ 116 ∷ 111 ∷ 112 ∷ []  -- s t o p

abbrev pub finished_word : List ℕ
finished_word = 102 ∷ 105 ∷ 110 ∷ 105 ∷ 115 ∷ 104 ∷ 101 ∷ 100 ∷ []  -- f i n i s h e d

abbrev pub loads_word : List ℕ
loads_word = 108 ∷ 111 ∷ 97 ∷ 100 ∷ 115 ∷ []  -- l o a d s

abbrev pub dpc_word : List ℕ
dpc_word = 100 ∷ 112 ∷ 99 ∷ []  -- d p c

abbrev pub refused_word : List ℕ
refused_word = 114 ∷ 101 ∷ 102 ∷ 117 ∷ 115 ∷ 101 ∷ 100 ∷ []  -- r e f u s e d

-- "the one line `refused` with the number"
abbrev pub refused_line : ℕ → List ℕ
refused_line n = refused_word ++ (spaced n ++ newline)

-- "four lines, in decimal: `stop` with number and detail, `finished`, `loads`, `dpc`"
abbrev pub four_lines : RunNumbers → ℕ → List ℕ
four_lines r dpc =
    stop_word ++ (spaced r.stop ++ (spaced r.detail ++ (newline
    ++ (finished_word ++ (spaced r.finished ++ (newline
    ++ (loads_word ++ (spaced r.loads ++ (newline
    ++ (dpc_word ++ (spaced dpc ++ newline)))))))))))

-- what follows where a call is not refused, or its refusal
abbrev pub or_refused : VerdictNumbers → List ℕ → List ℕ
or_refused v lines = if eqb v.refused 0 then lines else refused_line v.refused

abbrev pub run_lines : RunOutcome → List ℕ
run_lines r = or_refused r.numbers.verdict (four_lines r.numbers r.state.machine.pcs.dpc)

-- "runs at most 1000 instructions"
abbrev pub loaded_lines : StateOutcome → List ℕ
loaded_lines l = or_refused l.verdict (run_lines (run_call l.state 1000))

-- "uses five main pages": what stood in the lent bytes before does not matter, loading writes them all
abbrev pub image_lines : Verdict → List ℕ → List ℕ
image_lines (Ok tt) l = loaded_lines (load_call l (record { main = replicate 20480 0; swap = replicate (4096 * ptl_of l) 0 }))
image_lines (Err r) l = refused_line (refusal_number r)

-- "A longer input prints `refused 7` by its length alone. Otherwise a ptl above 4 prints `refused 7`, unless 5 or 6 applies."
unfoldable pub console_verdict : List ℕ → Verdict
console_verdict input = unless (leb (length input) 17436) Room (image_verdict input (unless (leb (ptl_of input) 4) Room (Ok tt)))

unfoldable pub console_text : List ℕ → List ℕ
console_text input = image_lines (console_verdict input) input

-- ---- what the lent memories hold afterwards
-- where loading is refused "no lent byte differs", else what the run leaves
abbrev pub loaded_memory : StateOutcome → Memory
loaded_memory l = if eqb l.verdict.refused 0 then (run_call l.state 1000).state.memory else l.state.memory

-- "Swap must be 4096·ptl bytes": of swap the image's n pages are lent to the machine
abbrev pub lent_pages : ℕ → Memory → Memory
lent_pages n m = record { main = m.main; swap = take (4096 * n) m.swap }

-- what the machine left, and swap behind those pages as it was
abbrev pub with_others : ℕ → Memory → Memory → Memory
with_others n left m = record { main = left.main; swap = left.swap ++ drop (4096 * n) m.swap }

abbrev pub image_memory : Verdict → List ℕ → Memory → Memory
image_memory (Ok tt) l m = with_others (ptl_of l) (loaded_memory (load_call l (lent_pages (ptl_of l) m))) m
image_memory (Err r) l m = m

unfoldable pub console_memory : List ℕ → Memory → Memory
console_memory input m = image_memory (console_verdict input) input m
