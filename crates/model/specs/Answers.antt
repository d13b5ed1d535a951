-- Section "Calls and their refusals": this paper's numbers and values for each case of an answer.
use Rattle.std.specs.Prelude.{ℕ, Result, Ok, Err, ⊤}
use Rattle.model.specs.declared.Stop.{Stop}
use Rattle.model.specs.declared.Stop.TheVariants.{Limit, Trap, IllegalMemory, Misaligned, IllegalInstruction}
use Rattle.model.specs.declared.Refusal.{Refusal}
use Rattle.model.specs.declared.Refusal.TheVariants.{Bound, Unsound, Rights, TooMuch, Edition, Format, Room, Mnemonic, Operand, Overflow}
use Rattle.model.specs.declared.Ran.{Ran}
use Rattle.model.specs.declared.Written.{Written}

-- "Stops: 0 limit used up, 1 trap, 2 illegal memory and 3 misaligned, 4 illegal instruction"
abbrev pub stop_number : Stop → ℕ
stop_number Limit = 0
stop_number (Trap n) = 1
stop_number (IllegalMemory va) = 2
stop_number (Misaligned va) = 3
stop_number (IllegalInstruction w) = 4

-- "detail 0", "its number", "the virtual address", "the word"
abbrev pub stop_detail : Stop → ℕ
stop_detail Limit = 0
stop_detail (Trap n) = n
stop_detail (IllegalMemory va) = va
stop_detail (Misaligned va) = va
stop_detail (IllegalInstruction w) = w

-- the table of refusals, row by row; behind 7 those of document 02: "8 unknown mnemonic, 9 bad operand or nesting, 10 value does not
-- fit its field or the 32 bits"
abbrev pub refusal_number : Refusal → ℕ
refusal_number Bound = 1
refusal_number Unsound = 2
refusal_number Rights = 3
refusal_number TooMuch = 4
refusal_number Edition = 5
refusal_number Format = 6
refusal_number Room = 7
refusal_number Mnemonic = 8
refusal_number Operand = 9
refusal_number Overflow = 10

-- the answers: of a call that only does its work or refuses it, of a run, of the reader of console images
abbrev pub Verdict : Type 0
Verdict = Result ⊤ Refusal

abbrev pub RunAnswer : Type 0
RunAnswer = Result Ran Refusal

abbrev pub ImageAnswer : Type 0
ImageAnswer = Result Written Refusal

-- what every call answers first: the number of its refusal, 0 where nothing is refused. Only `verdict_numbers` makes one.
pub record VerdictNumbers : Type 0 where
  pub refused : ℕ

abbrev pub verdict_numbers : Verdict → VerdictNumbers
verdict_numbers (Ok tt) = record { refused = 0 }
verdict_numbers (Err r) = record { refused = refusal_number r }

-- "Run returns the stop, a detail, instructions finished, pages loaded."; "A run also reports pages copied back"
pub record RunNumbers : Type 0 where
  pub verdict : VerdictNumbers
  pub stop : ℕ
  pub detail : ℕ
  pub finished : ℕ
  pub loads : ℕ
  pub copied : ℕ

-- "A refusal returns its number, zero for every other number"
abbrev pub run_numbers : RunAnswer → RunNumbers
run_numbers (Ok r) = record {
  verdict = verdict_numbers (Ok tt);
  stop = stop_number r.stop;
  detail = stop_detail r.stop;
  finished = r.finished;
  loads = r.loads;
  copied = r.copied;
}
run_numbers (Err r) = record { verdict = verdict_numbers (Err r); stop = 0; detail = 0; finished = 0; loads = 0; copied = 0 }

-- "with them come ptl, start and frames as written"
pub record ImageNumbers : Type 0 where
  pub verdict : VerdictNumbers
  pub ptl : ℕ
  pub start : ℕ
  pub frames : ℕ

abbrev pub image_numbers : ImageAnswer → ImageNumbers
image_numbers (Ok w) = record { verdict = verdict_numbers (Ok tt); ptl = w.ptl; start = w.start; frames = w.frames }
image_numbers (Err r) = record { verdict = verdict_numbers (Err r); ptl = 0; start = 0; frames = 0 }
