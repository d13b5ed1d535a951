-- Loading an image into the plain engine: "at loading 5, 6, and 7 for a lent length". 5 and 6 are the reader's, so that frames keep
-- their rule, though there are none here.
use Rattle.std.specs.Prelude.{Bool, ◌&&◌, List, ℕ, ◌*◌, eqb, length, replicate, Ok, Err}
use Rattle.model.specs.Words.{plus}
use Rattle.model.specs.Answers.{VerdictNumbers, verdict_numbers, Verdict}
use Rattle.model.specs.Calls.{unless}
use Rattle.model.specs.Image.{ptl_of, start_of, rights_of, pages_of, image_verdict}
use Rattle.model.specs.declared.Refusal.TheVariants.{Room}
use Rattle.plainmodel.specs.State.{PlainState, plain_state}
use Rattle.plainmodel.specs.declared.Plain.{Plain}

-- a memory of ptl pages, and a rights byte for each
unfoldable pub room : ℕ → ℕ → ℕ → Bool
room ptl bytes_length rights_length = eqb bytes_length (4096 * ptl) && eqb rights_length ptl

unfoldable pub load_verdict : List ℕ → List ℕ → List ℕ → Verdict
load_verdict l bytes rights = image_verdict l (unless (room (ptl_of l) (length bytes) (length rights)) Room (Ok tt))

-- the image's pages and rights, "DPC start, PC' start+4, all else 0"
unfoldable pub fresh : List ℕ → PlainState
fresh l =
    plain_state (record { ptl = ptl_of l; gpr = replicate 32 0; pcs = record { dpc = start_of l; next = plus (start_of l) 4 } })
    (pages_of l) (rights_of l)

-- "from loading, a record of zeros"
abbrev pub zero_plain : Plain
zero_plain = record { ptl = 0; gpr = replicate 32 0; pcs = record { dpc = 0; next = 0 } }

pub record LoadOutcome : Type 0 where
  pub verdict : VerdictNumbers
  pub state : PlainState

abbrev pub load_by : Verdict → List ℕ → List ℕ → List ℕ → LoadOutcome
load_by (Ok tt) l bytes rights = record { verdict = verdict_numbers (Ok tt); state = fresh l }
load_by (Err r) l bytes rights = record { verdict = verdict_numbers (Err r); state = plain_state zero_plain bytes rights }

unfoldable pub load_call : List ℕ → List ℕ → List ℕ → LoadOutcome
load_call l bytes rights = load_by (load_verdict l bytes rights) l bytes rights
