-- No two outcomes fit a promise ("Show that no two outcomes fit it"), of every promise that a public call's `ensures` cites: the fourth
-- line of the summary, beside the three demands (crates/demands). The theorem is `unique` of proofs/Unique.
use Rattle.std.specs.Prelude.{◌≡◌, List, ℕ}
use Rattle.std.specs.Borrow.{Bor}
use Rattle.model.specs.State.{Memory, State}
use Rattle.model.specs.Answers.{stop_number, stop_detail, refusal_number, verdict_numbers, run_numbers, image_numbers, Verdict, RunAnswer, ImageAnswer}
use Rattle.model.specs.Promises as promises
use Rattle.model.specs.declared.Stop.{Stop}
use Rattle.model.specs.declared.Refusal.{Refusal}
use Rattle.model.specs.declared.VirtualPage.{VirtualPage}
use Rattle.model.specs.declared.FrameBook.{FrameBook}
use Rattle.model.specs.declared.Machine.{Machine}
use Rattle.plainmodel.specs.State.{PlainState}
use Rattle.plainmodel.specs.Calls.{plain_numbers, PlainAnswer}
use Rattle.plainmodel.specs.Promises as plain
use Rattle.plainmodel.specs.declared.Plain.{Plain}
use Rattle.notation.specs.Calls.{assemble_numbers, list_numbers}
use Rattle.notation.specs.Promises as notation
use Rattle.notation.specs.Answers.{AssembleAnswer, ListAnswer}
use Rattle.image.specs.Hand as hand
use Rattle.image.specs.declared.at_hand.Image.{Image}
use Rattle.imagewords.specs.Image.{ImagePromise}
use Rattle.capi.specs.Promises as exported
use Rattle.plaincapi.specs.Promises as plain_exported
use Rattle.program.specs.Promises.{ConsolePromise}
use Rattle.script.specs.Promises.{ParsePromise}
use Rattle.session.specs.Promises.{BeginPromise}
use Rattle.session.specs.declared.Told.{Told}
use Rattle.plainsession.specs.Promises as plain-session
use Rattle.plainsession.specs.declared.Told.{Told as PlainTold}
use Rattle.comparison.specs.Promises as comparison
use Rattle.comparison.specs.declared.Told.{Told as BothTold}
use Rattle.workshop.specs.Programs as workshop

-- ---- what fits a promise is one: the result alone; the result and a lent slice at exit; the result and two, such as both memories, at exit
abbrev pub NoTwo : {A : Type 0} → (A → Type 0) → Type 0
NoTwo {A = A} Promise = (r r' : A) → Promise r → Promise r' → r ≡ r'

abbrev pub NoTwoFilled : {A : Type 0} → (A → List ℕ → Type 0) → Type 0
NoTwoFilled {A = A} Promise = (r r' : A) (l l' : List ℕ) → Promise r l → Promise r' l' → (r ≡ r') × (l ≡ l')

abbrev pub NoTwoLent : {A : Type 0} → (A → List ℕ → List ℕ → Type 0) → Type 0
NoTwoLent {A = A} Promise = (r r' : A) (main main' swap swap' : List ℕ)
    → Promise r main swap → Promise r' main' swap' → (r ≡ r') × (main ≡ main') × (swap ≡ swap')

-- the part that is handed back: it begins at one byte of one block, and has the same bytes
pub record SamePart (r r' : Bor (List ℕ)) : Type 0 where
  pub begins : r.ref_ptr ≡ r'.ref_ptr
  pub bytes : r.now ≡ r'.now

abbrev pub NoTwoParts : (Bor (List ℕ) → Type 0) → Type 0
NoTwoParts Promise = (r r' : Bor (List ℕ)) → Promise r → Promise r' → SamePart r r'

-- ---- "a definition gives this paper's number and values for each of the enum's cases": no two cases have the same
pub record NumbersTell : Type 0 where
  pub refusal : (x y : Refusal) → refusal_number x ≡ refusal_number y → x ≡ y
  pub verdict : (x y : Verdict) → verdict_numbers x ≡ verdict_numbers y → x ≡ y
  pub stop : (x y : Stop) → stop_number x ≡ stop_number y → stop_detail x ≡ stop_detail y → x ≡ y
  pub run : (x y : RunAnswer) → run_numbers x ≡ run_numbers y → x ≡ y
  pub image : (x y : ImageAnswer) → image_numbers x ≡ image_numbers y → x ≡ y
  pub plain : (x y : PlainAnswer) → plain_numbers x ≡ plain_numbers y → x ≡ y
  pub assemble : (x y : AssembleAnswer) → assemble_numbers x ≡ assemble_numbers y → x ≡ y
  pub list : (x y : ListAnswer) → list_numbers x ≡ list_numbers y → x ≡ y

-- ---- the calls of the crate `machine`
pub record MachineCalls : Type 0 where
  pub run : (p : State) (limit : ℕ) → NoTwoLent (promises.RunPromise p limit)
  pub host_read : (p : State) (va : ℕ) (buffer : List ℕ) → NoTwoFilled (promises.ReadPromise p va buffer)
  pub host_write : (p : State) (va : ℕ) (bytes : List ℕ) → NoTwoLent (promises.WritePromise p va bytes)
  pub view_answer : (p : State) (x : VirtualPage) → NoTwo (promises.ViewAnswerPromise p x)
  pub page_view : (m : Machine) (main swap : Bor (List ℕ)) (x : VirtualPage) → NoTwoParts (promises.PageViewPromise m main swap x)
  pub reply : (m : Machine) (register value : ℕ) → NoTwo (promises.ReplyPromise m register value)

-- ---- those of `image` and `loading`
pub record ImageCalls : Type 0 where
  pub read : (file : List ℕ) → NoTwo (promises.ImagePromise file)
  pub pages : (file : Bor (List ℕ)) → NoTwoParts (promises.PagesPromise file)
  pub rights : (file : Bor (List ℕ)) → NoTwoParts (promises.RightsPromise file)
  pub least_main_pages : (frames : ℕ) → NoTwo (promises.LeastMainPagesPromise frames)
  pub load : (file : List ℕ) (m : Memory) → NoTwoLent (promises.LoadPromise file m)

-- ---- those of the plain engine: a run and a write may change the lent memory, loading the rights too
pub record PlainCalls : Type 0 where
  pub run : (p : PlainState) (limit : ℕ) → NoTwoFilled (plain.RunPromise p limit)
  pub host_read : (p : PlainState) (va : ℕ) (buffer : List ℕ) → NoTwoFilled (plain.ReadPromise p va buffer)
  pub host_write : (p : PlainState) (va : ℕ) (from : List ℕ) → NoTwoFilled (plain.WritePromise p va from)
  pub view_answer : (p : PlainState) (x : VirtualPage) → NoTwo (plain.ViewAnswerPromise p x)
  pub page_view : (m : Plain) (memory : Bor (List ℕ)) (rights : List ℕ) (x : VirtualPage)
      → NoTwoParts (plain.PageViewPromise m memory rights x)
  pub reply : (m : Plain) (register value : ℕ) → NoTwo (plain.ReplyPromise m register value)
  pub load : (file bytes rights : List ℕ) → NoTwoLent (plain.LoadPromise file bytes rights)

-- ---- those of the makers' notation, `assembler` and `lister`
pub record MakersCalls : Type 0 where
  pub assemble : (text out : List ℕ) → NoTwoFilled (notation.AssemblePromise text out)
  pub list : (bytes out : List ℕ) → NoTwoFilled (notation.ListPromise bytes out)

-- ---- the forms proved by hand: `image::at_hand`, and `lent::advance` with the book at exit
pub record ByHand : Type 0 where
  pub keep : (file : Bor (List ℕ)) → NoTwo (hand.KeepPromise file)
  pub answer : (i : Image) → NoTwo (hand.AnswerPromise i)
  pub pages : (i : Image) → NoTwoParts (hand.HandPagesPromise i)
  pub rights : (i : Image) → NoTwoParts (hand.HandRightsPromise i)
  pub advance : (a : ℕ) (b : FrameBook) (y : VirtualPage) → NoTwo (promises.AdvancePromise a b y)

-- ---- the exported calls: the number returned and every lent slice at exit are one record. (The least main pages, for which nothing is
-- lent, have loading's own promise.)
pub record Exported : Type 0 where
  pub load : (file main swap words : List ℕ) → NoTwo (exported.LoadPromise file main swap words)
  pub run : (words main swap : List ℕ) (limit : ℕ) (answer : List ℕ) → NoTwo (exported.RunPromise words main swap limit answer)
  pub read : (words main swap : List ℕ) (va : ℕ) (into : List ℕ) → NoTwo (exported.ReadPromise words main swap va into)
  pub write : (words main swap : List ℕ) (va : ℕ) (bytes : List ℕ) → NoTwo (exported.WritePromise words main swap va bytes)
  pub view : (words main swap : List ℕ) (x : ℕ) (into : List ℕ) → NoTwo (exported.ViewPromise words main swap x into)
  pub reply : (words : List ℕ) (register value : ℕ) → NoTwo (exported.ReplyPromise words register value)
  pub image : (file answer : List ℕ) → NoTwo (ImagePromise file answer)
  pub assemble : (text out answer : List ℕ) → NoTwo (exported.AssemblePromise text out answer)
  pub list : (bytes out answer : List ℕ) → NoTwo (exported.ListPromise bytes out answer)

-- the same of the plain engine's, whose rights are lent for reading but by loading; the reader's call is the one above
pub record PlainExported : Type 0 where
  pub load : (file memory rights words : List ℕ) → NoTwo (plain_exported.LoadPromise file memory rights words)
  pub run : (words memory rights : List ℕ) (limit : ℕ) (answer : List ℕ) → NoTwo (plain_exported.RunPromise words memory rights limit answer)
  pub read : (words memory rights : List ℕ) (va : ℕ) (into : List ℕ) → NoTwo (plain_exported.ReadPromise words memory rights va into)
  pub write : (words memory rights : List ℕ) (va : ℕ) (from : List ℕ) → NoTwo (plain_exported.WritePromise words memory rights va from)
  pub view : (words memory rights : List ℕ) (x : ℕ) (into : List ℕ) → NoTwo (plain_exported.ViewPromise words memory rights x into)
  pub reply : (words : List ℕ) (register value : ℕ) → NoTwo (plain_exported.ReplyPromise words register value)

-- ---- what the programs stand on
pub record ProgramCalls : Type 0 where
  pub console : (input : List ℕ) (lent : Memory) (out : List ℕ) (r r' : ℕ) (after after' : List ℕ) (left left' : Memory)
      → ConsolePromise input lent out r after left → ConsolePromise input lent out r' after' left' → (r ≡ r') × (after ≡ after') × (left ≡ left')
  pub parse : (line : List ℕ) → NoTwo (ParsePromise line)
  pub begin : (file : List ℕ) (pages : ℕ) (main swap out : List ℕ) (r r' : Told) (main₁ main₁' swap₁ swap₁' after after' : List ℕ)
      → BeginPromise file pages main swap out r main₁ swap₁ after → BeginPromise file pages main swap out r' main₁' swap₁' after'
      → (r ≡ r') × (main₁ ≡ main₁') × (swap₁ ≡ swap₁') × (after ≡ after')
  pub plain_parse : (line : List ℕ) → NoTwo (plain-session.ParsePromise line)
  pub plain_begin : (file memory rights out : List ℕ) (r r' : PlainTold) (memory₁ memory₁' rights₁ rights₁' after after' : List ℕ)
      → plain-session.BeginPromise file memory rights out r memory₁ rights₁ after
      → plain-session.BeginPromise file memory rights out r' memory₁' rights₁' after'
      → (r ≡ r') × (memory₁ ≡ memory₁') × (rights₁ ≡ rights₁') × (after ≡ after')
  pub compare_begin : (file main swap bytes rights out : List ℕ) (r r' : BothTold)
      (main₁ main₁' swap₁ swap₁' bytes₁ bytes₁' rights₁ rights₁' after after' : List ℕ)
      → comparison.BeginPromise file main swap bytes rights out r main₁ swap₁ bytes₁ rights₁ after
      → comparison.BeginPromise file main swap bytes rights out r' main₁' swap₁' bytes₁' rights₁' after'
      → (r ≡ r') × (main₁ ≡ main₁') × (swap₁ ≡ swap₁') × (bytes₁ ≡ bytes₁') × (rights₁ ≡ rights₁') × (after ≡ after')
  pub asm : (input out said : List ℕ) → NoTwoLent (workshop.AsmPromise input out said)
  pub list : (input out said : List ℕ) → NoTwoLent (workshop.ListPromise input out said)

pub record Unique : Type 0 where
  pub numbers : NumbersTell
  pub machine : MachineCalls
  pub image : ImageCalls
  pub plain : PlainCalls
  pub makers : MakersCalls
  pub by_hand : ByHand
  pub exported : Exported
  pub plain_exported : PlainExported
  pub programs : ProgramCalls
