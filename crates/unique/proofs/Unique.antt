-- No two outcomes fit a promise: both make the one outcome of the call's definition, and each answer is found again from its numbers.
use mathlib.Core.Path.{◌≡◌, sym, ap, ap₂, ◌∙◌}
use mathlib.Core.List.{List}
use Prim.Native.Nat.{ℕ}
use denote.Ref.{Bor}
use Rattle.model.specs.State.{state}
use Rattle.model.specs.Answers.{verdict_numbers, Verdict}
use Rattle.model.specs.Calls.{RunOutcome, run_outcome, run_call, ReadOutcome, read_call, StateOutcome, write_call, ReplyOutcome, reply_call}
use Rattle.model.specs.Image.{load_call}
use Rattle.model.specs.Parts.{Part, PartOf}
use Rattle.model.specs.declared.RunResult.{RunResult}
use Rattle.model.specs.declared.Handed.{Handed}
use Rattle.laws.proofs.Numbers.{refusal_told, verdict_told, stop_told, run_told, image_told}
use Rattle.plainmodel.specs.State.{PlainState, plain_state}
use Rattle.plainmodel.specs.Calls as plain
use Rattle.plainmodel.specs.Load as plain-load
use Rattle.plainmodel.specs.declared.PlainResult.{PlainResult}
use Rattle.plainmodel.specs.declared.PlainHanded.{PlainHanded}
use Rattle.plainlaws.proofs.Numbers.{plain_told}
use Rattle.notation.specs.Calls.{AssembleOutcome, assemble_outcome, assemble_call, ListOutcome, list_outcome, list_call}
use Rattle.grammar.proofs.Numbers.{assemble_told, list_told}
use Rattle.image.specs.Format.{answer_of}
use Rattle.image.specs.Hand.{KeepPromise}
use Rattle.image.specs.declared.at_hand.Image.{Image}
use Rattle.unique.specs.Unique.{NoTwo, NoTwoFilled, NoTwoLent, NoTwoParts, NumbersTell, MachineCalls, ImageCalls, PlainCalls, MakersCalls, ByHand, Exported, PlainExported, ProgramCalls, Unique}
use Rattle.text.specs.Text.{Appended}
use Rattle.script.specs.Grammar.{line_of}
use Rattle.session.specs.Desk.{Desk}
use Rattle.session.specs.declared.Told.{Told}
use Rattle.plainsession.specs.Grammar as plain-grammar
use Rattle.plainsession.specs.Desk.{Desk as PlainDesk}
use Rattle.plainsession.specs.declared.Told.{Told as PlainTold}
use Rattle.comparison.specs.Desk.{Desk as BothDesk}
use Rattle.comparison.specs.declared.Standing.{Standing as BothStanding}
use Rattle.comparison.specs.declared.Told.{Told as BothTold}
use Rattle.workshop.specs.declared.Made.{Made}

-- ---- two that make one outcome
-- what is equal to one thing
same : {A : Type 0} (o : A) → NoTwo (λ r. r ≡ o)
same o r r' e e' = e ∙ sym e'

handed_same : (r r' : Handed) → verdict_numbers r.verdict ≡ verdict_numbers r'.verdict → r.machine ≡ r'.machine → r ≡ r'
handed_same r r' v m = ap₂ {C = Handed} (λ x y. record { machine = x; verdict = y }) m (verdict_told r.verdict r'.verdict v)

run_same : (o : RunOutcome) → NoTwoLent (λ (r : RunResult) main swap. run_outcome r.answer (state r.machine main swap) ≡ o)
run_same o r r' main main' swap swap' e e' =
    let q = e ∙ sym e' in (
      ap₂ {C = RunResult} (λ x y. record { machine = x; answer = y }) (ap (λ (p : RunOutcome). p.state.machine) q)
          (run_told r.answer r'.answer (ap (λ (p : RunOutcome). p.numbers) q)),
      ap (λ (p : RunOutcome). p.state.memory.main) q,
      ap (λ (p : RunOutcome). p.state.memory.swap) q,
    )

read_same : (o : ReadOutcome) → NoTwoFilled (λ (v : Verdict) buffer. record { verdict = verdict_numbers v; buffer = buffer } ≡ o)
read_same o v v' buffer buffer' e e' =
    let q = e ∙ sym e' in
    (verdict_told v v' (ap (λ (p : ReadOutcome). p.verdict) q), ap (λ (p : ReadOutcome). p.buffer) q)

state_same : (o : StateOutcome)
    → NoTwoLent (λ (r : Handed) main swap. record { verdict = verdict_numbers r.verdict; state = state r.machine main swap } ≡ o)
state_same o r r' main main' swap swap' e e' =
    let q = e ∙ sym e' in (
      handed_same r r' (ap (λ (p : StateOutcome). p.verdict) q) (ap (λ (p : StateOutcome). p.state.machine) q),
      ap (λ (p : StateOutcome). p.state.memory.main) q,
      ap (λ (p : StateOutcome). p.state.memory.swap) q,
    )

reply_same : (o : ReplyOutcome) → NoTwo (λ (r : Handed). record { verdict = verdict_numbers r.verdict; machine = r.machine } ≡ o)
reply_same o r r' e e' =
    let q = e ∙ sym e' in handed_same r r' (ap (λ (p : ReplyOutcome). p.verdict) q) (ap (λ (p : ReplyOutcome). p.machine) q)

plain_handed_same : (r r' : PlainHanded) → verdict_numbers r.verdict ≡ verdict_numbers r'.verdict → r.plain ≡ r'.plain → r ≡ r'
plain_handed_same r r' v m = ap₂ {C = PlainHanded} (λ x y. record { plain = x; verdict = y }) m (verdict_told r.verdict r'.verdict v)

plain_run_same : (p : PlainState) (o : plain.RunOutcome)
    → NoTwoFilled (λ (r : PlainResult) bytes. plain.run_outcome r.answer (plain_state r.plain bytes p.rights) ≡ o)
plain_run_same p o r r' bytes bytes' e e' =
    let q = e ∙ sym e' in (
      ap₂ {C = PlainResult} (λ x y. record { plain = x; answer = y }) (ap (λ (u : plain.RunOutcome). u.state.plain) q)
          (plain_told r.answer r'.answer (ap (λ (u : plain.RunOutcome). u.numbers) q)),
      ap (λ (u : plain.RunOutcome). u.state.bytes) q,
    )

plain_read_same : (o : plain.ReadOutcome) → NoTwoFilled (λ (v : Verdict) buffer. record { verdict = verdict_numbers v; buffer = buffer } ≡ o)
plain_read_same o v v' buffer buffer' e e' =
    let q = e ∙ sym e' in
    (verdict_told v v' (ap (λ (u : plain.ReadOutcome). u.verdict) q), ap (λ (u : plain.ReadOutcome). u.buffer) q)

plain_write_same : (o : plain.WriteOutcome) → NoTwoFilled (λ (v : Verdict) bytes. record { verdict = verdict_numbers v; bytes = bytes } ≡ o)
plain_write_same o v v' bytes bytes' e e' =
    let q = e ∙ sym e' in
    (verdict_told v v' (ap (λ (u : plain.WriteOutcome). u.verdict) q), ap (λ (u : plain.WriteOutcome). u.bytes) q)

plain_reply_same : (o : plain.ReplyOutcome) → NoTwo (λ (r : PlainHanded). record { verdict = verdict_numbers r.verdict; plain = r.plain } ≡ o)
plain_reply_same o r r' e e' =
    let q = e ∙ sym e' in
    plain_handed_same r r' (ap (λ (u : plain.ReplyOutcome). u.verdict) q) (ap (λ (u : plain.ReplyOutcome). u.plain) q)

plain_load_same : (o : plain-load.LoadOutcome)
    → NoTwoLent (λ (r : PlainHanded) bytes rights. record { verdict = verdict_numbers r.verdict; state = plain_state r.plain bytes rights } ≡ o)
plain_load_same o r r' bytes bytes' rights rights' e e' =
    let q = e ∙ sym e' in (
      plain_handed_same r r' (ap (λ (u : plain-load.LoadOutcome). u.verdict) q) (ap (λ (u : plain-load.LoadOutcome). u.state.plain) q),
      ap (λ (u : plain-load.LoadOutcome). u.state.bytes) q,
      ap (λ (u : plain-load.LoadOutcome). u.state.rights) q,
    )

assemble_same : (o : AssembleOutcome) → NoTwoFilled (λ a out. assemble_outcome a out ≡ o)
assemble_same o a a' out out' e e' =
    let q = e ∙ sym e' in
    (assemble_told a a' (ap (λ (p : AssembleOutcome). p.numbers) q), ap (λ (p : AssembleOutcome). p.out) q)

list_same : (o : ListOutcome) → NoTwoFilled (λ a out. list_outcome a out ≡ o)
list_same o a a' out out' e e' =
    let q = e ∙ sym e' in
    (list_told a a' (ap (λ (p : ListOutcome). p.numbers) q), ap (λ (p : ListOutcome). p.out) q)

part_same : (whole : Bor (List ℕ)) (p : Part) → NoTwoParts (PartOf whole p)
part_same whole p r r' e e' = record {
  begins = ap₂ {C = ℕ × ℕ} (λ b i. (b, i)) (e.block ∙ sym e'.block) (e.begins ∙ sym e'.begins);
  bytes = e.bytes ∙ sym e'.bytes;
}

keep_same : (file : Bor (List ℕ)) → NoTwo (KeepPromise file)
keep_same file i i' e e' =
    let q = e.0 ∙ sym e'.0 in
    ap₂ {C = Image} (λ f a. record { file = f; answer = a }) q (e.1 ∙ ap (λ (f : Bor (List ℕ)). answer_of f.now) q ∙ sym e'.1)

-- ---- the promises
numbers_tell : NumbersTell
numbers_tell = record {
  refusal = refusal_told;
  verdict = verdict_told;
  stop = stop_told;
  run = run_told;
  image = image_told;
  plain = plain_told;
  assemble = assemble_told;
  list = list_told;
}

machine_calls : MachineCalls
machine_calls = record {
  run = λ p limit. run_same (run_call p limit);
  host_read = λ p va buffer. read_same (read_call p va buffer);
  host_write = λ p va bytes. state_same (write_call p va bytes);
  view_answer = λ p x v v' e e'. verdict_told v v' (e ∙ sym e');
  page_view = λ m main swap x. part_same _ _;
  reply = λ m register value. reply_same (reply_call m register value);
}

image_calls : ImageCalls
image_calls = record {
  read = λ file a a' e e'. image_told a a' (e ∙ sym e');
  pages = λ file. part_same file _;
  rights = λ file. part_same file _;
  least_main_pages = λ frames. same _;
  load = λ file m. state_same (load_call file m);
}

plain_calls : PlainCalls
plain_calls = record {
  run = λ p limit. plain_run_same p (plain.run_call p limit);
  host_read = λ p va buffer. plain_read_same (plain.read_call p va buffer);
  host_write = λ p va from. plain_write_same (plain.write_call p va from);
  view_answer = λ p x v v' e e'. verdict_told v v' (e ∙ sym e');
  page_view = λ m memory rights x. part_same memory _;
  reply = λ m register value. plain_reply_same (plain.reply_call m register value);
  load = λ file bytes rights. plain_load_same (plain-load.load_call file bytes rights);
}

makers_calls : MakersCalls
makers_calls = record {
  assemble = λ text out. assemble_same (assemble_call text out);
  list = λ bytes out. list_same (list_call bytes out);
}

by_hand : ByHand
by_hand = record {
  keep = keep_same;
  answer = λ i. same _;
  pages = λ i r r' e e'. part_same _ _ r r' e.found e'.found;
  rights = λ i r r' e e'. part_same _ _ r r' e.found e'.found;
  advance = λ a b y. same _;
}

exported : Exported
exported = record {
  load = λ file main swap words. same _;
  run = λ words main swap limit answer. same _;
  read = λ words main swap va into. same _;
  write = λ words main swap va bytes. same _;
  view = λ words main swap x into. same _;
  reply = λ words register value. same _;
  image = λ file answer. same _;
  assemble = λ text out answer. same _;
  list = λ bytes out answer. same _;
}

plain_exported : PlainExported
plain_exported = record {
  load = λ file memory rights words. same _;
  run = λ words memory rights limit answer. same _;
  read = λ words memory rights va into. same _;
  write = λ words memory rights va from. same _;
  view = λ words memory rights x into. same _;
  reply = λ words register value. same _;
}

-- ---- the programs
module _ {d e e' : List ℕ} {i j j' : ℕ} {x : List ℕ} (p : Appended d i e j x) (q : Appended d i e' j' x) where
  same_place : j ≡ j'
  same_place = p.place ∙ sym q.place

  same_buffer : e ≡ e'
  same_buffer = p.buffer ∙ sym q.buffer

told_same : (r r' : Told) → r.standing ≡ r'.standing → r.filled ≡ r'.filled → r.goes_on ≡ r'.goes_on → r ≡ r'
told_same r r' s f g =
    ap₂ {C = Told} (λ x y. record { standing = x; filled = y; goes_on = r.goes_on }) s f
    ∙ ap {B = Told} (λ z. record { standing = r'.standing; filled = r'.filled; goes_on = z }) g

plain_told_same : (r r' : PlainTold) → r.standing ≡ r'.standing → r.filled ≡ r'.filled → r.goes_on ≡ r'.goes_on → r ≡ r'
plain_told_same r r' s f g =
    ap₂ {C = PlainTold} (λ x y. record { standing = x; filled = y; goes_on = r.goes_on }) s f
    ∙ ap {B = PlainTold} (λ z. record { standing = r'.standing; filled = r'.filled; goes_on = z }) g

-- the desk tells all that stands
abbrev standing_of : BothDesk → BothStanding
standing_of d = record { machine = d.machines.paged.machine; plain = d.machines.plain.plain; lines = d.lines; goes_on = d.goes_on }

both_told_same : (r r' : BothTold) → r.standing ≡ r'.standing → r.filled ≡ r'.filled → r ≡ r'
both_told_same r r' s f = ap₂ {C = BothTold} (λ x y. record { standing = x; filled = y }) s f

-- n bytes of the output o are written, and the line x is said
made_same : (n : ℕ) (o said x : List ℕ)
    → NoTwoLent (λ (r : Made) after heard. (r.written ≡ n) × (after ≡ o) × Appended said 0 heard r.said x)
made_same n o said x r r' after after' heard heard' p q = (
  ap₂ {C = Made} (λ y z. record { written = y; said = z }) (p.0 ∙ sym q.0) (same_place p.2 q.2),
  p.1 ∙ sym q.1,
  same_buffer p.2 q.2,
)

program_calls : ProgramCalls
program_calls = record {
  console = λ input lent out r r' after after' left left' p q. (
    same_place p.0 q.0,
    same_buffer p.0 q.0,
    p.1 ∙ sym q.1,
  );
  parse = λ line. same (line_of line);
  begin = λ file pages main swap out r r' main₁ main₁' swap₁ swap₁' after after' p q.
      let d = p.desk_is ∙ sym q.desk_is in (
        told_same r r' (ap (λ (x : Desk). x.standing) d) (same_place p.text q.text) (p.goes ∙ sym q.goes),
        ap (λ (x : Desk). x.main) d,
        ap (λ (x : Desk). x.swap) d,
        same_buffer p.text q.text,
      );
  plain_parse = λ line. same (plain-grammar.line_of line);
  plain_begin = λ file memory rights out r r' memory₁ memory₁' rights₁ rights₁' after after' p q.
      let d = p.desk_is ∙ sym q.desk_is in (
        plain_told_same r r' (ap (λ (x : PlainDesk). x.standing) d) (same_place p.text q.text) (p.goes ∙ sym q.goes),
        ap (λ (x : PlainDesk). x.memory) d,
        ap (λ (x : PlainDesk). x.rights) d,
        same_buffer p.text q.text,
      );
  compare_begin = λ file main swap bytes rights out r r' main₁ main₁' swap₁ swap₁' bytes₁ bytes₁' rights₁ rights₁' after after' p q.
      let d = p.desk_is ∙ sym q.desk_is in (
        both_told_same r r' (ap standing_of d) (same_place p.text q.text),
        ap (λ (x : BothDesk). x.machines.paged.memory.main) d,
        ap (λ (x : BothDesk). x.machines.paged.memory.swap) d,
        ap (λ (x : BothDesk). x.machines.plain.bytes) d,
        ap (λ (x : BothDesk). x.machines.plain.rights) d,
        same_buffer p.text q.text,
      );
  asm = λ input out said r r' after after' heard heard' p q.
      made_same _ _ said _ r r' after after' heard heard' (p.written, p.output, p.line) (q.written, q.output, q.line);
  list = λ input out said r r' after after' heard heard' p q.
      made_same _ _ said _ r r' after after' heard heard' (p.written, p.output, p.line) (q.written, q.output, q.line);
}

pub unique : Unique
unique = record {
  numbers = numbers_tell;
  machine = machine_calls;
  image = image_calls;
  plain = plain_calls;
  makers = makers_calls;
  by_hand = by_hand;
  exported = exported;
  plain_exported = plain_exported;
  programs = program_calls;
}
