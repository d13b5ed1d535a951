-- What a call leaves: the answer of the plain engine is said, and `differ LINE` behind it where the machines are not alike (`call_told`);
-- and the paged machine stays good (`stands_after`).
use mathlib.Core.Bool.{Bool, true, false, ◌&&◌}
use mathlib.Core.Path.{◌≡◌, refl, ap}
use mathlib.Core.List.{List, [], ◌++◌, append-nil}
use Prim.Native.Nat.{ℕ}
use native.Mathlib.Omega.{arith}
use lib.ListN.{length, take}
use Rattle.std.specs.Prelude.{if◌then◌else◌}
use Rattle.model.specs.Bytes.{same}
use Rattle.model.specs.State.{State, state}
use Rattle.model.specs.Series as series
use Rattle.model.specs.Series.{runs, writes, replies, after}
use Rattle.model.specs.declared.Shape.{Shape}
use Rattle.model.specs.declared.Machine.{Machine}
use Rattle.laws.specs.Good.{Good}
use Rattle.laws.proofs.Calls.{call_good, call_size}
use Rattle.plainmodel.specs.State.{PlainState}
use Rattle.plainmodel.specs.declared.Plain.{Plain}
use Rattle.text.specs.Text.{Appended}
use Rattle.text.proofs.Appending as appending
use Rattle.script.specs.declared.parts.Numbers.{Numbers}
use Rattle.script.specs.declared.Call.{Call}
use Rattle.script.specs.declared.Call.TheVariants.{Run, Read, Write, View, Reply, Registers}
use Rattle.session.specs.Answers as session
use Rattle.comparison.specs.Words.{differ_text}
use Rattle.plainsession.specs.Answers as plain
use Rattle.comparison.specs.Answers.{paged_answered}
use Rattle.comparison.specs.Both.{Both, agree, Stands}
use Rattle.comparison.specs.Desk.{Desk, desk, going, over, told_of, Tells}
use Rattle.comparison.specs.Line.{compared, called}
use Rattle.comparison.specs.declared.Told.{Told}

-- ---- behind the answer, by whether they are alike
abbrev Judged : Machine → Plain → ℕ → Bool → List ℕ → ℕ → List ℕ → Told → Type 0
Judged m p number alike before at after r =
    (r ≡ told_of m p number alike r.filled) × Appended before at after r.filled (if alike then [] else differ_text number)

module _ (m : Machine) (p : Plain) (number : ℕ) {alike : Bool} {before after : List ℕ} {at filled : ℕ} {r : Told} where
  pub judged_alike : alike ≡ true → r ≡ told_of m p number true filled → Appended before at after filled [] → Judged m p number alike before at after r
  judged_alike a e text = rw (e, a) (refl, text)

  pub judged_differ : alike ≡ false → r ≡ told_of m p number false filled → Appended before at after filled (differ_text number)
      → Judged m p number alike before at after r
  judged_differ a e text = rw (e, a) (refl, text)

-- ---- what is said, by whether they are alike
module _ (number : ℕ) (p : State) (q : PlainState) (mine : List ℕ) where
  abbrev left : Told → Desk
  left t = desk t.standing p.memory.main p.memory.swap q.bytes q.rights

  judged_told : {before mid after : List ℕ} {filled behind : ℕ} {r : Told} → Appended before filled mid behind mine
      → (alike : Bool) → r ≡ told_of p.machine q.plain number alike r.filled
      → Appended mid behind after r.filled (if alike then [] else differ_text number)
      → Tells before filled after r (left r)
      (if alike then going number (record { paged = p; plain = q }) mine else over number (record { paged = p; plain = q }) (mine ++ differ_text number))
  judged_told put true e text = record {
    desk_is = ap left e;
    text = appending.same (appending.joined put text) (append-nil mine);
    goes = ap (λ (t : Told). t.standing.goes_on) e;
  }
  judged_told put false e text = record {
    desk_is = ap left e;
    text = appending.joined put text;
    goes = ap (λ (t : Told). t.standing.goes_on) e;
  }

-- ---- a call on both
module _ (c : Call) (n : Numbers) (bytes : List ℕ) (number : ℕ) (b : Both) {p : State} {q : PlainState} {mine other mine' other' : List ℕ} {end to : ℕ}
    (plain-says : plain.Says mine 0 mine' end q (plain.answered c n bytes b.plain))
    (paged-says : session.Says other 0 other' to p (paged_answered c n bytes b.paged)) where
  said_mine : take end mine' ≡ (plain.answered c n bytes b.plain).text
  said_mine = appending.written plain-says.text

  said_other : take to other' ≡ (paged_answered c n bytes b.paged).text
  said_other = appending.written paged-says.text

  as_called : compared number (record { paged = p; plain = q }) (take end mine') (take to other') ≡ called c n bytes number b
  as_called = rw (said_mine, said_other, paged-says.state, plain-says.state)

  pub call_told : {before mid after : List ℕ} {filled behind : ℕ} {r : Told} {answer alike : Bool} → answer ≡ same (take end mine') (take to other')
      → alike ≡ agree (record { paged = p; plain = q }) → Appended before filled mid behind (take end mine')
      → r ≡ told_of p.machine q.plain number (answer && alike) r.filled
      → Appended mid behind after r.filled (if answer && alike then [] else differ_text number)
      → Tells before filled after r (desk r.standing p.memory.main p.memory.swap q.bytes q.rights) (called c n bytes number b)
  call_told {answer = answer} {alike} a k put e text =
      rw (← as_called, ← a, ← k) (judged_told number p q (take end mine') put (answer && alike) e text)

-- ---- the paged machine afterwards
module _ (n : Numbers) (bytes : List ℕ) (p : State) (g : Good p) where
  abbrev Kept : State → Type 0
  Kept next = Good next × (next.machine.shape.ptl ≡ p.machine.shape.ptl)

  kept_by : (c : series.Call) → Kept (after p c)
  kept_by c = (call_good p g c, ap (λ (s : Shape). s.ptl) (call_size p g c).shape)

  good_after : (c : Call) → Kept (paged_answered c n bytes p).state
  unfolding paged_answered session.answered after
  good_after Run = kept_by (runs n.first)
  good_after Read = (g, refl)
  good_after Write = kept_by (writes n.first bytes)
  good_after View = (g, refl)
  good_after Reply = kept_by (replies n.first n.second)
  good_after Registers = (g, refl)

pub stands_after : (c : Call) (n : Numbers) (bytes : List ℕ) (p : State) {memory : List ℕ} → Stands p memory
    → {next : State} → next ≡ (paged_answered c n bytes p).state → {memory' : List ℕ} → length memory' ≡ length memory → Stands next memory'
stands_after c n bytes p s e long =
    let k = good_after n bytes p s.good c in
    rw e (record { good = k.0; long = omega (arith, long, s.long, k.1) })

-- the same of what code hands back, and the lines that are done then
pub stands_told : (c : Call) (n : Numbers) (bytes : List ℕ) (p : State) {memory : List ℕ} → Stands p memory
    → {next : State} → next ≡ (paged_answered c n bytes p).state → {memory' : List ℕ} → length memory' ≡ length memory
    → {q : Plain} {number filled : ℕ} {on : Bool} {r : Told} → r ≡ told_of next.machine q number on filled
    → Stands (state r.standing.machine next.memory.main next.memory.swap) memory' × (r.standing.lines ≡ number)
stands_told c n bytes p s e long {number = number} told = rw told (stands_after c n bytes p s e long, refl)
