-- The beginning: what the reader's answer comes to (`away`, `admits_read`, `image_admitted`), and what loading into both machines leaves, by its answer
-- (`load_refused`, `load_granted`); the machine that is loaded stands (`load_stands`).
use mathlib.Core.Path.{◌≡◌, refl, sym, ap, ap₂, ◌∙◌}
use mathlib.Core.Bool.{Bool, true, false}
use mathlib.Core.List.{List}
use Prim.Native.Nat.{ℕ, ◌*◌, ◌≤◌}
use native.Mathlib.Omega.{arith}
use lib.Dec.{leb}
use lib.ListN.{length}
use borrow.Author.Tests.{leb-true}
use Rattle.std.specs.Prelude.{if◌then◌else◌, Ok, Err}
use Rattle.model.specs.State.{Memory, State}
use Rattle.model.specs.Answers.{refusal_number, VerdictNumbers, verdict_numbers, ImageNumbers, image_numbers, Verdict}
use Rattle.model.specs.Calls.{unless, StateOutcome}
use Rattle.model.specs.Image.{ptl_of, image_verdict, image_by, fresh, load_call}
use Rattle.model.specs.Console.{refused_line}
use Rattle.model.specs.declared.Refusal.{Refusal}
use Rattle.model.specs.declared.Refusal.TheVariants.{Room}
use Rattle.model.specs.declared.Written.{Written}
use Rattle.laws.specs.Good.{Good}
use Rattle.laws.specs.Formed.{Formed}
use Rattle.laws.proofs.Granted.{refused, some_number, unless_granted}
use Rattle.laws.proofs.Formed.{image_facts, load_facts, load_accepted}
use Rattle.laws.proofs.Fresh.{fresh_good}
use Rattle.plainmodel.specs.State.{PlainState}
use Rattle.plainmodel.specs.Load as plain
use Rattle.text.specs.Text.{Appended}
use Rattle.answerlines.specs.Lines.{loaded_text}
use Rattle.session.specs.Series.{admits, Read}
use Rattle.comparison.specs.Both.{Stands}
use Rattle.comparison.specs.Desk.{Desk, desk, told_of, Tells}
use Rattle.comparison.specs.Begun.{admitted, loaded_into, begun}
use Rattle.comparison.specs.declared.Told.{Told}

-- ---- the reader's answer
admits_facts : (file : List ℕ) (pages : ℕ) → admits file pages ≡ Ok tt → (length file ≤ 263256) × Formed file × (pages ≤ 64)
unfolding admits
admits_facts file pages = by (leb (length file) 263256) refl
  where
    by : (b : Bool) → leb (length file) 263256 ≡ b → (if b then image_verdict file (unless (leb pages 64) Room (Ok tt)) else Err Room) ≡ Ok tt
        → (length file ≤ 263256) × Formed file × (pages ≤ 64)
    by true q e =
        let t = image_facts file (unless (leb pages 64) Room (Ok tt)) e in
        (leb-true _ _ q, t.1, leb-true _ _ (unless_granted (leb pages 64) Room (Ok tt) t.2).0)
    by false q e = refused Room (ap (λ (v : Verdict). (verdict_numbers v).refused) e)

module _ (file : List ℕ) (pages : ℕ) where
  by_admits : {v : Verdict} → admits file pages ≡ v → (image_by v file).numbers ≡ admitted file pages
  by_admits e = ap (λ (w : Verdict). (image_by w file).numbers) (sym e)

  pub away : (r : Refusal) → admits file pages ≡ Err r → image_numbers (Err r) ≡ admitted file pages
  away r e = by_admits e

  pub admits_read : {w : Written} → admits file pages ≡ Ok tt → Read file w → image_numbers (Ok w) ≡ admitted file pages
  admits_read e read = rw (read.ptl_is, read.start_is, read.frames_is) (by_admits e)

  -- an image that is admitted: the numbers are the file's, and few pages are lent
  pub image_admitted : (w : Written) → image_numbers (Ok w) ≡ admitted file pages
      → Read file w × (w.ptl ≤ 64) × (pages ≤ 64)
  image_admitted w = by (admits file pages) refl
    where
      by : (v : Verdict) → admits file pages ≡ v → image_numbers (Ok w) ≡ (image_by v file).numbers
          → Read file w × (w.ptl ≤ 64) × (pages ≤ 64)
      by (Ok tt) g e =
          let a = admits_facts file pages g in
          let is : w.ptl ≡ ptl_of file = ap (λ (n : ImageNumbers). n.ptl) e in (
            record { ptl_is = is; start_is = ap (λ (n : ImageNumbers). n.start) e; frames_is = ap (λ (n : ImageNumbers). n.frames) e },
            omega (arith, is, a.1.to_pages, a.1.within, a.0),
            a.2,
          )
      by (Err r) g e = refused r (sym (ap (λ (n : ImageNumbers). n.verdict.refused) e))

-- ---- loading into both
module _ (file : List ℕ) (m : Memory) (bytes rights : List ℕ) (v : Verdict) (p : State) (w : VerdictNumbers) (q : PlainState)
    (paged-is : record { verdict = verdict_numbers v; state = p } ≡ load_call file m)
    (plain-is : record { verdict = w; state = q } ≡ plain.load_call file bytes rights) where
  by_both : loaded_into file (record { verdict = verdict_numbers v; state = p }) (record { verdict = w; state = q }) ≡ begun file m bytes rights
  unfolding begun
  by_both = ap₂ (loaded_into file) paged-is plain-is

  -- what stands then, by the records that code hands back
  abbrev left : Told → Desk
  left told = desk told.standing p.memory.main p.memory.swap q.bytes q.rights

  module _ {before after : List ℕ} {filled : ℕ} where
    pub load_refused : (r : Refusal) → v ≡ Err r → Appended before 0 after filled (refused_line (refusal_number r))
        → {told : Told} → told ≡ told_of p.machine q.plain 0 false filled
        → Tells before 0 after told (left told) (begun file m bytes rights)
    load_refused r e text h = rw (h, ← by_both, e, some_number r) (record { desk_is = refl; text = text; goes = refl })

    pub load_granted : {image : Written} → Read file image → v ≡ Ok tt → Appended before 0 after filled (loaded_text image.ptl image.start image.frames)
        → {told : Told} → told ≡ told_of p.machine q.plain 0 true filled
        → Tells before 0 after told (left told) (begun file m bytes rights)
    load_granted read e text h =
        rw (h, ← by_both, e, ← read.ptl_is, ← read.start_is, ← read.frames_is) (record { desk_is = refl; text = text; goes = refl })

-- ---- the machine that is loaded
fresh_is : (file : List ℕ) (m : Memory) (p : State) → record { verdict = verdict_numbers (Ok tt); state = p } ≡ load_call file m
    → Good p × (p.machine.shape.ptl ≡ ptl_of file)
unfolding fresh
fresh_is file m p e =
    let a = load_facts file m (sym (ap (λ (o : StateOutcome). o.verdict.refused) e)) in
    let is : p ≡ fresh file (length m.main) = ap (λ (o : StateOutcome). o.state) (e ∙ load_accepted file m a) in
    (rw is (fresh_good file m a), ap (λ (s : State). s.machine.shape.ptl) is)

pub load_stands : {file : List ℕ} {w : Written} → Read file w → (m : Memory) (v : Verdict) (p : State)
    → record { verdict = verdict_numbers v; state = p } ≡ load_call file m → v ≡ Ok tt → (bytes : List ℕ) → length bytes ≡ 4096 * w.ptl → Stands p bytes
load_stands {file} read m v p e g bytes long =
    let f = fresh_is file m p (rw g at e) in
    record { good = f.0; long = omega (arith, long, f.1, read.ptl_is) }
