-- "A run also reports pages copied back, tied to the handler's steps": the count is that of the victims that were marked
-- (`run_copied`), at most one a load (`run_copied_few`).
use mathlib.Core.Path.{◌≡◌, refl, ap, subst}
use mathlib.Core.Bool.{Bool, true, false}
use mathlib.Core.List.{List, [], ◌++◌}
use Prim.Native.Nat.{ℕ, zero, suc, ◌+◌, ◌≤◌}
use native.Mathlib.Omega.{arith}
use lib.ListN.{length, length-append}
use Rattle.model.specs.Words.{bit}
use Rattle.model.specs.Pages.{page_of}
use Rattle.model.specs.Frames.{copies}
use Rattle.model.specs.Attempt.{tried}
use Rattle.model.specs.Run.{Step, answered, Counted, try, put, note, served, attempts, instruction, run}
use Rattle.model.specs.declared.FrameBook.{FrameBook}
use Rattle.model.specs.declared.VirtualPage.{VirtualPage}
use Rattle.model.specs.declared.Outcome.{Outcome}
use Rattle.model.specs.declared.Outcome.TheVariants.{Done, Wrote, Trapped, Missing, Stopped}
use Rattle.laws.specs.Mapped.{leaves}
use Rattle.laws.specs.Named.{load_copies, names_after, along_attempts, along_instruction, along_run, copied, instruction_copies, run_copies}
use Rattle.laws.proofs.Simulate.{run_all}

-- from c to d these pages are copied back
record Told (c : Counted) (xs : List VirtualPage) (d : Counted) : Type 0 where
  count : d.copied ≡ c.copied + length xs
  few : c.loads + length xs ≤ d.loads

none : {c d : Counted} → d.copied ≡ c.copied → d.loads ≡ c.loads → Told c [] d
none e f = record { count = omega (arith, e); few = omega (arith, f) }

then : (c d e : Counted) (xs ys : List VirtualPage) → Told c xs d → Told d ys e → Told c (xs ++ ys) e
then c d e xs ys h k = record {
  count = omega (arith, h.count, k.count, length-append xs ys);
  few = omega (arith, h.few, k.few, length-append xs ys);
}

-- ---- one load, an instruction, a run
length-copies : (a : ℕ) (b : FrameBook) → (length (load_copies a b) ≡ bit (copies a b)) × (bit (copies a b) ≤ 1)
length-copies a b = pick (copies a b) refl
  where
    pick : (c : Bool) → copies a b ≡ c → (length (load_copies a b) ≡ bit (copies a b)) × (bit (copies a b) ≤ 1)
    pick true e = rw e (refl, omega arith)
    pick false e = rw e (refl, omega arith)

served_told : (c : Counted) (y : VirtualPage) → Told c (copied c.state y) (served c y)
served_told c y =
    let h : _ = length-copies c.state.machine.shape.frames c.state.machine.book in
    record { count = omega (arith, h.0); few = omega (arith, h.0, h.1) }

answered_told : (c : Counted) (again : ℕ → Step Counted) (o : Outcome) (gpr bytes : List ℕ) (xs : ℕ → List VirtualPage)
    → ((va : ℕ) → Told c (xs va) (leaves (again va))) → Told c (names_after o xs) (leaves (answered c (put c) note again (tried o gpr bytes)))
answered_told c again (Done pcs) gpr bytes xs h = none refl refl
answered_told c again (Wrote pcs i) gpr bytes xs h = none refl refl
answered_told c again (Trapped pcs n) gpr bytes xs h = none refl refl
answered_told c again (Missing va) gpr bytes xs h = h va
answered_told c again (Stopped s) gpr bytes xs h = none refl refl

-- where no page is told after a fault, none is told at all
names_none : (o : Outcome) → names_after o (λ va. []) ≡ []
names_none (Done pcs) = refl
names_none (Wrote pcs i) = refl
names_none (Trapped pcs n) = refl
names_none (Missing va) = refl
names_none (Stopped s) = refl

attempts_told : (k : ℕ) (c : Counted) → Told c (along_attempts copied k c.state) (leaves (attempts k c))
unfolding attempts along_attempts
attempts_told zero c =
    subst (λ xs. Told c xs (leaves (attempts zero c))) (names_none (try c.state).outcome)
    (answered_told c _ (try c.state).outcome (try c.state).gpr (try c.state).bytes (λ va. []) (λ va. none refl refl))
attempts_told (suc k) c =
    answered_told c _ (try c.state).outcome (try c.state).gpr (try c.state).bytes _
    (λ va. then c (served c (page_of va)) _ _ _ (served_told c (page_of va)) (attempts_told k (served c (page_of va))))

instruction_told : (c : Counted) (d : Counted) → leaves (instruction c) ≡ d → Told c (instruction_copies c.state) d
unfolding instruction along_instruction
instruction_told c d e = rw e at (attempts_told 2 c)

run_told : (n : ℕ) (c : Counted) → Told c (run_copies n c) (run instruction n c).left
unfolding along_run
run_told n c =
    run_all instruction (λ c. Unit {0}) (λ c u. tt) (λ n c r. Told c (run_copies n c) r.left) (λ c u. none refl refl)
    (λ n c u s k d e v. rw e (then c d d _ [] (instruction_told c d (ap leaves e)) (none refl refl)))
    (λ n c u next e v h. rw e (then c next _ _ _ (instruction_told c next (ap leaves e)) h)) n c tt

-- ---- the count is the list, at most one a load
pub run_copied : (n : ℕ) (c : Counted) → (run instruction n c).left.copied ≡ c.copied + length (run_copies n c)
run_copied n c = (run_told n c).count

pub run_copied_few : (n : ℕ) (c : Counted) → (run instruction n c).left.copied + c.loads ≤ c.copied + (run instruction n c).left.loads
run_copied_few n c = omega (arith, (run_told n c).count, (run_told n c).few)
