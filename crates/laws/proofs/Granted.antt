-- Verdicts. What is granted, or has the number 0, has passed each test that it asks for; a refusal comes whatever stands behind it. A good
-- machine is refused neither by 1 nor by 2 (`machine_onward`), and its run within the limit reports the definition's (`run_reported`).
use mathlib.Core.Path.{◌≡◌, refl, sym, ap, ◌∙◌}
use mathlib.Core.Bool.{Bool, true, false, ◌&&◌}
use Prim.Native.Nat.{ℕ, ◌<◌, ◌≤◌}
use native.Mathlib.Omega.{arith}
use lib.Dec.{eqb, leb}
use borrow.Author.Tests.{ltb-true, leb-true, le-leb, ne_eqb}
use Rattle.std.specs.Prelude.{Ok, Err}
use Rattle.model.specs.State.{State}
use Rattle.model.specs.Sound.{fits, sound}
use Rattle.model.specs.Answers.{refusal_number, verdict_numbers, Verdict}
use Rattle.model.specs.Run.{uncounted, run, instruction}
use Rattle.model.specs.Calls.{unless, machine_verdict, run_verdict, reported, run_by, run_call, permitted, host_verdict, viewable, view_verdict, reply_verdict}
use Rattle.model.specs.declared.VirtualPage.{VirtualPage}
use Rattle.model.specs.declared.Refusal.{Refusal}
use Rattle.model.specs.declared.Refusal.TheVariants.{Bound, Unsound, Rights, TooMuch, Edition, Format, Room, Mnemonic, Operand, Overflow}
use Rattle.laws.specs.Good.{Good, InTable}
use Rattle.laws.proofs.Choice.{clash, and_left, and_right}
use Rattle.laws.proofs.Sound.{sound_of}
use Rattle.laws.proofs.Host.{permitted_inside}

-- no refusal has the number 0
pub refused : {A : Type 0} (r : Refusal) → refusal_number r ≡ 0 → A
refused Bound e = absurd (omega (arith, e))
refused Unsound e = absurd (omega (arith, e))
refused Rights e = absurd (omega (arith, e))
refused TooMuch e = absurd (omega (arith, e))
refused Edition e = absurd (omega (arith, e))
refused Format e = absurd (omega (arith, e))
refused Room e = absurd (omega (arith, e))
refused Mnemonic e = absurd (omega (arith, e))
refused Operand e = absurd (omega (arith, e))
refused Overflow e = absurd (omega (arith, e))

pub some_number : (r : Refusal) → eqb (refusal_number r) 0 ≡ false
some_number r = ne_eqb (refusal_number r) 0 (refused r)

pub granted : (v : Verdict) → (verdict_numbers v).refused ≡ 0 → v ≡ Ok tt
granted (Ok tt) e = refl
granted (Err r) e = refused r e

-- ---- each test has passed
pub unless_granted : (b : Bool) (r : Refusal) (v : Verdict) → unless b r v ≡ Ok tt → (b ≡ true) × (v ≡ Ok tt)
unless_granted true r v e = (refl, e)
unless_granted false r v e = clash (cc)

-- a refusal by one of two tests comes whatever stands behind them
pub refused_first : (a b : Bool) (x y r : Refusal) (after : Verdict)
    → unless a x (unless b y (Ok tt)) ≡ Err r → unless a x (unless b y after) ≡ Err r
refused_first true true x y r after e = clash (cc)
refused_first true false x y r after e = e
refused_first false b x y r after e = e

pub machine_granted : (p : State) (v : Verdict) → machine_verdict p v ≡ Ok tt
    → (fits p.machine.shape p.memory ≡ true) × (sound p.machine p.memory ≡ true) × (v ≡ Ok tt)
unfolding machine_verdict
machine_granted p v e =
    let f = unless_granted (fits p.machine.shape p.memory) Bound _ e in
    let s = unless_granted (sound p.machine p.memory) Unsound v f.1 in
    (f.0, s.0, s.1)

pub host_inside : (writing : Bool) (p : State) (va n : ℕ) → host_verdict writing p va n ≡ Ok tt → InTable p.machine.shape va n
unfolding host_verdict
host_inside writing p va n e =
    let m : Bool = permitted writing p.machine.shape p.memory.main va n in
    permitted_inside writing p.machine.shape p.memory.main va n
    (unless_granted m Rights (Ok tt) (unless_granted (leb n 256) TooMuch (unless m Rights (Ok tt)) (machine_granted p _ e).2).1).0

pub view_inside : (p : State) (x : VirtualPage) → view_verdict p x ≡ Ok tt → x.0 < p.machine.shape.ptl
unfolding view_verdict viewable
view_inside p x e =
    ltb-true _ _ (and_left _ _ (unless_granted (viewable p.machine.shape p.memory.main x) Rights (Ok tt) (machine_granted p _ e).2).0)

pub reply_register : (i : ℕ) → reply_verdict i ≡ Ok tt → 1 ≤ i
unfolding reply_verdict
reply_register i e = leb-true 1 i (and_left _ _ (unless_granted (leb 1 i && leb i 31) TooMuch (Ok tt) e).0)

-- a reply whose verdict v is `Granted`
pub reply_leans : (i : ℕ) (v : Verdict) → v ≡ reply_verdict i → v ≡ Ok tt → i ≤ 31
unfolding reply_verdict
reply_leans i v e h = leb-true i 31 (and_right (leb 1 i) _ (unless_granted (leb 1 i && leb i 31) TooMuch (Ok tt) (sym e ∙ h)).0)

pub run_limit : (p : State) (n : ℕ) → run_verdict p n ≡ Ok tt → n ≤ 1000000
unfolding run_verdict
run_limit p n e = leb-true n 1000000 (unless_granted (leb n 1000000) TooMuch (Ok tt) (machine_granted p _ e).2).0

-- ---- a good machine
pub machine_onward : (p : State) → Good p → (after : Verdict) → machine_verdict p after ≡ after
unfolding machine_verdict
machine_onward p g after = let t = sound_of p g in rw (t.0, t.1)

run_granted : (p : State) → Good p → (n : ℕ) → n ≤ 1000000 → run_verdict p n ≡ Ok tt
unfolding run_verdict
run_granted p g n h = machine_onward p g _ ∙ rw (le-leb n 1000000 h)

pub run_reported : (p : State) → Good p → (n : ℕ) → n ≤ 1000000 → run_call p n ≡ reported (run instruction n (uncounted p))
unfolding run_call
run_reported p g n h = ap (λ v. run_by v p n) (run_granted p g n h)
