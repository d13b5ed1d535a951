-- What a call whose verdict v is `Granted` may lean on.
use mathlib.Core.Path.{◌≡◌, sym, ◌∙◌}
use mathlib.Core.Bool.{Bool}
use Prim.Native.Nat.{ℕ, ◌≤◌, ◌<◌}
use lib.Dec.{leb}
use lib.ListN.{length}
use borrow.Author.Tests.{leb-true}
use Rattle.std.specs.Prelude.{Ok}
use Rattle.model.specs.Answers.{Verdict}
use Rattle.model.specs.State.{State}
use Rattle.model.specs.Calls.{machine_verdict, run_verdict, host_verdict, view_verdict}
use Rattle.model.specs.declared.VirtualPage.{VirtualPage}
use Rattle.model.specs.declared.Refusal.TheVariants.{TooMuch}
use Rattle.laws.specs.Good.{Good, InTable}
use Rattle.laws.proofs.Sound.{good_of}
use Rattle.laws.proofs.Seated.{safe}
use Rattle.laws.proofs.Granted.{unless_granted, machine_granted, run_limit, host_inside, view_inside}
use Rattle.host.specs.Home.{Reachable}

module _ (p : State) (array : length p.machine.book.held ≡ 32) where
  good : (after : Verdict) → machine_verdict p after ≡ Ok tt → Good p
  good after e = let k = machine_granted p after e in good_of p array k.0 k.1

  reachable : (after : Verdict) → machine_verdict p after ≡ Ok tt → Reachable p.machine.shape p.memory.main (length p.memory.swap)
  reachable after e = let g = good after e in record { safe = safe p g; whole = g.whole }

  pub run_leans : (n : ℕ) (v : Verdict) → v ≡ run_verdict p n → v ≡ Ok tt → Good p × (n ≤ 1000000)
  unfolding run_verdict
  run_leans n v e h = (good _ (sym e ∙ h), run_limit p n (sym e ∙ h))

  pub host_leans : (writing : Bool) (va n : ℕ) (v : Verdict) → v ≡ host_verdict writing p va n → v ≡ Ok tt
      → Reachable p.machine.shape p.memory.main (length p.memory.swap) × InTable p.machine.shape va n
  unfolding host_verdict
  host_leans writing va n v e h = (reachable _ (sym e ∙ h), host_inside writing p va n (sym e ∙ h))

  pub host_most : (writing : Bool) (va n : ℕ) (v : Verdict) → v ≡ host_verdict writing p va n → v ≡ Ok tt → n ≤ 256
  unfolding host_verdict
  host_most writing va n v e h = leb-true n 256 (unless_granted (leb n 256) TooMuch _ (machine_granted p _ (sym e ∙ h)).2).0

  pub view_leans : (x : VirtualPage) (v : Verdict) → v ≡ view_verdict p x → v ≡ Ok tt
      → Reachable p.machine.shape p.memory.main (length p.memory.swap) × (x.0 < p.machine.shape.ptl)
  unfolding view_verdict
  view_leans x v e h = (reachable _ (sym e ∙ h), view_inside p x (sym e ∙ h))
