-- What a call that is granted may lean on.
use mathlib.Core.Path.{◌≡◌, sym, ◌∙◌}
use mathlib.Core.Bool.{Bool}
use Prim.Native.Nat.{ℕ, ◌+◌, ◌-◌, ◌*◌, ◌≤◌}
use native.Mathlib.Omega.{arith}
use lib.ListN.{length}
use Rattle.std.specs.Prelude.{Ok}
use Rattle.model.specs.Answers.{Verdict}
use Rattle.model.specs.declared.VirtualPage.{VirtualPage}
use Rattle.plainmodel.specs.State.{PlainState}
use Rattle.plainmodel.specs.Calls.{run_verdict, host_verdict, view_verdict}
use Rattle.plainlaws.proofs.Granted.{run_good, host_granted, view_granted}
use Rattle.plaincpu.specs.Sized.{Sized}
use Rattle.plainmachine.specs.Within.{Within}

pub run_leans : (p : PlainState) (n : ℕ) → run_verdict p n ≡ Ok tt → Sized p.rights p.bytes
run_leans p n e =
    let fit = (run_good p n e).fit in
    record { long = omega (arith, fit.bytes_long, fit.rights_long); most = omega (arith, fit.ptl_most, fit.rights_long) }

module _ (p : PlainState) (v : Verdict) (h : v ≡ Ok tt) where
  -- the last byte's page has rights, and there are no more bytes
  pub host_leans : (writing : Bool) (va n : ℕ) → v ≡ host_verdict writing p va n → Within (length p.bytes) va n
  host_leans writing va n e some =
      let k = host_granted p writing va n (sym e ∙ h) in
      let last = k.1 (n - 1) (omega (arith, some)) in
      let fit = k.0.fit in
      omega (arith, some, last, fit.bytes_long, fit.rights_long)

  pub view_leans : (x : VirtualPage) → v ≡ view_verdict p x → 4096 * x.0 + 4096 ≤ length p.bytes
  view_leans x e =
      let k = view_granted p x (sym e ∙ h) in
      let fit = k.0.fit in
      omega (arith, k.1, fit.bytes_long, fit.rights_long)
