-- The plain machine that a paged one stands for (`plain_of`): its flat machine, with ptl beside it. Where the paged machine is good so is
-- the plain one (`stands_good`), and each call has the same verdict on both (`run_verdict_lem`, `host_verdict_lem`, `view_verdict_lem`).
use mathlib.Core.Path.{◌≡◌, refl, sym, ap, fun_ext, ◌∙◌}
use mathlib.Core.Bool.{Bool, true, false, ◌&&◌}
use mathlib.Core.List.{List}
use Prim.Native.Nat.{ℕ, ◌+◌, ◌*◌, ◌<◌, ◌≤◌}
use native.Mathlib.Omega.{arith}
use lib.Dec.{leb, ltb}
use lib.ListN.{length, get_or}
use borrow.Author.Tests.{ltb-true}
use Rattle.std.specs.Prelude.{Ok}
use Rattle.model.specs.Choice.{every_below}
use Rattle.model.specs.Pages.{virtual, page_of}
use Rattle.model.specs.Table.{entry}
use Rattle.model.specs.State.{State}
use Rattle.model.specs.Translate.{has, translate, legal, flat_byte}
use Rattle.model.specs.Flat.{Flat, grants, allow, rights_byte, flat_rights, flat}
use Rattle.model.specs.Calls as paged
use Rattle.model.specs.declared.Shape.{Shape}
use Rattle.model.specs.declared.VirtualPage.{VirtualPage}
use Rattle.model.specs.declared.Refusal.TheVariants.{Rights, TooMuch}
use Rattle.laws.specs.Good.{Good}
use Rattle.laws.proofs.Choice.{length-below, get_or-below}
use Rattle.laws.proofs.Entries.{grants_rights}
use Rattle.laws.proofs.Host.{legal_granted}
use Rattle.laws.proofs.Granted.{machine_onward}
use Rattle.plainmodel.specs.State.{PlainState, plain_state}
use Rattle.plainmodel.specs.Calls as plain
use Rattle.plainlaws.specs.Good.{PlainGood}
use Rattle.plainlaws.proofs.Granted.{plain_onward, legal_allow}

-- a flat machine with ptl beside it
abbrev pub beside : ℕ → Flat → PlainState
beside ptl f = plain_state (record { ptl = ptl; gpr = f.gpr; pcs = f.pcs }) f.bytes f.rights

abbrev pub plain_of : State → PlainState
plain_of p = beside p.machine.shape.ptl (flat p)

-- ---- rights
module _ (s : Shape) (main : List ℕ) where
  rights_at : (x : ℕ) → x < s.ptl → get_or (flat_rights s main) x 0 ≡ rights_byte (entry s main (virtual x))
  rights_at x h = get_or-below s.ptl (λ y. rights_byte (entry s main (virtual y))) x 0 h

  rights_few : (x : ℕ) → x < s.ptl → get_or (flat_rights s main) x 0 ≤ 3
  rights_few x h = omega (arith, rights_at x h)

  -- page x is in the table and has the right: so says its rights byte
  same_right : (w : Bool) (x : VirtualPage)
      → (ltb x.0 s.ptl && has w (entry s main x))
      ≡ (ltb x.0 (length (flat_rights s main)) && grants w (get_or (flat_rights s main) x.0 0))
  same_right w x = rw (length-below s.ptl (λ y. rights_byte (entry s main (virtual y)))) (pick (ltb x.0 s.ptl) refl)
    where
      pick : (b : Bool) → ltb x.0 s.ptl ≡ b → (b && has w (entry s main x)) ≡ (b && grants w (get_or (flat_rights s main) x.0 0))
      pick true e = sym (ap (grants w) (rights_at x.0 (ltb-true _ _ e)) ∙ grants_rights w (entry s main x))
      pick false e = refl

  same_legal : (w : Bool) (va : ℕ) → legal (translate s main w va) ≡ legal (allow (flat_rights s main) w va)
  same_legal w va = legal_granted s main w va ∙ same_right w (page_of va) ∙ sym (legal_allow (flat_rights s main) w va)

  same_permitted : (w : Bool) (va n : ℕ) → paged.permitted w s main va n ≡ plain.permitted w (flat_rights s main) va n
  unfolding paged.permitted plain.permitted
  same_permitted w va n = ap (every_below n) (fun_ext (λ i. same_legal w (va + i)))

-- ---- a good machine
module _ (p : State) (g : Good p) where
  pub stands_good : PlainGood (plain_of p)
  unfolding flat
  stands_good = record {
    fit = record {
      ptl_least = g.fit.ptl_least;
      ptl_most = g.fit.ptl_most;
      bytes_long = length-below (4096 * p.machine.shape.ptl) (λ va. flat_byte p.machine.shape p.memory va);
      rights_long = rights_long;
    };
    sound = record { zero = g.zero; rights_most = λ x h. rights_few p.machine.shape p.memory.main x (omega (arith, h, rights_long)) };
  }
    where
      rights_long : length (flat_rights p.machine.shape p.memory.main) ≡ p.machine.shape.ptl
      rights_long = length-below p.machine.shape.ptl (λ x. rights_byte (entry p.machine.shape p.memory.main (virtual x)))

  -- ---- the same verdicts
  pub run_verdict_lem : (n : ℕ) → paged.run_verdict p n ≡ plain.run_verdict (plain_of p) n
  unfolding paged.run_verdict plain.run_verdict
  run_verdict_lem n = machine_onward p g _ ∙ sym (plain_onward (plain_of p) stands_good _)

  pub host_verdict_lem : (w : Bool) (va n : ℕ) → paged.host_verdict w p va n ≡ plain.host_verdict w (plain_of p) va n
  unfolding paged.host_verdict plain.host_verdict flat
  host_verdict_lem w va n =
      machine_onward p g _
      ∙ ap (λ b. paged.unless (leb n 256) TooMuch (paged.unless b Rights (Ok tt))) (same_permitted p.machine.shape p.memory.main w va n)
      ∙ sym (plain_onward (plain_of p) stands_good _)

  pub view_verdict_lem : (x : VirtualPage) → paged.view_verdict p x ≡ plain.view_verdict (plain_of p) x
  unfolding paged.view_verdict plain.view_verdict paged.viewable plain.viewable flat
  view_verdict_lem x =
      machine_onward p g _ ∙ ap (λ b. paged.unless b Rights (Ok tt)) (same_right p.machine.shape p.memory.main false x)
      ∙ sym (plain_onward (plain_of p) stands_good _)
