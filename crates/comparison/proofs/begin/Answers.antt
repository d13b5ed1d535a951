-- `begin`: the two answers of paged loading.
use mathlib.Core.Path.{sym, ap, ◌∙◌}
use mathlib.Core.Bool.{true≢false}
use native.Mathlib.Omega.{arith}
use Rattle.model.specs.State.{memory}
use Rattle.comparison.proofs.Begun.{load_refused, load_granted, load_stands}
use Rattle.comparison.specs.declared.Told.{Told}
use Rattle.comparison.proofs.begin.Goals as goal

pub turned_away-filled-requires : goal.turned_away-filled-requires
turned_away-filled-requires c =
    omega (arith, c.requires.2)

pub numbers_line-filled-requires : goal.numbers_line-filled-requires
numbers_line-filled-requires c =
    omega (arith, c.requires.2)

pub returns-in-Err : goal.returns-in-Err
returns-in-Err c =
    let a = c.args in record {
      begin_promise = load_refused a.file.now (memory a.main.now a.swap.now) a.memory.now a.rights.now _ _ _ _ c.load-handed.ensures c.load-loaded.ensures _ c.in-Err.is
          c.turned_away-filled.ensures c.told.ensures;
      stands = (λ e. absurd (true≢false (sym e ∙ ap (λ (t : Told). t.standing.goes_on) c.told.ensures)), ap (λ (t : Told). t.standing.lines) c.told.ensures);
    }

pub returns-in-Ok : goal.returns-in-Ok
returns-in-Ok c =
    let a = c.args in
    let machine = ap (λ (t : Told). t.standing.machine) c.told-in-Ok.ensures in record {
      begin_promise = load_granted a.file.now (memory a.main.now a.swap.now) a.memory.now a.rights.now _ _ _ _ c.load-handed.ensures c.load-loaded.ensures c.requires.0 c.in-Ok.is
          c.numbers_line-filled.ensures c.told-in-Ok.ensures;
      stands = (
        λ e. rw machine (load_stands c.requires.0 (memory a.main.now a.swap.now) _ _ c.load-handed.ensures c.in-Ok.is _ (c.load-loaded.auto.memory ∙ c.requires.1)),
        ap (λ (t : Told). t.standing.lines) c.told-in-Ok.ensures,
      );
    }
