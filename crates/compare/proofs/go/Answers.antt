-- `go`: stretch after stretch, to the script's end.
use mathlib.Core.Path.{◌≡◌, refl, sym, ap, subst, ◌∙◌}
use mathlib.Core.List.{List, []}
use Prim.Native.Nat.{ℕ, ◌≤◌}
use native.Mathlib.Omega.{arith}
use lib.ListN.{length, drop_of_length-le}
use Rattle.text.proofs.Appending.{length_appended}
use Rattle.files.proofs.Known as known
use Rattle.talk.specs.Script.{Talk, talk, lines_of}
use Rattle.talk.specs.Stretch.{Point, point, on_from}
use Rattle.talk.proofs.Going.{Going, starts, again, at_end}
use Rattle.comparison.specs.Desk.{Desk, desk}
use Rattle.comparison.specs.Line.{spoken}
use Rattle.comparison.specs.Script.{reached}
use Rattle.comparison.proofs.Reached.{as_they_were, kept}
use Rattle.compare.proofs.go.Goals as goal

pub loop-at-init : goal.loop-at-init
loop-at-init g c =
    let a = c.args in
    let d = desk a.first a.main.now a.swap.now a.memory.now a.rights.now in
    record {
      going = subst (λ (n : ℕ). Going spoken a.script.now d (point n d 0)) (sym c.requires.1) (starts spoken a.script.now d);
      saying = subst (λ (n : ℕ). known.Saying (talk spoken 0 d (lines_of a.script.now)).text (g.W.Write.contents a.to.now)
          (g.W.Write.contents a.to.now) (on_from spoken a.script.now (point n d 0)).text) (sym c.requires.1) (known.starts _ _);
      stands = c.requires.0;
      lengths = as_they_were a.main.now a.swap.now a.memory.now;
      out_as = refl;
    }

pub speak-next-requires : goal.speak-next-requires
speak-next-requires g c =
    let v = c.loop-at.invariant in
    (v.stands, omega (arith, c.requires.2, v.out_as), c.requires.3, v.going.numbered)

pub loop-at-preserved : goal.loop-at-preserved
loop-at-preserved g c =
    let r = c.speak-next in
    let v = c.loop-at.invariant in
    record {
      going = again spoken _ _ v.going r.ensures.goes r.ensures.stands.1;
      saying = known.again _ v.saying (ap (λ (t : Talk Desk). t.text) r.ensures.goes.talks) c.in_ok-write_all.ensures.bytes;
      stands = r.ensures.stands.0;
      lengths = kept v.lengths r.auto.main r.auto.swap r.auto.memory;
      out_as = length_appended r.ensures.goes.text ∙ v.out_as;
    }

-- at the script's end nothing is left to be said
nothing : (script : List ℕ) (q : Point Desk) → length script ≤ q.place → (on_from spoken script q).text ≡ []
unfolding talk lines_of
nothing script q h = rw (drop_of_length-le script h) refl

pub returns-clause-stands : goal.returns-clause-stands
returns-clause-stands g c = at_end spoken _ _ c.loop-at.invariant.going (omega arith)

pub returns-clause-written : goal.returns-clause-written
returns-clause-written g c =
    let l = c.loop-at in
    known.at_end l.invariant.saying
    (nothing c.args.script.now (reached (desk l.at.standing l.main l.swap l.memory c.args.rights.now) l.at.place) (omega arith))
