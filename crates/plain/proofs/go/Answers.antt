-- `go`: stretch after stretch, to the script's end.
use mathlib.Core.Path.{◌≡◌, refl, ap, ◌∙◌}
use mathlib.Core.List.{List, []}
use Prim.Native.Nat.{ℕ, ◌≤◌}
use native.Mathlib.Omega.{arith}
use lib.ListN.{length, drop_of_length-le}
use Rattle.text.proofs.Appending.{length_appended}
use Rattle.files.proofs.Known as known
use Rattle.talk.specs.Script.{Talk, talk, lines_of}
use Rattle.talk.specs.Stretch.{Point, on_from}
use Rattle.talk.proofs.Going.{starts, again, at_end}
use Rattle.plainsession.specs.Desk.{Desk, spoken}
use Rattle.plainsession.specs.Script.{reached}
use Rattle.plainsession.proofs.Roomy.{room_kept}
use Rattle.plain.proofs.go.Goals as goal

pub loop-at-init : goal.loop-at-init
loop-at-init g c = record {
  going = starts spoken c.args.script.now _;
  saying = known.starts _ _;
  lent = c.requires.1;
  room = c.requires.0;
  memory_as = refl;
  rights_as = refl;
  out_as = refl;
}

pub speak-next-requires : goal.speak-next-requires
speak-next-requires g c =
    let v = c.loop-at.invariant in
    (v.room, v.lent, c.requires.2, v.going.numbered)

pub loop-at-preserved : goal.loop-at-preserved
loop-at-preserved g c =
    let r = c.speak-next in
    let v = c.loop-at.invariant in
    let said = length_appended r.ensures.goes.text in
    record {
      going = again spoken _ _ v.going r.ensures.goes r.ensures.lent.1;
      saying = known.again _ v.saying (ap (λ (t : Talk Desk). t.text) r.ensures.goes.talks) c.in_ok-write_all.ensures.bytes;
      lent = r.ensures.lent.0;
      room = room_kept v.room r.auto.memory r.auto.rights said;
      memory_as = r.auto.memory ∙ v.memory_as;
      rights_as = r.auto.rights ∙ v.rights_as;
      out_as = said ∙ v.out_as;
    }

-- at the script's end nothing is left to be said
nothing : (script : List ℕ) (q : Point Desk) → length script ≤ q.place → (on_from spoken script q).text ≡ []
unfolding talk lines_of
nothing script q h = rw (drop_of_length-le script h) refl

pub returns-clause-stands : goal.returns-clause-stands
returns-clause-stands g c = at_end spoken _ _ c.loop-at.invariant.going (omega arith)

pub returns-clause-written : goal.returns-clause-written
returns-clause-written g c =
    let l = c.loop-at in
    known.at_end l.invariant.saying (nothing c.args.script.now (reached l.at l.memory l.rights) (omega arith))
