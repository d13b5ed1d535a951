-- `memory::put_entries`: the entries of the first x pages have come.
use Rattle.std.proofs.Common.{◌*◌, length, refl, ap, ◌∙◌, arith}
use Rattle.model.specs.Bytes.{store}
use Rattle.model.specs.Image.{invalid_entry, invalid_entries}
use Rattle.laws.proofs.Bytes.{length-store}
use Rattle.loading.proofs.Filled.{entries_step, entries_all}
use Rattle.loading.proofs.memory.put_entries.Goals as goal

pub loop-x-init : goal.loop-x-init
unfolding invalid_entries
loop-x-init c = (refl, refl)

pub put_number-requires : goal.put_number-requires
put_number-requires c = omega arith

pub loop-x-preserved : goal.loop-x-preserved
loop-x-preserved c =
    let i = c.loop-x.x in
    let v = c.loop-x.invariant in
    let a = c.args in
    let e = c.entry in
    let p = c.put_number in (
      ap length p.ensures ∙ length-store 4 _ (4 * i) e.result ∙ v.0,
      p.ensures ∙ ap (λ m. store 4 m (4 * i) e.result) v.1
          ∙ entries_step a.rights.now a.main.now i (omega arith) (omega arith) e.result
          (e.ensures ∙ ap invalid_entry c.from.ensures),
    )

pub shape_of-main : goal.shape_of-main
shape_of-main c = c.loop-x.invariant.0

pub returns : goal.returns
returns c =
    let a = c.args in
    c.loop-x.invariant.1 ∙ entries_all a.rights.now a.main.now c.loop-x.x (omega arith) (omega arith)
