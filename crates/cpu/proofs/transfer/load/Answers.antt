-- `transfer::load`: at a place, or not.
use native.Mathlib.Omega.{arith}
use Rattle.laws.proofs.Bytes.{number_below}
use Rattle.cpu.proofs.Ways.{bits_of_bytes, load_at, load_ended}
use Rattle.cpu.proofs.transfer.load.Goals as goal
use Rattle.cpu.proofs.transfer.load.Goals.{then-signed, else-signed}

pub sext-v-requires : goal.sext-v-requires
sext-v-requires g c = (
  omega (arith, c.requires.2),
  omega (arith, c.requires.3),
  rw (c.number_at-x.ensures, bits_of_bytes g.row.N) (number_below c.args.m.now (λ k. omega (arith, c.type_inv.m k)) g.row.N _),
)

pub returns-after-signed : goal.returns-after-signed
returns-after-signed g c =
    load_at g.row.N _ _ _ _ _ _ _ _ c.in-At.is _ c.number_at-x.ensures _
    (elim c.if-signed.branch [ then-signed w ↦ simp (w.v-is, w.sext-v.ensures, w.if-signed.true) | else-signed w ↦ simp (w.v-is, w.if-signed.false) ])
    _ c.write.ensures _ c.loaded.ensures

pub returns-in_default : goal.returns-in_default
returns-in_default g c = load_ended g.row.N _ _ _ _ _ _ _ c.in_default.not-At _ c.loaded-in_default.ensures
