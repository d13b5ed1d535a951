-- `refusals`: what the makers' two calls refuse is exactly what specs/Refusals says.
use Rattle.makers.specs.Refusals.{Refusals}
use Rattle.makers.proofs.Texts.{good, first_bad, placed, behind_bad}
use Rattle.makers.proofs.Assembling.{assemble, assemble_keeps}
use Rattle.makers.proofs.Listing.{list, list_keeps}
use Rattle.makers.proofs.Mnemonics.{unknown}

pub refusals : Refusals
refusals = record {
  unknown = unknown;
  good = good;
  first_bad = first_bad;
  placed = placed;
  behind_bad = behind_bad;
  assemble = assemble;
  assemble_keeps = assemble_keeps;
  list = list;
  list_keeps = list_keeps;
}
