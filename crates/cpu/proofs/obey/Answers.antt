-- `obey` goes by the plan.
use mathlib.Core.Path.{refl}
use mathlib.Core.Bool.{false}
use native.Mathlib.Omega.{arith}
use Rattle.model.specs.Attempt.{byte, half, word, obey}
use Rattle.cpu.proofs.Ways.{load_obeys, store_obeys}
use Rattle.cpu.proofs.obey.Goals as goal

pub write-requires : goal.write-requires
write-requires g c = rw c.in-Set.is at c.requires.1

pub load-requires : goal.load-requires
load-requires g c =
    (c.reach.ensures.inside byte refl, rw c.in-LoadByte.is at c.requires.1, omega arith, omega arith)

pub load-requires-in-LoadHalf : goal.load-requires-in-LoadHalf
load-requires-in-LoadHalf g c =
    (c.reach-in-LoadHalf.ensures.inside half refl, rw c.in-LoadHalf.is at c.requires.1, omega arith, omega arith)

pub load-requires-in-LoadWord : goal.load-requires-in-LoadWord
load-requires-in-LoadWord g c =
    (c.reach-in-LoadWord.ensures.inside word refl, rw c.in-LoadWord.is at c.requires.1, omega arith, omega arith)

pub store-requires : goal.store-requires
store-requires g c = (c.reach-in-StoreByte.ensures.inside byte refl, omega arith)

pub store-requires-in-StoreHalf : goal.store-requires-in-StoreHalf
store-requires-in-StoreHalf g c = (c.reach-in-StoreHalf.ensures.inside half refl, omega arith)

pub store-requires-in-StoreWord : goal.store-requires-in-StoreWord
store-requires-in-StoreWord g c = (c.reach-in-StoreWord.ensures.inside word refl, omega arith)

pub returns-in-Unknown : goal.returns-in-Unknown
unfolding obey
returns-in-Unknown g c = rw c.in-Unknown.is

pub returns-in-Set : goal.returns-in-Set
unfolding obey
returns-in-Set g c = rw (c.in-Set.is, c.write.ensures)

pub returns-in-LoadByte : goal.returns-in-LoadByte
unfolding obey
returns-in-LoadByte g c =
    rw c.in-LoadByte.is (load_obeys _ _ _ _ byte _ _ _ _ c.reach.ensures.value _ c.load.ensures)

pub returns-in-LoadHalf : goal.returns-in-LoadHalf
unfolding obey
returns-in-LoadHalf g c =
    rw c.in-LoadHalf.is (load_obeys _ _ _ _ half _ _ _ _ c.reach-in-LoadHalf.ensures.value _ c.load-in-LoadHalf.ensures)

pub returns-in-LoadWord : goal.returns-in-LoadWord
unfolding obey
returns-in-LoadWord g c =
    rw c.in-LoadWord.is (load_obeys _ _ _ _ word false _ _ _ c.reach-in-LoadWord.ensures.value _ c.load-in-LoadWord.ensures)

pub returns-in-StoreByte : goal.returns-in-StoreByte
unfolding obey
returns-in-StoreByte g c =
    rw c.in-StoreByte.is
    (store_obeys _ _ _ _ byte _ _ _ c.reach-in-StoreByte.ensures.value _ (c.store.ensures _))

pub returns-in-StoreHalf : goal.returns-in-StoreHalf
unfolding obey
returns-in-StoreHalf g c =
    rw c.in-StoreHalf.is
    (store_obeys _ _ _ _ half _ _ _ c.reach-in-StoreHalf.ensures.value _ (c.store-in-StoreHalf.ensures _))

pub returns-in-StoreWord : goal.returns-in-StoreWord
unfolding obey
returns-in-StoreWord g c =
    rw c.in-StoreWord.is
    (store_obeys _ _ _ _ word _ _ _ c.reach-in-StoreWord.ensures.value _ (c.store-in-StoreWord.ensures _))

pub returns-in-Trapping : goal.returns-in-Trapping
unfolding obey
returns-in-Trapping g c = rw (c.in-Trapping.is, c.pcs_onward.ensures)
