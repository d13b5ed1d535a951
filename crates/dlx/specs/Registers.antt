-- The register that a plan writes, 0 where it writes none.
use Rattle.std.specs.Prelude.{ℕ}
use Rattle.model.specs.declared.Plan.{Plan}
use Rattle.model.specs.declared.Plan.TheVariants.{Unknown, Set, LoadByte, LoadHalf, LoadWord, StoreByte, StoreHalf, StoreWord, Trapping}

abbrev pub register_of : Plan → ℕ
register_of Unknown = 0
register_of (Set i v target) = i
register_of (LoadByte signed i va) = i
register_of (LoadHalf signed i va) = i
register_of (LoadWord i va) = i
register_of (StoreByte va v) = 0
register_of (StoreHalf va v) = 0
register_of (StoreWord va v) = 0
register_of (Trapping n) = 0
