-- The record with the two memories that are lent with it.
use Rattle.std.specs.Prelude.{List, ℕ}
use Rattle.model.specs.declared.Machine.{Machine}

pub record Memory : Type 0 where
  pub main : List ℕ
  pub swap : List ℕ

pub record State : Type 0 where
  pub machine : Machine
  pub memory : Memory

-- these bytes, and the record m that is lent them
abbrev pub memory : List ℕ → List ℕ → Memory
memory main swap = record { main = main; swap = swap }

abbrev pub state : Machine → List ℕ → List ℕ → State
state m main swap = record { machine = m; memory = memory main swap }
