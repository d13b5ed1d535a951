-- The machine that the tests are handed in parts.
use Rattle.std.specs.Prelude.{List, [], ◌∷◌, ℕ}
use Rattle.plainmodel.specs.State.{PlainState, plain_state}

-- a machine with this ptl, this GPR 0 and these slices: of its other registers and of its PCs no test asks
abbrev pub handed : ℕ → ℕ → List ℕ → List ℕ → PlainState
handed ptl gpr0 bytes rights =
    plain_state (record { ptl = ptl; gpr = gpr0 ∷ []; pcs = record { dpc = 0; next = 0 } }) bytes rights
