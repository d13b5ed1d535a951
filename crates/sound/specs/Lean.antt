-- The machine that the tests are handed in parts.
use Rattle.std.specs.Prelude.{List, [], ◌∷◌, ℕ}
use Rattle.model.specs.declared.Machine.{Machine}
use Rattle.book.specs.Numbers.{book_of}
use Rattle.sound.specs.declared.Lean.{Lean}

-- a machine with these parts: of its registers soundness asks for GPR 0 alone, and nothing of its PCs
abbrev pub whole : Lean → List ℕ → Machine
whole l held = record {
  shape = l.shape;
  book = book_of l.used l.hand held l.marks;
  gpr = l.zero ∷ [];
  pcs = record { dpc = 0; next = 0 };
}
