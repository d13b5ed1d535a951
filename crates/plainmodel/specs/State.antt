-- The record with the two slices that are lent with it: "one flat lent memory of ptl pages and a rights byte for each". It is the flat
-- machine of model/specs/Flat, with ptl beside it.
use Rattle.std.specs.Prelude.{List, ℕ}
use Rattle.model.specs.Flat.{Flat}
use Rattle.plainmodel.specs.declared.Plain.{Plain}

pub record PlainState : Type 0 where
  pub plain : Plain
  pub bytes : List ℕ
  pub rights : List ℕ

-- these slices, and the record that is lent them
abbrev pub plain_state : Plain → List ℕ → List ℕ → PlainState
plain_state m bytes rights = record { plain = m; bytes = bytes; rights = rights }

-- the flat machine that it is
abbrev pub flat_of : PlainState → Flat
flat_of p = record { gpr = p.plain.gpr; pcs = p.plain.pcs; bytes = p.bytes; rights = p.rights }

-- and what a flat machine leaves of it: ptl stays
abbrev pub left_by : PlainState → Flat → PlainState
left_by p f = plain_state (record { ptl = p.plain.ptl; gpr = f.gpr; pcs = f.pcs }) f.bytes f.rights
