-- Bits 11–1 of every entry stay along an instruction and along a run (`instruction_kept`, `run_kept`). And the host's own change of bits
-- 11–3 of an entry: ppx, v and the rights of every entry stay (`spared_place`, `spared_rights`), the machine stays good (`spared_good`)
-- and stands for the same flat machine (`spared_flat`).
use mathlib.Core.Path.{◌≡◌, refl, sym, ap, ap₂, subst⁻¹, ◌∙◌}
use mathlib.Core.Bool.{Bool, true, false, ◌&&◌}
use mathlib.Core.List.{List}
use Prim.Native.Nat.{ℕ, ◌+◌, ◌*◌, ◌<◌, ◌≤◌}
use native.Mathlib.Omega.{arith}
use lib.Dec.{ltb}
use lib.ListN.{length, get_or}
use borrow.Author.Tests.{ltb-true, lt-ltb}
use Rattle.std.specs.Prelude.{if◌then◌else◌}
use Rattle.model.specs.Pages.{virtual, page_of, entry_at, frame_at, main_page}
use Rattle.model.specs.Table.{entry, kept, spare, with_spare, set_spare}
use Rattle.model.specs.State.{State, state}
use Rattle.model.specs.Handler.{load}
use Rattle.model.specs.Translate.{flat_byte}
use Rattle.model.specs.Run.{Counted, instruction, run}
use Rattle.model.specs.Flat.{Flat, flat, rights_byte}
use Rattle.model.specs.Series.{spared}
use Rattle.model.specs.declared.Shape.{Shape}
use Rattle.model.specs.declared.VirtualPage.{VirtualPage}
use Rattle.laws.specs.Good.{Fit, Good}
use Rattle.laws.specs.Mapped.{leaves}
use Rattle.laws.specs.Entries.{SamePlace, SameKept}
use Rattle.laws.specs.Named.{Off}
use Rattle.laws.proofs.Choice.{and_left, and_right, below_same}
use Rattle.laws.proofs.Entries.{spare_with, with_fits, with_rest, rest_place, rest_rights}
use Rattle.laws.proofs.Table.{entry_same, entry_other, entry_off, byte_other, byte_above, length-entry, flat_placed}
use Rattle.laws.proofs.Seated.{in_frames, seated_over}
use Rattle.laws.proofs.Moves.{page_discrete, page_same}
use Rattle.laws.proofs.Load.{load_kept}
use Rattle.laws.proofs.Attempt.{missing}
use Rattle.laws.proofs.Third.{enough}
use Rattle.laws.proofs.Simulate.{run_all}
use Rattle.laws.proofs.Instruction.{attempts_all}
use Rattle.laws.proofs.Run.{GoodCounted, keeps, first_shape}

-- ---- an instruction, and a run
pub kept_join : (p q r : State) → q.machine.shape ≡ p.machine.shape → SameKept p q → SameKept q r → SameKept p r
kept_join p q r e t u x h =
    ap (λ (s : Shape). kept (entry s r.memory.main x)) (sym e) ∙ u x (subst⁻¹ (λ (s : Shape). x.0 < s.ptl) e h)
    ∙ ap (λ (s : Shape). kept (entry s q.memory.main x)) e ∙ t x h

-- where the main memories are the same outside the frames
pub off_kept : (p q : State) → Good p
    → ((j : ℕ) → Off (4096 * p.machine.shape.abase) (4096 * p.machine.shape.frames) j → get_or q.memory.main j 0 ≡ get_or p.memory.main j 0)
    → SameKept p q
off_kept p q g o x h = ap kept (entry_off p.machine.shape p.memory.main q.memory.main g.fit o x h)

pub instruction_kept : (c : Counted) → Good c.state → SameKept c.state (leaves (instruction c)).state
unfolding instruction load
instruction_kept c g =
    attempts_all (λ k c r. SameKept c.state (leaves r).state) (λ k c g r u. off_kept c.state (leaves r).state g u.off)
    (λ k c g va e h t x q. t x q ∙ load_kept c.state g (page_of va) (missing c.state va e).0 (missing c.state va e).1 x q)
    2 c g (enough c.state g)

first_kept : (c : Counted) → Good c.state → (d : Counted) → leaves (instruction c) ≡ d → SameKept c.state d.state
first_kept c g d e = rw e at (instruction_kept c g)

pub run_kept : (n : ℕ) (c : Counted) → Good c.state → SameKept c.state (run instruction n c).left.state
run_kept =
    run_all instruction GoodCounted keeps (λ n c r. SameKept c.state r.left.state) (λ c g x q. refl)
    (λ n c g s k d e h. first_kept c g d (ap leaves e))
    (λ n c g next e h t. kept_join c.state next.state (run instruction n next).left.state (first_shape c g next (ap leaves e)) (first_kept c g next (ap leaves e)) t)

-- ---- the host's change of the entry of page x, which is in the table, to v, which fits
module _ (s : Shape) (main : List ℕ) (fit : Fit s (length main)) (x : VirtualPage) (v : ℕ) (hx : x.0 < s.ptl) (hv : v < 512) where
  abbrev changed : List ℕ
  changed = set_spare s main x v

  set_here : entry s changed x ≡ with_spare v (entry s main x)
  unfolding set_spare
  set_here = entry_same s main fit x (with_spare v (entry s main x)) hx (with_fits v (entry s main x) hv)

  set_rest : (y : VirtualPage) → with_spare 0 (entry s changed y) ≡ with_spare 0 (entry s main y)
  unfolding set_spare
  set_rest y = pick (page_discrete y x)
    where
      pick : Dec (y ≡ x) → with_spare 0 (entry s changed y) ≡ with_spare 0 (entry s main y)
      pick (yes e) =
          ap (λ z. with_spare 0 (entry s changed z)) e ∙ ap (with_spare 0) set_here ∙ with_rest v (entry s main x) hv
          ∙ ap (λ z. with_spare 0 (entry s main z)) (sym e)
      pick (no n) = ap (with_spare 0) (entry_other s main x (with_spare v (entry s main x)) y (λ e. n (ap virtual e)))

  set-place : (y : VirtualPage) → SamePlace (entry s main y) (entry s changed y)
  set-place y = rest_place (entry s main y) (entry s changed y) (set_rest y)

  length-set : length changed ≡ length main
  unfolding set_spare
  length-set = length-entry s main x (with_spare v (entry s main x))

  set_above : (j : ℕ) → 4096 * s.abase ≤ j → get_or changed j 0 ≡ get_or main j 0
  unfolding set_spare
  set_above j h = byte_above s main fit x (with_spare v (entry s main x)) j hx h

  set-frame : (i : ℕ) → i < s.frames → main_page changed (frame_at s i) ≡ main_page main (frame_at s i)
  set-frame i q =
      let here : 4096 * (s.abase + i) + 4096 ≤ length main = omega (arith, fit.main_long, fit.frames_in) in
      page_same changed main (s.abase + i) (s.abase + i) (omega (arith, here, length-set)) here (λ k r. set_above (4096 * (s.abase + i) + k) (omega arith))

  set_off : (j : ℕ) → Off (entry_at s x) 4 j → get_or changed j 0 ≡ get_or main j 0
  unfolding set_spare
  set_off j o = byte_other s main x (with_spare v (entry s main x)) j o

module _ (p : State) (g : Good p) (x : VirtualPage) (v : ℕ) where
  abbrev s : Shape
  s = p.machine.shape

  abbrev main : List ℕ
  main = p.memory.main

  abbrev put : State
  put = state p.machine (set_spare s main x v) p.memory.swap

  -- it does so, or nothing
  spared_as : (P : State → Type 0) → (x.0 < s.ptl → v < 512 → P put) → P p → P (spared p x v)
  unfolding spared
  spared_as P does nothing = pick (ltb x.0 s.ptl && ltb v 512) refl
    where
      pick : (c : Bool) → (ltb x.0 s.ptl && ltb v 512) ≡ c → P (if c then put else p)
      pick true e = does (ltb-true _ _ (and_left _ _ e)) (ltb-true _ _ (and_right (ltb x.0 s.ptl) _ e))
      pick false e = nothing

  pub spared_machine : (spared p x v).machine ≡ p.machine
  spared_machine = spared_as (λ q. q.machine ≡ p.machine) (λ hx hv. refl) refl

  pub spared_swap : (spared p x v).memory.swap ≡ p.memory.swap
  spared_swap = spared_as (λ q. q.memory.swap ≡ p.memory.swap) (λ hx hv. refl) refl

  pub spared_here : x.0 < s.ptl → v < 512 → spare (entry s (spared p x v).memory.main x) ≡ v
  unfolding spared
  spared_here hx hv =
      rw (lt-ltb _ _ hx, lt-ltb _ _ hv) (ap spare (set_here s main g.fit x v hx hv) ∙ spare_with v (entry s main x) hv)

  -- with 0 in bits 11–3 every entry is as before
  spared_rest : (y : VirtualPage) → with_spare 0 (entry s (spared p x v).memory.main y) ≡ with_spare 0 (entry s main y)
  spared_rest y =
      spared_as (λ q. with_spare 0 (entry s q.memory.main y) ≡ with_spare 0 (entry s main y)) (λ hx hv. set_rest s main g.fit x v hx hv y) refl

  pub spared_place : (y : VirtualPage) → SamePlace (entry s main y) (entry s (spared p x v).memory.main y)
  spared_place y = rest_place _ _ (spared_rest y)

  pub spared_rights : (y : VirtualPage) → rights_byte (entry s (spared p x v).memory.main y) ≡ rights_byte (entry s main y)
  spared_rights y = rest_rights _ _ (spared_rest y)

  pub spared_off : (j : ℕ) → Off (entry_at s x) 4 j → get_or (spared p x v).memory.main j 0 ≡ get_or main j 0
  spared_off j o = spared_as (λ q. get_or q.memory.main j 0 ≡ get_or main j 0) (λ hx hv. set_off s main g.fit x v hx hv j o) refl

  pub spared_good : Good (spared p x v)
  spared_good =
      spared_as Good
      (λ hx hv. record {
        fit = subst⁻¹ (λ (n : ℕ). Fit s n) (length-set s main g.fit x v hx hv) g.fit;
        whole = g.whole;
        seated = seated_over s p.machine.book main (set_spare s main x v) (λ y h. set-place s main g.fit x v hx hv y) g.seated;
        hand = g.hand;
        clean = record {
          equal = λ i q u. set-frame s main g.fit x v hx hv i (omega (arith, q, g.seated.booked.used_most)) ∙ g.clean.equal i q u;
          unused = g.clean.unused;
        };
        zero = g.zero;
      })
      g

  -- a byte in a frame lies above the table
  same_byte : x.0 < s.ptl → v < 512 → (va : ℕ) → (page_of va).0 < s.ptl → flat_byte s put.memory va ≡ flat_byte s p.memory va
  same_byte hx hv va h =
      flat_placed s p.memory put.memory va (set-place s main g.fit x v hx hv (page_of va))
      (λ here. set_above s main g.fit x v hx hv _ (omega (arith, (in_frames s p.machine.book main g.seated (page_of va) h here).0))) (λ away. refl)

  pub spared_flat : flat (spared p x v) ≡ flat p
  unfolding flat
  spared_flat =
      spared_as (λ q. flat q ≡ flat p)
      (λ hx hv.
      ap₂ {C = Flat} (λ bytes rights. record { gpr = p.machine.gpr; pcs = p.machine.pcs; bytes = bytes; rights = rights })
      (below_same (4096 * s.ptl) _ _ (λ va q. same_byte hx hv va (omega (arith, q))))
      (below_same s.ptl _ _ (λ y q. rest_rights _ _ (set_rest s main g.fit x v hx hv (virtual y)))))
      refl
