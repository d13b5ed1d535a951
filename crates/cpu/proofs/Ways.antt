-- The ways out of an attempt's code: a law for each, over plain variables and any width. What is said of an access holds on any
-- memory.
use mathlib.Core.Path.{◌≡◌, refl, sym, ap, ◌∙◌}
use mathlib.Core.Bool.{Bool, true, false}
use mathlib.Core.List.{List}
use Prim.Native.Nat.{ℕ, zero, suc, ◌+◌, ◌*◌, ◌%◌, ◌^◌}
use native.Mathlib.Nat.{pow-suc}
use Rattle.std.proofs.lemmas.Nat.{pow-add}
use native.Mathlib.Omega.{arith}
use borrow.Author.Tests.{eq-eqb, ne_eqb}
use lib.ListN.{length, set}
use Rattle.std.specs.Prelude.{if◌then◌else◌}
use Rattle.model.specs.Words.{aligned, extend}
use Rattle.model.specs.Bytes.{number}
use Rattle.model.specs.Bytes as model
use Rattle.model.specs.Instruction.{plan, written}
use Rattle.model.specs.Translate.{translate}
use Rattle.model.specs.Attempt.{Tried, tried, Width, word, size, accessed, stopped, transfer, obey_load, obey_store, obey, attempt}
use Rattle.model.specs.declared.Shape.{Shape}
use Rattle.model.specs.declared.Pcs.{Pcs}
use Rattle.model.specs.declared.Plan.{Plan}
use Rattle.model.specs.declared.Access.{Access}
use Rattle.model.specs.declared.Access.TheVariants as said
use Rattle.model.specs.declared.Stop.TheVariants as stop
use Rattle.model.specs.declared.Outcome.{Outcome}
use Rattle.laws.specs.Good.{Safe}
use Rattle.laws.proofs.Access.{in_main}
use Rattle.laws.proofs.Choice.{clash}
use Rattle.cpu.specs.declared.access.Reached.{Reached}
use Rattle.cpu.specs.declared.access.Reached.TheVariants.{Misaligned, Illegal, Fault, At}
use Rattle.cpu.specs.Reach.{reached_by, reach, Ends, ended, loaded, stored, after, load, store}

-- ---- "Writes to GPR 0 are dropped."
module _ (gpr : List ℕ) (i v : ℕ) where
  pub written_none : i ≡ 0 → gpr ≡ written gpr i v
  written_none h = simp (eq-eqb _ _ h)

  pub written_one : (i ≡ 0 → ⊥) → set gpr i v ≡ written gpr i v
  written_one h = simp (ne_eqb _ _ h)

-- ---- what an access comes to
pub reach_odd : (n va : ℕ) (a : Access) → (va % n ≡ 0 → ⊥) → Misaligned ≡ reach n va a
unfolding reach
reach_odd n va a h = simp (ne_eqb _ _ h)

-- a, which is the constructor k, is what the memory says
pub reach_even : (n va : ℕ) (says : Access) → va % n ≡ 0 → (a : Access) → a ≡ says → (k : Access) → a ≡ k → reached_by k ≡ reach n va says
unfolding reach
reach_even n va says y a e k q = ap reached_by (sym q ∙ e) ∙ simp (eq-eqb _ _ y)

-- it goes to place i
pub record Place (n va : ℕ) (a : Access) (i : ℕ) : Type 0 where
  pub even : aligned n va ≡ true
  pub at : a ≡ said.At i

pub placed : (n va : ℕ) (a : Access) (i : ℕ) → reach n va a ≡ At i → Place n va a i
unfolding reach
placed n va a i e = pick (aligned n va) refl a refl
  where
    pick : (b : Bool) → aligned n va ≡ b → (z : Access) → a ≡ z → Place n va a i
    pick false eb z ez = clash (cc)
    pick true eb said.Illegal ez = clash (cc)
    pick true eb said.Fault ez = clash (cc)
    pick true eb (said.At j) ez = let q : j ≡ i = cc in record { even = eb; at = ez ∙ ap said.At q }

-- a place that is reached ends within main memory
pub inside : (s : Shape) (main : List ℕ) → Safe s main → (writing : Bool) (width : Width) (va : ℕ) (r : Reached)
    → r ≡ reach (size width) va (translate s main writing va) → Ends (size width) (length main) r
inside s main g writing width va r is i at =
    let t : Place (size width) va (translate s main writing va) i = placed _ _ _ i (sym is ∙ at) in
    in_main s main g writing width va i t.even t.at

-- n bytes are a number of 8·n bits
pub bits_of_bytes : (n : ℕ) → 2 ^ (8 * n) ≡ 256 ^ n
bits_of_bytes zero = refl
bits_of_bytes (suc n) =
    let e : 8 * suc n ≡ 8 * n + 8 = omega arith in
    ap (λ (k : ℕ). 2 ^ k) e ∙ pow-add 2 (8 * n) 8 ∙ ap (λ (k : ℕ). k * 256) (bits_of_bytes n) ∙ sym (pow-suc 256 n)

-- ---- a load and a store, by what the access came to
-- where it goes to no place, the outcome is that of r alone
after_ended : (gpr bytes : List ℕ) (va : ℕ) (o : ℕ → Outcome) (done : ℕ → Tried) (r : Reached) → ((i : ℕ) → r ≡ At i → ⊥)
    → tried (ended va o r) gpr bytes ≡ after gpr bytes va done r
unfolding after
after_ended gpr bytes va o done Misaligned n = refl
after_ended gpr bytes va o done Illegal n = refl
after_ended gpr bytes va o done Fault n = refl
after_ended gpr bytes va o done (At i) n = absurd (n i refl)

module _ (n va : ℕ) (p : Pcs) (gpr bytes : List ℕ) (r : Reached) where
  pub load_ended : (signed : Bool) (rd : ℕ) → ((i : ℕ) → r ≡ At i → ⊥) → (o : Outcome) → o ≡ loaded p va r
      → tried o gpr bytes ≡ load n signed rd va p gpr bytes r
  unfolding loaded load
  load_ended signed rd none o e = rw e (after_ended gpr bytes va _ _ r none)

  pub store_ended : (v : ℕ) → ((i : ℕ) → r ≡ At i → ⊥) → (o : Outcome) → o ≡ stored p va r → tried o gpr bytes ≡ store n va v p gpr bytes r
  unfolding stored store
  store_ended v none o e = rw e (after_ended gpr bytes va _ _ r none)

  -- a load at place i: x is read, v written, g left
  pub load_at : (signed : Bool) (rd i : ℕ) → r ≡ At i → (x : ℕ) → x ≡ number n bytes i
      → (v : ℕ) → v ≡ (if signed then extend (8 * n) x else x) → (g : List ℕ) → g ≡ written gpr rd v
      → (o : Outcome) → o ≡ loaded p va (At i) → tried o g bytes ≡ load n signed rd va p gpr bytes r
  unfolding after loaded load
  load_at signed rd i at x hx v hv g hg o e = rw (e, at, hg, hv, hx) refl

  -- a store at place i leaves the bytes b
  pub store_at : (v i : ℕ) → r ≡ At i → (b : List ℕ) → b ≡ model.store n bytes i v
      → (o : Outcome) → o ≡ stored p va (At i) → tried o gpr b ≡ store n va v p gpr bytes r
  unfolding after stored store
  store_at v i at b hb o e = rw (e, at, hb) refl

module _ (access : Bool → ℕ → Access) (gpr bytes : List ℕ) (p : Pcs) where
  -- a transfer, whose access comes to r, is what follows r
  module _ (writing : Bool) (width : Width) (va : ℕ) (done : ℕ → Tried) (r : Reached)
      (is : r ≡ reach (size width) va (access writing va)) where
    pub transfers : after gpr bytes va done r ≡ transfer access gpr bytes p writing width va done
    unfolding reach after transfer
    transfers = rw is (pick (aligned (size width) va) (access writing va))
      where
        pick : (b : Bool) (a : Access) → after gpr bytes va done (if b then reached_by a else Misaligned)
            ≡ (if b then accessed access gpr bytes p a va done else stopped access gpr bytes p (stop.Misaligned va))
        pick true said.Illegal = refl
        pick true said.Fault = refl
        pick true (said.At i) = refl
        pick false a = refl

  -- a load and a store are what the model makes of them
  pub load_obeys : (width : Width) (signed : Bool) (rd va : ℕ) (r : Reached) → r ≡ reach (size width) va (access false va)
      → (t : Tried) → t ≡ load (size width) signed rd va p gpr bytes r → t ≡ obey_load access gpr bytes p width signed rd va
  unfolding obey_load load
  load_obeys width signed rd va r is t e = e ∙ transfers false width va _ r is

  pub store_obeys : (width : Width) (va v : ℕ) (r : Reached) → r ≡ reach (size width) va (access true va)
      → (t : Tried) → t ≡ store (size width) va v p gpr bytes r → t ≡ obey_store access gpr bytes p width va v
  unfolding obey_store store
  store_obeys width va v r is t e = e ∙ transfers true width va _ r is

  -- an attempt whose fetch goes to no place
  pub attempt_ended : (r : Reached) → r ≡ reach 4 p.dpc (access false p.dpc) → ((i : ℕ) → r ≡ At i → ⊥)
      → (o : Outcome) → o ≡ loaded p p.dpc r → tried o gpr bytes ≡ attempt access gpr bytes p
  unfolding attempt loaded
  attempt_ended r is none o e = rw e (after_ended gpr bytes p.dpc _ _ r none ∙ transfers false word p.dpc _ r is)

  -- an attempt whose fetch goes to place i: the word w, its plan t
  pub attempt_at : (i : ℕ) → At i ≡ reach 4 p.dpc (access false p.dpc) → (w : ℕ) → w ≡ number 4 bytes i
      → (t : Plan) → t ≡ plan gpr p.next w → (r : Tried) → r ≡ obey access gpr bytes p w t → r ≡ attempt access gpr bytes p
  unfolding attempt after
  attempt_at i is w hw t ht r hr = rw (hr, ht, hw) (transfers false word p.dpc _ (At i) is)
