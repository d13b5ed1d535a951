-- An attempt leaves every entry of the table as it is: the same accesses go through as before, and they stay safe. One that does
-- not finish its instruction, or that traps, leaves everything as it is (`unchanged`). A store goes to a frame (`wrote_framed`).
use mathlib.Core.Path.{◌≡◌, refl, sym, ap, subst⁻¹, ◌∙◌}
use mathlib.Core.Bool.{Bool, true, false}
use mathlib.Core.List.{List, []}
use Prim.Native.Nat.{ℕ, ◌+◌, ◌/◌, ◌<◌, ◌≤◌}
use native.Mathlib.Omega.{arith}
use borrow.Author.Tests.{ltb-true}
use lib.Dec.{ltb}
use lib.ListN.{length}
use Rattle.std.specs.Prelude.{if◌then◌else◌}
use Rattle.model.specs.Pages.{page_of}
use Rattle.model.specs.Table.{entry, valid}
use Rattle.model.specs.State.{Memory}
use Rattle.model.specs.Translate.{by_entry, translate}
use Rattle.model.specs.Attempt.{Tried, size, attempt}
use Rattle.model.specs.Flat.{allow, flat_bytes, flat_rights}
use Rattle.model.specs.declared.Shape.{Shape}
use Rattle.model.specs.declared.VirtualPage.{VirtualPage}
use Rattle.model.specs.declared.Pcs.{Pcs}
use Rattle.model.specs.declared.Access.TheVariants.{Illegal}
use Rattle.model.specs.declared.Outcome.TheVariants.{Wrote}
use Rattle.laws.specs.Good.{Fit, Safe}
use Rattle.laws.proofs.Choice.{clash}
use Rattle.laws.proofs.Bytes.{length-store}
use Rattle.laws.proofs.Access.{Through, through, legal, permits, illegal, reads}
use Rattle.laws.proofs.Stores.{entry_kept}
use Rattle.laws.proofs.Agree.{Finishes, done, wrote, Both, halts, misses_code, misses_data, sets, stores, traps, attempt_both}

-- two main memories whose tables say the same
abbrev SameTable : Shape → List ℕ → List ℕ → Type 0
SameTable s main main' = (x : VirtualPage) → x.0 < s.ptl → entry s main' x ≡ entry s main x

module _ (s : Shape) (main main' : List ℕ) (e : SameTable s main main') where
  translate_over : (w : Bool) (va : ℕ) → translate s main' w va ≡ translate s main w va
  unfolding translate
  translate_over w va = pick (ltb (page_of va).0 s.ptl) refl
    where
      pick : (c : Bool) → ltb (page_of va).0 s.ptl ≡ c
          → (if c then by_entry (entry s main' (page_of va)) w va else Illegal) ≡ (if c then by_entry (entry s main (page_of va)) w va else Illegal)
      pick true q = ap (λ (k : ℕ). by_entry k w va) (e (page_of va) (ltb-true _ _ q))
      pick false q = refl

  safe_over : length main' ≡ length main → Safe s main → Safe s main'
  safe_over l h = record {
    fit = subst⁻¹ (λ (n : ℕ). Fit s n) l h.fit;
    framed = λ x q v. rw (e x q) (h.framed x q (ap valid (sym (e x q)) ∙ v));
  }

module _ (s : Shape) (main : List ℕ) (h : Safe s main) (gpr : List ℕ) (pcs : Pcs) where
  -- main memory after the attempt
  abbrev after : List ℕ
  after = (attempt (translate s main) gpr main pcs).bytes

  -- any swap does
  abbrev m : Memory
  m = record { main = main; swap = [] }

  abbrev Way : Tried → Tried → Type 0
  Way = Both (translate s main) main (allow (flat_rights s main)) (flat_bytes s m) gpr pcs

  way : Way (attempt (translate s main) gpr main pcs) (attempt (allow (flat_rights s main)) gpr (flat_bytes s m) pcs)
  way = attempt_both _ _ _ _ _ _ (record { illegal = illegal s m; permits = permits s m; legal = legal s m; reads = reads s m })

  stays : SameTable s main after × (length after ≡ length main)
  stays = by _ _ way
    where
      by : (t t' : Tried) → Way t t' → SameTable s main t.bytes × (length t.bytes ≡ length main)
      by t t' (halts q) = ((λ x l. refl), refl)
      by t t' (misses_code f) = ((λ x l. refl), refl)
      by t t' (misses_data w f a d) = ((λ x l. refl), refl)
      by t t' (sets rd v target) = ((λ x l. refl), refl)
      by t t' (stores width va i v a f) = (entry_kept s main h width va i v a f, length-store (size width) main i v)
      by t t' (traps n) = ((λ x l. refl), refl)

  pub same_accesses : (w : Bool) (va : ℕ) → translate s after w va ≡ translate s main w va
  same_accesses = translate_over s main after stays.0

  pub still_safe : Safe s after
  still_safe = safe_over s main after stays.0 stays.1 h

  pub unchanged : (Finishes (attempt (translate s main) gpr main pcs).outcome → ⊥) → ((attempt (translate s main) gpr main pcs).gpr ≡ gpr) × (after ≡ main)
  unchanged = by _ _ way
    where
      by : (t t' : Tried) → Way t t' → (Finishes t.outcome → ⊥) → (t.gpr ≡ gpr) × (t.bytes ≡ main)
      by t t' (halts q) n = (refl, refl)
      by t t' (misses_code f) n = (refl, refl)
      by t t' (misses_data w f a d) n = (refl, refl)
      by t t' (sets rd v target) n = absurd (n done)
      by t t' (stores width va i v a f) n = absurd (n wrote)
      by t t' (traps k) n = (refl, refl)

  pub wrote_framed : (q : Pcs) (i : ℕ) → (attempt (translate s main) gpr main pcs).outcome ≡ Wrote q i → (s.abase ≤ i / 4096) × (i / 4096 < s.abase + s.frames)
  wrote_framed q i = by _ _ way
    where
      by : (t t' : Tried) → Way t t' → t.outcome ≡ Wrote q i → (s.abase ≤ i / 4096) × (i / 4096 < s.abase + s.frames)
      by t t' (halts h) e = clash (cc)
      by t t' (misses_code f) e = clash (cc)
      by t t' (misses_data w f a d) e = clash (cc)
      by t t' (sets rd v target) e = clash (cc)
      by t t' (stores width va k v a f) e =
          let z : k ≡ i = cc in
          let u : Through s main true va k = through s main true va k f in
          (omega (arith, z, u.at, (h.framed (page_of va) u.inside u.here).0), omega (arith, z, u.at, (h.framed (page_of va) u.inside u.here).1))
      by t t' (traps k) e = clash (cc)
