-- The numbers that `list` answers, exactly, and what it leaves of the lent output.
use mathlib.Core.Path.{◌≡◌, refl, ap}
use mathlib.Core.Logic.{inl, inr}
use mathlib.Core.Bool.{Bool, true, false}
use mathlib.Core.List.{List}
use Prim.Native.Nat.{ℕ, ◌%◌, ◌≤◌, ◌<◌}
use native.Mathlib.Omega.{arith}
use lib.Dec.{leb, eqb}
use lib.ListN.{length}
use borrow.Author.Tests.{leb-true, leb-false, eqb-true, eqb-false}
use Rattle.std.specs.Prelude.{Ok, Err}
use Rattle.model.specs.declared.Refusal.TheVariants.{Bound, Room}
use Rattle.laws.specs.Over.{over}
use Rattle.notation.specs.Listing.{listing}
use Rattle.notation.specs.Calls.{words_of, ListOutcome, list_outcome, list_call}
use Rattle.makers.specs.Refusals.{listed_length, ListExactly, Kept}
use Rattle.makers.proofs.Keeping.{kept_refused, kept_result}

abbrev number : ListOutcome → ℕ
number o = o.numbers.verdict.refused

-- ---- the three ways of `list`
data Told (bytes out : List ℕ) : Type 0 where
  odd : ¬ (length bytes % 4 ≡ 0) → list_call bytes out ≡ list_outcome (Err Bound) out → Told bytes out
  short : length bytes % 4 ≡ 0 → length out < listed_length bytes → list_call bytes out ≡ list_outcome (Err Room) out → Told bytes out
  done : length bytes % 4 ≡ 0 → listed_length bytes ≤ length out
      → list_call bytes out ≡ list_outcome (Ok (listed_length bytes)) (over 0 (listing (words_of bytes)) out) → Told bytes out

module _ (bytes out : List ℕ) where
  told : Told bytes out
  unfolding list_call
  told = pick (eqb (length bytes % 4) 0) (leb (listed_length bytes) (length out)) refl refl
    where
      pick : (a b : Bool) → eqb (length bytes % 4) 0 ≡ a → leb (listed_length bytes) (length out) ≡ b → Told bytes out
      pick false b p q = odd (eqb-false _ _ p) (rw p)
      pick true false p q = short (eqb-true _ _ p) (leb-false _ _ q) (simp (p, q))
      pick true true p q = done (eqb-true _ _ p) (leb-true _ _ q) (simp (p, q))

  pub list : ListExactly bytes out
  list = pick told
    where
      pick : Told bytes out → ListExactly bytes out
      pick (odd f e) = record {
        bound = (λ _. f, λ _. ap number e);
        room = (λ q. absurd (omega (arith, q, ap number e)), λ p. absurd (f p.0));
        done = (λ q. absurd (omega (arith, q, ap number e)), λ p. absurd (f p.0));
        no_other = inr (inl (ap number e));
      }
      pick (short w h e) = record {
        bound = (λ q. absurd (omega (arith, q, ap number e)), λ f. absurd (f w));
        room = (λ _. (w, h), λ _. ap number e);
        done = (λ q. absurd (omega (arith, q, ap number e)), λ p. absurd (omega (arith, p.1)));
        no_other = inr (inr (ap number e));
      }
      pick (done w h e) = record {
        bound = (λ q. absurd (omega (arith, q, ap number e)), λ f. absurd (f w));
        room = (λ q. absurd (omega (arith, q, ap number e)), λ p. absurd (omega (arith, p.1)));
        done = (λ _. (w, h), λ _. ap number e);
        no_other = inl (ap number e);
      }

  -- ---- the lent output
  abbrev Keeps : ListOutcome → Type 0
  Keeps o = Kept (number o) o.numbers.length out o.out

  pub list_keeps : Keeps (list_call bytes out)
  list_keeps = pick told
    where
      pick : Told bytes out → Keeps (list_call bytes out)
      pick (odd f e) = rw e (kept_refused 1 0 out)
      pick (short w h e) = rw e (kept_refused 7 0 out)
      pick (done w h e) = rw e (kept_result (listed_length bytes) (listing (words_of bytes)) out refl h)
