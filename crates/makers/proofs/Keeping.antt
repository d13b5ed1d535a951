-- What a call leaves of the lent output: all of it, or all but a result at its beginning.
use mathlib.Core.Path.{◌≡◌, refl, ap, ◌∙◌}
use mathlib.Core.List.{List}
use Prim.Native.Nat.{ℕ, ◌+◌, ◌≤◌}
use native.Mathlib.Nat.{zero-add}
use native.Mathlib.Omega.{arith}
use lib.ListN.{length, drop}
use lib.Seq.{drop-append_seam}
use Rattle.laws.specs.Over.{over}
use Rattle.laws.proofs.Over.{length_over}
use Rattle.makers.specs.Refusals.{Kept}

pub kept_refused : (number n : ℕ) (out : List ℕ) → Kept number n out out
kept_refused number n out = record { refused = λ _. refl; behind = λ _. refl; long = refl }

pub kept_result : (n : ℕ) (result out : List ℕ) → length result ≡ n → n ≤ length out → Kept 0 n out (over 0 result out)
kept_result n result out e h = record {
  refused = λ f. absurd (f refl);
  behind = λ _.
      rw (← e) (drop-append_seam result (drop (0 + length result) out) ∙ ap (λ k. drop k out) (zero-add (length result)));
  long = length_over 0 result out (omega arith);
}
