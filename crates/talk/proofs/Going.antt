-- Stretch after stretch of a script: what is still to be done leaves what all of it leaves.
use mathlib.Core.Path.{◌≡◌, refl, sym, ap, ◌∙◌}
use mathlib.Core.List.{List}
use Prim.Native.Nat.{ℕ, ◌≤◌}
use native.Mathlib.Omega.{arith}
use lib.ListN.{length, drop_of_length-le}
use Rattle.talk.specs.Script.{lines_of, Talk, Speech, talk}
use Rattle.talk.specs.Stretch.{Point, point, on_from, Goes}

-- a script that is counted is short enough
pub short : {count n : ℕ} → count ≡ n → count ≤ 65536 → n ≤ 65536
short e h = omega arith

module _ {D : Type 0} (spoken : Speech D) (script : List ℕ) (d₀ : D) where
  -- so far the script is done that began at the desk d₀
  pub record Going (q : Point D) : Type 0 where
    pub talks : (talk spoken 0 d₀ (lines_of script)).desk ≡ (on_from spoken script q).desk
    pub numbered : q.number ≤ q.place

  pub starts : Going (point 0 d₀ 0)
  starts = record { talks = refl; numbered = omega arith }

  -- one stretch more
  pub again : {q r : Point D} → Going q → {before after : List ℕ} {filled : ℕ} → Goes spoken script before q after r filled → r.number ≤ r.place
      → Going r
  again g h n = record { talks = g.talks ∙ ap (λ (t : Talk D). t.desk) h.talks; numbered = n }

  -- at the script's end nothing is to be said any more
  pub at_end : {q : Point D} → Going q → length script ≤ q.place → q.desk ≡ (talk spoken 0 d₀ (lines_of script)).desk
  unfolding talk lines_of
  at_end g h = sym (g.talks ∙ rw (drop_of_length-le script h))
