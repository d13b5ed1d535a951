-- Laws of putting bytes into a buffer: none, one byte, one thing after another; and what is read in the buffer afterwards.
use mathlib.Core.Path.{◌≡◌, refl, sym, ap, ◌∙◌}
use mathlib.Core.List.{List, [], ◌∷◌, ◌++◌}
use Prim.Native.Nat.{ℕ, ◌+◌, ◌-◌, ◌≤◌, ◌<◌}
use native.Mathlib.Nat.{add-zero, sub-zero}
use native.Mathlib.Omega.{arith}
use lib.ListN.{length, take, drop, set, length-append}
use lib.Seq.{length-take-le}
use Rattle.laws.specs.Over.{over}
use Rattle.laws.proofs.Over.{over_none, over_one, over_over, length_over, part_over}
use Rattle.text.specs.Text.{Appended}

pub nothing : (d : List ℕ) (at : ℕ) → at ≤ length d → Appended d at d at []
nothing d at h = record { place = sym (add-zero at); room = h; buffer = sym (over_none at d) }

pub byte : (d : List ℕ) (at b : ℕ) → at < length d → Appended d at (set d at b) (at + 1) (b ∷ [])
byte d at b h = record { place = refl; room = omega arith; buffer = over_one at b d h }

-- the bytes lie in the buffer, which stays as long as it was
inside : {d e : List ℕ} {i j : ℕ} {x : List ℕ} → Appended d i e j x → i + length x ≤ length d
inside p = omega arith

pub length_appended : {d e : List ℕ} {i j : ℕ} {x : List ℕ} → Appended d i e j x → length e ≡ length d
length_appended {d} {e} {i} {j} {x} p = ap length p.buffer ∙ length_over i x d (inside p)

pub joined : {d e f : List ℕ} {i j k : ℕ} {x y : List ℕ} → Appended d i e j x → Appended e j f k y → Appended d i f k (x ++ y)
joined {d} {e} {f} {i} {j} {k} {x} {y} p q = record {
  place = omega (arith, length-append x y);
  room = omega (arith, length_appended p);
  buffer = q.buffer ∙ ap (λ l. over j y l) p.buffer ∙ ap (λ n. over n y (over i x d)) p.place ∙ over_over i x d (inside p) y;
}

-- the same bytes, said otherwise
pub same : {d e : List ℕ} {i j : ℕ} {x y : List ℕ} → Appended d i e j x → x ≡ y → Appended d i e j y
same {d} {e} {i} {j} p h = rw h at p

-- ---- the part of the buffer that is written, and all up to its end
pub within : {d e : List ℕ} {i j : ℕ} {x : List ℕ} → Appended d i e j x → j ≤ length e
within p = omega (arith, length_appended p)

pub counted : {d e : List ℕ} {i j : ℕ} {x : List ℕ} → Appended d i e j x → j ≡ length (take j e)
counted {e = e} {j = j} p = sym (length-take-le j e (within p))

pub part_written : {d e : List ℕ} {i j : ℕ} {x : List ℕ} → Appended d i e j x → take (j - i) (drop i e) ≡ x
part_written {d} {e} {i} {j} {x} p =
    let n : j - i ≡ length x = omega arith in
    rw n (ap (λ l. take (length x) (drop i l)) p.buffer ∙ part_over i x d (inside p))

pub written : {d e : List ℕ} {n : ℕ} {x : List ℕ} → Appended d 0 e n x → take n e ≡ x
written {n = n} p = rw (sub-zero n) at (part_written p)
